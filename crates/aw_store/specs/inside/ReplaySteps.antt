-- Replaying records one after the other: what the records so far leave, and what the next one makes of it.
use Rattle.std.specs.Prelude.{ℕ, ◌≡◌, ◌+◌, ◌++◌, false, List, [], ◌∷◌, fold, length, map, Option, None, IsTrue}
use Rattle.aw_schema.specs.declared.definition.Def.{Def}
use Rattle.aw_codec.specs.declared.record.Decoded.{Decoded}
use Rattle.aw_codec.specs.Records.{spelled}
use Rattle.aw_journal.specs.Format.{frames}
use Rattle.aw_journal.specs.declared.fault.LoadFault.{LoadFault}
use Rattle.aw_journal.specs.declared.fault.LoadFault.TheVariants as load
use Rattle.aw_journal.specs.declared.payload.Payload.{Payload}
use Rattle.mv_core.specs.Workspace.{Table}
use Rattle.aw_store.specs.StoredRecords.{can_replay, definitions_of, stood_by, IsStored}
use Rattle.aw_store.specs.inside.PayloadRecords.{record_from, IsNext, AreSpellings}

-- ---- the records so far

-- these records leave this catalogue and these objects, which nobody owns
pub record Leave (records : List Decoded) (catalogue : Option (List Def)) (table : Table) : Type 0 where
  pub replayable : IsTrue (can_replay records)
  pub definitions_are : catalogue ≡ definitions_of records
  pub table_is : table ≡ stood_by records []

-- these bytes spell no record with which the records so far can be replayed
abbrev pub IsNoNext : List Decoded → List ℕ → Type 0
IsNoNext records bytes = (r : Decoded) → IsStored r → bytes ≡ spelled r → can_replay (records ++ r ∷ []) ≡ false

-- these bytes spell the next record, and with it the records leave this catalogue and these objects
pub record Taken (records : List Decoded) (bytes : List ℕ) (catalogue : Option (List Def)) (table : Table) : Type 0 where
  pub next : IsNext records bytes
  pub leave : Leave (records ++ record_from bytes ∷ []) catalogue table

-- ---- all payloads of a journal

abbrev pub bytes_of : Payload → List ℕ
bytes_of payload = payload.bytes

-- the bytes of the last one, and none where there is none
abbrev pub last_bytes : List (List ℕ) → List ℕ
last_bytes settled = fold (λ (before bytes : List ℕ). bytes) [] settled

-- the payloads spell records that leave this catalogue and these objects
pub record AreReplayed (settled : List (List ℕ)) (catalogue : Option (List Def)) (table : Table) : Type 0 where
  pub spellings : AreSpellings settled None
  pub leave : Leave (map record_from settled) catalogue table

-- the first payload that can't be replayed stands behind the gate at this offset
pub record IsStopped (settled : List (List ℕ)) (offset : ℕ) : Type 0 where
  pub before : List (List ℕ)
  pub payload : List ℕ
  pub after : List (List ℕ)
  pub parts : settled ≡ before ++ payload ∷ after
  pub spellings : AreSpellings before None
  pub bad : IsNoNext (map record_from before) payload
  pub place : offset ≡ 8 + length (frames before)

-- why the payloads can't be replayed
abbrev pub Stops : LoadFault → List (List ℕ) → Type 0
Stops load.Unformatted settled = ⊥
Stops (load.Damaged offset) settled = IsStopped settled offset
Stops load.DiskFault settled = ⊥
Stops load.NoMemory settled = Unit {0}
