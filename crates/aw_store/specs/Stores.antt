-- A store between two calls, and what its calls do to it.
use Rattle.std.specs.Prelude.{ℕ, ◌≡◌, ◌≤◌, ◌<◌, ◌⊎◌, ◌++◌, true, false, List, [], ◌∷◌, length, min, Option, None, Some, IsTrue}
use Rattle.aw_schema.specs.declared.definition.Def.{Def}
use Rattle.aw_body.specs.declared.body.Body.{Body}
use Rattle.aw_body.specs.declared.change.Change.{Change}
use Rattle.aw_body.specs.Generations.{Bodies}
use Rattle.aw_body.specs.Owners.{Owners}
use Rattle.aw_codec.specs.declared.record.Decoded.{Decoded}
use Rattle.aw_codec.specs.declared.record.Decoded.TheVariants as recorded
use Rattle.aw_codec.specs.Records.{spelled}
use Rattle.mv_core.specs.declared.entry.Entry.{Entry}
use Rattle.mv_core.specs.declared.entry.Entry.TheVariants.{Commit}
use Rattle.mv_core.specs.declared.entry.Reply.{Reply}
use Rattle.mv_core.specs.declared.entry.Reply.TheVariants.{NoMemory, Fault, TooLarge}
use Rattle.mv_core.specs.Replies.{reply_of}
use Rattle.mv_core.specs.SharedStep.{writes, takes_memory, table_after, shared_step, IsLegal}
use Rattle.mv_core.specs.Workspace.{Workspace, Table, table_of}
use Rattle.aw_store.specs.StoredRecords.{can_replay, definitions_of, stood_by}

-- the disk; the settled records; the record in doubt after a disk fault; the definitions, and each object as it stands
pub record StoreState (D : Type 0) : Type 0 where
  pub disk : D
  pub records : List Decoded
  pub doubt : Option Decoded
  pub table : Table

-- the records can be replayed, and the catalogue and the objects follow from them, with some owners
pub record StandFor (records : List Decoded) (catalogue : Option (List Def)) (table : Table) : Type 0 where
  pub replayable : IsTrue (can_replay records)
  pub definitions_are : catalogue ≡ definitions_of records
  pub owners : Owners
  pub table_is : table ≡ stood_by records owners

-- ---- the record of an entry

-- the record of an entry that writes one
abbrev pub record_of : Entry → Decoded
record_of (Commit who changes leave) = recorded.Commit changes
record_of _ = recorded.Commit []

-- it has this many bytes, which are too many; numbers of bytes end at 2 ^ 64 - 1
pub record IsTooLong (r : Decoded) (bytes : ℕ) : Type 0 where
  pub bytes_are : bytes ≡ min (length (spelled r)) 18446744073709551615
  pub many : 67108864 < bytes

-- what an entry asks to make: nothing, or these changes
abbrev pub AsksFor : Entry → Option (List Change) → Type 0
AsksFor entry None = (reply : Reply) → writes entry reply ≡ false
AsksFor entry (Some changes) = (who : ℕ) × (leave : List ℕ) × (entry ≡ Commit who changes leave)

-- the shared step grants this entry, and its record is to be written
abbrev pub IsGranted : Entry → Table → Type 0
IsGranted entry table = writes entry (reply_of table.definitions table.objects entry) ≡ true

-- ---- what an act does

module _ {D : Type 0} where
  -- after a disk fault all is as before, but for the disk, and the record in doubt, which is the old one or this
  pub record Doubts (r : Decoded) (old new : StoreState D) : Type 0 where
    pub short : length (spelled r) ≤ 67108864
    pub records : new.records ≡ old.records
    pub table : new.table ≡ old.table
    pub doubt : (new.doubt ≡ old.doubt) ⊎ (new.doubt ≡ Some r)

  -- a record was written, and is settled
  pub record Writes (r : Decoded) (old new : StoreState D) : Type 0 where
    pub short : length (spelled r) ≤ 67108864
    pub records : new.records ≡ old.records ++ r ∷ []
    pub doubt : new.doubt ≡ None

  -- the reply of the shared step, and the objects that it leaves; the disk and the records change where it writes
  pub record Answers (entry : Entry) (reply : Reply) (old new : StoreState D) : Type 0 where
    pub reply_is : reply ≡ reply_of old.table.definitions old.table.objects entry
    pub table : new.table ≡ table_after old.table entry reply
    pub written : writes entry reply ≡ true → Writes (record_of entry) old new
    pub unwritten : writes entry reply ≡ false → new ≡ record old { table = new.table }

  -- the disk failed in a commit that would have been granted
  pub record Faults (entry : Entry) (old new : StoreState D) : Type 0 where
    pub granted : IsGranted entry old.table
    pub doubts : Doubts (record_of entry) old new

  -- the record of a commit that would have been granted is too long, and nothing was done
  pub record IsCutOff (entry : Entry) (bytes : ℕ) (old new : StoreState D) : Type 0 where
    pub granted : IsGranted entry old.table
    pub long : IsTooLong (record_of entry) bytes
    pub same : new ≡ old

  -- what an act does: want of memory changes nothing
  abbrev pub Acts : Entry → Reply → StoreState D → StoreState D → Type 0
  Acts entry NoMemory old new = IsTrue (takes_memory entry) × (new ≡ old)
  Acts entry (TooLarge bytes) old new = IsCutOff entry bytes old new
  Acts entry Fault old new = Faults entry old new
  Acts entry reply old new = Answers entry reply old new

-- ---- for the commits and the owners

-- An act's reply and the objects that it leaves are what the shared step has for these commits and owners. After a disk
-- fault, and where the record is too long, the objects stand as before; both come to a commit with changes alone that the
-- step grants.
module _ (bodies : Bodies Body Change) where
  abbrev pub IsLegalOnDisk : Workspace → Entry → Reply → Table → Type 0
  IsLegalOnDisk w entry (TooLarge bytes) table =
      (writes entry (shared_step bodies w entry).0 ≡ true) × IsTooLong (record_of entry) bytes × (table ≡ table_of bodies w)
  IsLegalOnDisk w entry Fault table =
      (writes entry (shared_step bodies w entry).0 ≡ true) × (length (spelled (record_of entry)) ≤ 67108864) × (table ≡ table_of bodies w)
  IsLegalOnDisk w entry reply table = IsLegal bodies w entry reply table
