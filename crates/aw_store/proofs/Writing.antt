-- What writing a record does to a store.
use Rattle.std.proofs.Common.{List, [], ◌∷◌, ◌++◌, Option, Some, None, ℕ, ◌≡◌, ◌⊎◌, ◌<◌, true, false, IsTrue, refl, ap, sym, subst, ◌∙◌, length, min, arith}
use Rattle.std.specs.Option.{is_some}
use Rattle.aw_schema.specs.declared.definition.Def.{Def}
use Rattle.aw_body.specs.declared.body.Body.{Body}
use Rattle.aw_body.specs.declared.change.Change.{Change}
use Rattle.aw_body.specs.KeptBodies.{bodies_of}
use Rattle.aw_codec.specs.declared.record.Decoded.{Decoded}
use Rattle.aw_codec.specs.declared.record.Decoded.TheVariants as recorded
use Rattle.aw_codec.specs.Records.{spelled, IsRecord, FitsPayload}
use Rattle.mv_core.specs.declared.entry.Entry.{Entry}
use Rattle.mv_core.specs.declared.entry.Reply.{Reply}
use Rattle.mv_core.specs.declared.entry.Reply.TheVariants.{TooLarge, Fault}
use Rattle.mv_core.specs.declared.object.Object.{Object}
use Rattle.mv_core.specs.Effects.{objects_after}
use Rattle.mv_core.specs.Replies.{reply_of}
use Rattle.mv_core.specs.SharedStep.{writes}
use Rattle.mv_core.specs.Workspace.{Table, opened, table_of}
use Rattle.aw_store.specs.StoredRecords.{IsStored, can_replay}
use Rattle.aw_store.specs.inside.PayloadRecords.{record_from, IsNext, LogState}
use Rattle.aw_store.specs.Stores.{StoreState, Writes, Doubts, Acts, IsTooLong, AsksFor, StandFor, record_of}
use Rattle.aw_store.proofs.callers.Commits.{CanWrite, can-write-prepared, StandFor-written, StandFor-defined}
use Rattle.aw_store.proofs.callers.Spellings.{found, IsNext-spelled}
use Rattle.aw_store.proofs.Steps.{acts-written, acts-fault, acts-too_large, with_objects}

-- bytes that a record was spelled as
pub record IsSpelling (r : Decoded) (bytes : List ℕ) : Type 0 where
  pub is : record_from bytes ≡ r
  pub stored : IsStored r
  pub spelling : bytes ≡ spelled r

pub spelled-as : (r : Decoded) (bytes : List ℕ) → IsRecord r → bytes ≡ spelled r → FitsPayload bytes → IsSpelling r bytes
spelled-as r bytes fits same short = record {
  is = found r bytes fits same;
  stored = record { spelling = fits; short = omega (arith, short.1, ap length same) };
  spelling = same;
}

pub next-spelled : (records : List Decoded) (r : Decoded) (bytes : List ℕ) → IsSpelling r bytes → IsTrue (can_replay (records ++ r ∷ [])) → IsNext records bytes
next-spelled records r bytes spelling replayable = IsNext-spelled records r bytes spelling.stored spelling.spelling replayable

module _ {D : Type 0} where
  abbrev pub state_of : LogState D → Table → StoreState D
  state_of log table = record { disk = log.disk; records = log.records; doubt = log.doubt; table = table }

module _ {D : Type 0} (log after : LogState D) (table : Table) where
  -- a record that was written
  pub Writes-written : (new : Table) (r : Decoded) (bytes : List ℕ) → IsSpelling r bytes → after ≡ record { disk = after.disk; records = log.records ++ record_from bytes ∷ []; doubt = None } → Writes r (state_of log table) (state_of after new)
  Writes-written new r bytes spelling wrote = record {
    short = spelling.stored.short;
    records = ap (λ (one : LogState D). one.records) wrote ∙ ap (λ (one : Decoded). log.records ++ one ∷ []) spelling.is;
    doubt = ap (λ (one : LogState D). one.doubt) wrote;
  }

  -- a record that the disk refused
  pub Doubts-faulted : (r : Decoded) (bytes : List ℕ) → IsSpelling r bytes → (after.records ≡ log.records) × ((after.doubt ≡ log.doubt) ⊎ (after.doubt ≡ Some (record_from bytes))) → Doubts r (state_of log table) (state_of after table)
  Doubts-faulted r bytes spelling faulted = record {
    short = spelling.stored.short;
    records = faulted.0;
    table = refl;
    doubt = subst (λ (one : Decoded). (after.doubt ≡ log.doubt) ⊎ (after.doubt ≡ Some one)) spelling.is faulted.1;
  }

  -- ---- definitions

  pub definitions-stand : (catalogue : Option (List Def)) (stand : StandFor log.records catalogue table) (definitions : List Def) (bytes : List ℕ) (new : Table) → is_some catalogue ≡ false → can_replay (log.records ++ recorded.Definitions definitions ∷ []) ≡ true
      → IsSpelling (recorded.Definitions definitions) bytes → new ≡ table_of (bodies_of definitions) (opened definitions) → after ≡ record { disk = after.disk; records = log.records ++ record_from bytes ∷ []; doubt = None } → StandFor after.records (Some definitions) new
  definitions-stand catalogue stand definitions bytes new none replayable spelling objects wrote =
      let more : after.records ≡ log.records ++ recorded.Definitions definitions ∷ [] = (Writes-written new (recorded.Definitions definitions) bytes spelling wrote).records in
      subst (λ (records : List Decoded). StandFor records (Some definitions) new) (sym more) (StandFor-defined log.records catalogue table stand definitions new none replayable objects)

  -- ---- a commit

  module _ (entry : Entry) (reply : Reply) (changes : List Change) (asked : AsksFor entry (Some changes)) (answered : reply ≡ reply_of table.definitions table.objects entry) where
    record-is : recorded.Commit changes ≡ record_of entry
    record-is = sym (ap record_of asked.2)

    -- it can follow the records so far
    pub commit-can : (catalogue : Option (List Def)) (stand : StandFor log.records catalogue table) → writes entry reply ≡ true → CanWrite log.records catalogue table stand changes
    commit-can catalogue stand granted =
        can-write-prepared log.records catalogue table stand entry reply asked.0 changes asked.1 asked.2 answered granted

    pub commit-next : (catalogue : Option (List Def)) → StandFor log.records catalogue table → writes entry reply ≡ true → (bytes : List ℕ) → IsSpelling (recorded.Commit changes) bytes → IsNext log.records bytes
    commit-next catalogue stand granted bytes spelling =
        next-spelled log.records (recorded.Commit changes) bytes spelling (commit-can catalogue stand granted).replayable

    pub commit-stands : (catalogue : Option (List Def)) → StandFor log.records catalogue table → writes entry reply ≡ true → (bytes : List ℕ) (objects : List (Option (Object Body))) (new : Table) → IsSpelling (recorded.Commit changes) bytes → objects ≡ objects_after table.objects entry reply
        → new ≡ with_objects table objects → after ≡ record { disk = after.disk; records = log.records ++ record_from bytes ∷ []; doubt = None } → StandFor after.records catalogue new
    commit-stands catalogue stand granted bytes objects new spelling leaves objects_are wrote =
        let can = commit-can catalogue stand granted in
        let stood = StandFor-written log.records catalogue table stand entry reply asked.0 changes asked.1 objects asked.2 leaves granted can.replayable in
        let more : after.records ≡ log.records ++ recorded.Commit changes ∷ [] = (Writes-written new (recorded.Commit changes) bytes spelling wrote).records in
        subst (λ (records : List Decoded). StandFor records catalogue new) (sym more)
        (subst (λ (one : Table). StandFor (log.records ++ recorded.Commit changes ∷ []) catalogue one) (sym objects_are) stood)

    pub commit-written : (bytes : List ℕ) (objects : List (Option (Object Body))) (new : Table) (result : Reply) → writes entry reply ≡ true → IsSpelling (recorded.Commit changes) bytes → objects ≡ objects_after table.objects entry reply → result ≡ reply
        → new ≡ with_objects table objects → after ≡ record { disk = after.disk; records = log.records ++ record_from bytes ∷ []; doubt = None } → Acts entry result (state_of log table) (state_of after new)
    commit-written bytes objects new result granted spelling leaves same objects_are wrote =
        let wrote' = subst (λ (r : Decoded). Writes r (state_of log table) (state_of after new)) record-is (Writes-written new (recorded.Commit changes) bytes spelling wrote) in
        subst (λ (one : Reply). Acts entry one (state_of log table) (state_of after new)) (sym same)
        (acts-written entry (state_of log table) (state_of after new) reply objects answered leaves granted objects_are wrote')

    pub commit-faulted : (bytes : List ℕ) → writes entry reply ≡ true → IsSpelling (recorded.Commit changes) bytes → (after.records ≡ log.records) × ((after.doubt ≡ log.doubt) ⊎ (after.doubt ≡ Some (record_from bytes))) → Acts entry Fault (state_of log table) (state_of after table)
    commit-faulted bytes granted spelling faulted =
        acts-fault entry (state_of log table) (state_of after table) reply answered granted (subst (λ (r : Decoded). Doubts r (state_of log table) (state_of after table)) record-is (Doubts-faulted (recorded.Commit changes) bytes spelling faulted))

    pub commit-too_large : (bytes : ℕ) → writes entry reply ≡ true → (bytes ≡ min (length (spelled (recorded.Commit changes))) 18446744073709551615) × (67108864 < bytes) → Acts entry (TooLarge bytes) (state_of log table) (state_of log table)
    commit-too_large bytes granted long =
        acts-too_large entry (state_of log table) (state_of log table) reply bytes answered granted (subst (λ (r : Decoded). IsTooLong r bytes) record-is (record { bytes_are = long.0; many = long.1 })) refl
