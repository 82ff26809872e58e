-- What loading finds.
use Rattle.std.proofs.Common.{ℕ, ◌≡◌, ◌+◌, ◌++◌, ◌∷◌, [], List, length, map, Option, None, Some, IfSome, refl, ap, sym, subst, ◌∙◌, inr}
use Rattle.aw_journal.specs.Format.{Holds, frames, placed}
use Rattle.aw_journal.specs.declared.fault.LoadFault.{LoadFault}
use Rattle.aw_journal.specs.declared.fault.LoadFault.TheVariants.{Unformatted, Damaged, DiskFault, NoMemory}
use Rattle.aw_journal.specs.declared.payload.Payload.{Payload}
use Rattle.aw_store.specs.StoredRecords.{HoldsRecords, IsBadRecord, IsRefused, stood_by}
use Rattle.mv_core.specs.Workspace.{Table}
use Rattle.std.specs.Option.{option_map}
use Rattle.aw_store.specs.inside.PayloadRecords.{record_from, AreSpellings, LogState}
use Rattle.aw_store.specs.inside.ReplaySteps.{bytes_of, IsStopped, Stops}

-- ---- the payloads of a journal

pub bytes_of-placed : (offset : ℕ) (settled : List (List ℕ)) → map bytes_of (placed offset settled) ≡ settled
bytes_of-placed offset [] = refl
bytes_of-placed offset (bytes ∷ settled) = ap (λ (rest : List (List ℕ)). bytes ∷ rest) (bytes_of-placed (offset + 5 + length bytes) settled)

pub placed-bytes_of : (payloads : List Payload) (settled : List (List ℕ)) → payloads ≡ placed 8 settled → map bytes_of payloads ≡ settled
placed-bytes_of payloads settled places = ap (map bytes_of) places ∙ bytes_of-placed 8 settled

-- ---- why a disk is refused

bad_record : (image : List ℕ) (settled : List (List ℕ)) (offset : ℕ) → Holds image settled → IsStopped settled offset → IsBadRecord image offset
bad_record image settled offset holds stopped =
    let same = sym stopped.spellings.same in
    record {
      before = map record_from stopped.before;
      payload = stopped.payload;
      after = stopped.after;
      holds = subst (Holds image) (stopped.parts ∙ ap (λ front. front ++ stopped.payload ∷ stopped.after) same) holds;
      spellings = stopped.spellings.spellings;
      replayable = stopped.spellings.replayable;
      bad = stopped.bad;
      place = stopped.place ∙ ap (λ front. 8 + length (frames front)) same;
    }

pub refused-stopped : (fault : LoadFault) (content : Option (List ℕ)) (settled : List (List ℕ)) → IfSome content (λ image. Holds image settled) → Stops fault settled → IfSome content (IsRefused fault)
refused-stopped fault None settled holds stops = tt
refused-stopped Unformatted (Some image) settled holds stops = absurd stops
refused-stopped (Damaged offset) (Some image) settled holds stops = inr (bad_record image settled offset holds stops)
refused-stopped DiskFault (Some image) settled holds stops = absurd stops
refused-stopped NoMemory (Some image) settled holds stops = tt

pub held-replayed : (content : Option (List ℕ)) (settled : List (List ℕ)) → IfSome content (λ image. Holds image settled) → AreSpellings settled None → IfSome content (λ image. HoldsRecords image (map record_from settled))
held-replayed None settled holds are = tt
held-replayed (Some image) settled holds are = record {
  holds = subst (Holds image) (sym are.same) holds;
  spellings = are.spellings;
  replayable = are.replayable;
}

-- what is there before any act
pub opened-replayed : {D : Type 0} (disk : D) (settled : List (List ℕ)) (doubt : Option (List ℕ)) (log : LogState D) (table : Table)
    → log ≡ record { disk = disk; records = map record_from settled; doubt = option_map record_from doubt } → doubt ≡ None → table ≡ stood_by (map record_from settled) [] → (log.doubt ≡ None) × (table ≡ stood_by log.records [])
opened-replayed {D} disk settled doubt log table is none stood =
    (ap (λ (one : LogState D). one.doubt) is ∙ ap (option_map record_from) none, stood ∙ ap (λ (one : LogState D). stood_by one.records []) (sym is))
