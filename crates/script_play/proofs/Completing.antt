-- A run on a formatted disk in which no device failed.
use Rattle.std.specs.Prelude.{◌≡◌, ◌⊎◌, ℕ, List, [], Option, None, Some, IsSome, refl}
use Rattle.std.specs.List.{count_by}
use Rattle.std.proofs.Common.{sym, subst, inl, inr, ⊎_elim, arith}
use Rattle.std.proofs.lemmas.Bool.{true≢false}
use Rattle.aw_lists.specs.Faults.{Rose}
use Rattle.script_disk.specs.WhyUnopened.{AreFormatted, IsUnopened, status_of as unopened_status}
use Rattle.script_disk.specs.declared.opening.Unopened.{Unopened}
use Rattle.script_disk.specs.declared.opening.Unopened.TheVariants as unopened
use Rattle.script_disk.proofs.callers.Completing.{not_unformatted, not_damaged}
use Rattle.aw_codec.specs.declared.record.Decoded.{Decoded}
use Rattle.aw_io.specs.Known.{Grows}
use Rattle.script_world.specs.Outcomes.{AreDone, Outcome, Attempt, has_faulted}
use Rattle.script_meaning.specs.Transcript.{transcript}
use Rattle.script_meaning.proofs.callers.AllDone.{none_faulted, transcript_as_with_none}
use Rattle.script_play.specs.declared.ending.Ending.{Ending}
use Rattle.script_play.specs.declared.ending.Ending.TheVariants.{Accepted, Refusing, SourceFault, SinkFault, DiskFault, NoMemory, TooLong}
use Rattle.script_play.specs.Runs.{status_of, Streams, FewFaults, EndsSo, Run, Ends, Completes}

-- no outcome is a fault where no fault was counted
no_faults : (outcomes : List Outcome) (before now : ℕ) → FewFaults outcomes before now → (Rose before now → ⊥) → count_by has_faulted outcomes ≡ 0
no_faults outcomes before now few none = ⊎_elim (λ less. omega (arith, less, none)) (λ last. absurd (none (omega (arith, last)))) few

ends_well : (ending : Ending) (status : ℕ) → status ≡ status_of ending → (status ≡ 3 → ⊥) → (status ≡ 4 → ⊥) → (status ≡ 5 → ⊥) → (status ≡ 0) ⊎ (status ≡ 1) ⊎ (status ≡ 6) ⊎ (status ≡ 10)
ends_well Accepted status is source sink disk = inl is
ends_well Refusing status is source sink disk = inr (inl is)
ends_well NoMemory status is source sink disk = inr (inr (inl is))
ends_well TooLong status is source sink disk = inr (inr (inr is))
ends_well SourceFault status is source sink disk = absurd (source is)
ends_well SinkFault status is source sink disk = absurd (sink is)
ends_well DiskFault status is source sink disk = absurd (disk is)

-- what was written is the transcript with no faults
whole_text : (ending : Ending) (status : ℕ) (s : Streams) (records : List Decoded) (outcomes : List Outcome) (made : List (Attempt Decoded)) (taken : List ℕ) → AreDone outcomes → status ≡ status_of ending → EndsSo s records outcomes made taken ending → (status ≡ 0) ⊎ (status ≡ 1) → Grows s.written_before s.written_now (transcript [] records [] taken)
whole_text Accepted status s records outcomes made taken all is ends well = subst (Grows s.written_before s.written_now) (transcript_as_with_none [] records outcomes taken all) ends.wrote
whole_text Refusing status s records outcomes made taken all is ends well = subst (Grows s.written_before s.written_now) (transcript_as_with_none [] records outcomes taken all) ends.wrote
whole_text SourceFault status s records outcomes made taken all is ends well = absurd (⊎_elim (λ zero. omega (arith, is, zero)) (λ one. omega (arith, is, one)) well)
whole_text SinkFault status s records outcomes made taken all is ends well = absurd (⊎_elim (λ zero. omega (arith, is, zero)) (λ one. omega (arith, is, one)) well)
whole_text DiskFault status s records outcomes made taken all is ends well = absurd (⊎_elim (λ zero. omega (arith, is, zero)) (λ one. omega (arith, is, one)) well)
whole_text NoMemory status s records outcomes made taken all is ends well = absurd (⊎_elim (λ zero. omega (arith, is, zero)) (λ one. omega (arith, is, one)) well)
whole_text TooLong status s records outcomes made taken all is ends well = absurd (⊎_elim (λ zero. omega (arith, is, zero)) (λ one. omega (arith, is, one)) well)

-- a formatted disk isn't opened for want of memory alone
wants : (images : List ℕ → Type 0) (content written_before written_now : Option (List ℕ)) (why : Unopened) (status : ℕ) → AreFormatted images → ((image : List ℕ) → content ≡ Some image → images image) → IsSome content → status ≡ unopened_status why → IsUnopened why content written_before written_now → (status ≡ 4 → ⊥) → (status ≡ 5 → ⊥) → status ≡ 6
wants images None written_before written_now why status formatted is told status_is tells sink disk = absurd (true≢false (sym told))
wants images (Some image) written_before written_now unopened.Unformatted status formatted is told status_is tells sink disk = absurd (not_unformatted images image formatted (is image refl) tells.0)
wants images (Some image) written_before written_now (unopened.Damaged offset) status formatted is told status_is tells sink disk = absurd (not_damaged images image offset formatted (is image refl) tells.0)
wants images (Some image) written_before written_now unopened.DiskFault status formatted is told status_is tells sink disk = absurd (disk status_is)
wants images (Some image) written_before written_now unopened.NoMemory status formatted is told status_is tells sink disk = status_is
wants images (Some image) written_before written_now unopened.SinkFault status formatted is told status_is tells sink disk = absurd (sink status_is)

module _ (r : Run) (status : ℕ) where
  pub completes_so : Ends r status → AreFormatted (r.crash_before r.clock_before) → ((image : List ℕ) → r.content_before ≡ Some image → r.crash_before r.clock_before image) → IsSome r.content_before → (status ≡ 3 → ⊥) → (status ≡ 4 → ⊥) → (status ≡ 5 → ⊥) → (Rose r.faults_before r.faults_now → ⊥) → Completes r status
  completes_so ends formatted is told source sink disk none = ⊎_elim
      (λ not. inr (wants (r.crash_before r.clock_before) r.content_before r.streams.written_before r.streams.written_now not.why status formatted is told not.is not.tells sink disk))
      (λ was.
      let all = none_faulted was.outcomes (no_faults was.outcomes r.faults_before r.faults_now was.few none) in
      inl (record {
        opened = was;
        all_done = all;
        status_is = ends_well was.ending status was.is source sink disk;
        whole = whole_text was.ending status r.streams was.records was.outcomes was.made was.taken all was.is was.ends_so;
      }))
      ends
