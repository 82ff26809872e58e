-- What the calls of a store do, as steps of the machine on a disk, and as attempts of a run.
use Rattle.std.specs.Prelude.{◌≡◌, ◌≢◌, ◌⊎◌, ◌++◌, ℕ, Bool, true, false, List, [], ◌∷◌, length, min, Option, Some, None, if◌then◌else◌, refl}
use Rattle.std.proofs.Common.{◌∙◌, ap, ap₂, sym, subst, subst₂, ⊎_elim, arith, append_assoc, append-nil}
use Rattle.std.proofs.lemmas.Option.{none-some, same_Some}
use Rattle.aw_codec.specs.declared.record.Decoded.{Decoded}
use Rattle.aw_journal.specs.Passed.{Passed}
use Rattle.mv_core.specs.declared.entry.Entry.{Entry}
use Rattle.mv_core.specs.declared.entry.Entry.TheVariants.{Attach, Acquire, Resync, Commit, Release, Detach}
use Rattle.mv_core.specs.declared.entry.Reply.{Reply}
use Rattle.mv_core.specs.declared.entry.Reply.TheVariants.{Attached, Acquired, Resynced, Committed, Released, Detached, Owned, Newer, Stranger, Worn, TooLarge, Fault, NoMemory}
use Rattle.mv_core.specs.SharedStep.{writes, table_after, table_step}
use Rattle.mv_core.specs.Workspace.{Table}
use Rattle.aw_store.specs.StoredRecords.{HoldsRecords, LeftRecords}
use Rattle.aw_store.specs.Stores.{StoreState, record_of, Doubts, Writes, Answers, Faults, IsCutOff, Acts}
use Rattle.script_world.specs.Outcomes.{Outcome, done, faulted, Attempt, written, on_disk, done_records, settled_records, IsInDoubt}
use Rattle.script_world.proofs.callers.Forks.{done_records-append}
use Rattle.script_world.specs.LearntOutcomes.{Tells}
use Rattle.script_meaning.specs.Language.{store_writing, objects_machine, is_cut_off, cut_off, bytes_of, ObjectsDisk}
use Rattle.script_meaning.specs.Transcript.{SameRecords}
use Rattle.script_meaning.specs.StoreRuns.{store_disk}
use Rattle.script_meaning.specs.StoreAttempts.{done_where, outcomes_told, attempts_ended, act_attempts, ends_at, HasAttempted, StoreHasAttempted}
use Rattle.script_meaning.proofs.callers.AttemptCrashes.{fares_attempt}
use Rattle.script_meaning.proofs.CutOff.{cut_off-kept, cut_off-cut, kept-short, kept-unwritten, large-unwritten}

want-unwritten : (asked : Entry) → writes asked NoMemory ≡ false
want-unwritten (Attach who) = refl
want-unwritten (Acquire who keep fresh same) = refl
want-unwritten (Resync who listed) = refl
want-unwritten (Commit who [] leave) = refl
want-unwritten (Commit who (c ∷ changes) leave) = refl
want-unwritten (Release who listed) = refl
want-unwritten (Detach who) = refl

-- ---- an act is a step

module _ {D : Type 0} (next : ℕ → Outcome) (opened : Option Decoded) (tried : List (Attempt Decoded)) (asked : Entry) (old new : StoreState D) where
  -- the state on a disk that stands for the store
  abbrev before : ObjectsDisk
  before = store_disk opened tried old

  -- the same for the store after the act
  abbrev after : List (Attempt Decoded) → ObjectsDisk
  after more = store_disk opened (tried ++ more) new

  -- the step has the outcomes that the reply tells
  abbrev pub StepsSo : Reply → Type 0
  StepsSo reply =
      Tells next (length tried) (outcomes_told asked reply) → (on_disk store_writing next objects_machine).step before asked ≡ (reply, after (act_attempts asked reply))

  abbrev ends : Outcome → Bool → Reply × Table → Reply × ObjectsDisk
  ends outcome writing r = written store_writing outcome before r (if writing then Some (record_of asked) else None)

  -- what the machine answers, on the disk
  abbrev ended : Reply × Table → Reply × ObjectsDisk
  ended r = ends (next (length tried)) (writes asked r.0) r

  fault-steps : Faults asked old new → StepsSo Fault
  fault-steps it told =
      ap ended (cut_off-kept old.table asked (table_step old.table asked) (kept-short asked (table_step old.table asked).0 it.doubts.short))
      ∙ ap (λ writing. ends (next (length tried)) writing (table_step old.table asked)) it.granted ∙ ap (λ outcome. ends outcome true (table_step old.table asked)) told.0
      ∙ ap (λ table. let it : Reply × ObjectsDisk = (Fault, record { state = table; opened = opened; tried = tried ++ (record { attempted = record_of asked; outcome = faulted }) ∷ [] }) in it) (sym it.doubts.table)

  answer-steps : (reply : Reply) → outcomes_told asked reply ≡ done_where (writes asked reply) → Answers asked reply old new → StepsSo reply
  answer-steps reply told it =
      subst (λ outcomes. Tells next (length tried) outcomes → (on_disk store_writing next objects_machine).step before asked ≡ (reply, after (attempts_ended (record_of asked) outcomes))) (sym told) (by_test (writes asked reply) refl)
    where
      answered : Reply → Reply × Table
      answered reply = (reply, table_after old.table asked reply)

      kept : (writing : Bool) → writes asked reply ≡ writing → is_cut_off asked reply ≡ false
      kept true is = kept-short asked reply (it.written is).short
      kept false is = kept-unwritten asked reply is

      given : (writing : Bool) → writes asked reply ≡ writing → (on_disk store_writing next objects_machine).step before asked ≡ ends (next (length tried)) writing (answered reply)
      given writing is =
          ap (λ reply. ended (cut_off old.table asked (answered reply))) (sym it.reply_is)
          ∙ ap ended (cut_off-kept old.table asked (answered reply) (kept writing is))
          ∙ ap (λ writing. ends (next (length tried)) writing (answered reply)) is

      by_test : (writing : Bool) → writes asked reply ≡ writing → Tells next (length tried) (done_where writing) → (on_disk store_writing next objects_machine).step before asked ≡ (reply, after (attempts_ended (record_of asked) (done_where writing)))
      by_test true is tells =
          given true is
          ∙ ap (λ outcome. ends outcome true (answered reply)) tells.0
          ∙ ap (λ table. let it : Reply × ObjectsDisk = (reply, record { state = table; opened = opened; tried = tried ++ (record { attempted = record_of asked; outcome = done }) ∷ [] }) in it) (sym it.table)
      by_test false is tells =
          given false is
          ∙ ap₂ (λ (table : Table) (those : List (Attempt Decoded)). let it : Reply × ObjectsDisk = (reply, record { state = table; opened = opened; tried = those }) in it) (sym it.table) (sym (append-nil tried))

  -- a record that is too long is no attempt
  cut-steps : (bytes : ℕ) → IsCutOff asked bytes old new → (on_disk store_writing next objects_machine).step before asked ≡ (TooLarge bytes, after [])
  cut-steps bytes it =
      ap ended (cut_off-cut old.table asked (table_step old.table asked) it.granted (omega (arith, it.long.many, it.long.bytes_are)))
      ∙ ap (λ writing. ends (next (length tried)) writing (TooLarge (min (bytes_of (record_of asked)) 18446744073709551615), old.table)) (large-unwritten asked (min (bytes_of (record_of asked)) 18446744073709551615))
      ∙ ap₂ (λ (count : ℕ) (those : List (Attempt Decoded)). let it : Reply × ObjectsDisk = (TooLarge count, record { state = old.table; opened = opened; tried = those }) in it) (sym it.long.bytes_are) (sym (append-nil tried))
      ∙ ap (λ (store : StoreState D). let it : Reply × ObjectsDisk = (TooLarge bytes, store_disk opened (tried ++ []) store) in it) (sym it.same)

  large-steps : (bytes : ℕ) → IsCutOff asked bytes old new → StepsSo (TooLarge bytes)
  large-steps bytes it told =
      cut-steps bytes it
      ∙ ap (λ writing. let it : Reply × ObjectsDisk = (TooLarge bytes, after (attempts_ended (record_of asked) (done_where writing))) in it) (sym (large-unwritten asked bytes))

  -- an act that doesn't want memory is a step of the machine
  pub act_steps : (reply : Reply) → reply ≢ NoMemory → Acts asked reply old new → StepsSo reply
  act_steps NoMemory wants acts = absurd (wants refl)
  act_steps Fault wants acts = fault-steps acts
  act_steps (TooLarge bytes) wants acts = large-steps bytes acts
  act_steps (Attached fresh) wants acts = answer-steps (Attached fresh) refl acts
  act_steps (Acquired fresh) wants acts = answer-steps (Acquired fresh) refl acts
  act_steps (Resynced fresh) wants acts = answer-steps (Resynced fresh) refl acts
  act_steps Committed wants acts = answer-steps Committed refl acts
  act_steps Released wants acts = answer-steps Released refl acts
  act_steps Detached wants acts = answer-steps Detached refl acts
  act_steps (Owned object by) wants acts = answer-steps (Owned object by) refl acts
  act_steps (Newer object number) wants acts = answer-steps (Newer object number) refl acts
  act_steps (Stranger object) wants acts = answer-steps (Stranger object) refl acts
  act_steps (Worn object) wants acts = answer-steps (Worn object) refl acts

-- ---- what is in doubt

-- a record in doubt stays so when another attempt faults
doubt-later : (made : List (Attempt Decoded)) (attempted doubt : Decoded) → IsInDoubt made doubt → IsInDoubt (made ++ (record { attempted = attempted; outcome = faulted }) ∷ []) doubt
doubt-later made attempted doubt it =
    let last : Attempt Decoded = record { attempted = attempted; outcome = faulted } in
    let first : Attempt Decoded = record { attempted = doubt; outcome = faulted } in
    record {
      before = it.before;
      after = it.after ++ last ∷ [];
      split = ap (λ those. those ++ last ∷ []) it.split ∙ append_assoc it.before (first ∷ it.after) (last ∷ []);
      none_done = done_records-append it.after (last ∷ []) ∙ append-nil (done_records it.after) ∙ it.none_done;
    }

doubt-last : (made : List (Attempt Decoded)) (attempted : Decoded) → IsInDoubt (made ++ (record { attempted = attempted; outcome = faulted }) ∷ []) attempted
doubt-last made attempted = record { before = made; after = []; split = refl; none_done = refl }

settled-done : (opened : List Decoded) (made : List (Attempt Decoded)) (attempted : Decoded) → settled_records opened made ++ attempted ∷ [] ≡ settled_records opened (made ++ (record { attempted = attempted; outcome = done }) ∷ [])
settled-done opened made attempted =
    let last : Attempt Decoded = record { attempted = attempted; outcome = done } in
    append_assoc opened (done_records made) (attempted ∷ []) ∙ ap (λ those. opened ++ those) (sym (done_records-append made (last ∷ [])))

settled-faulted : (opened : List Decoded) (made : List (Attempt Decoded)) (attempted : Decoded) → settled_records opened made ≡ settled_records opened (made ++ (record { attempted = attempted; outcome = faulted }) ∷ [])
settled-faulted opened made attempted =
    let last : Attempt Decoded = record { attempted = attempted; outcome = faulted } in
    ap (λ those. opened ++ those) (sym (append-nil (done_records made)) ∙ sym (done_records-append made (last ∷ [])))

-- ---- the calls of a store, as attempts of a run

module _ {D : Type 0} (clock : D → ℕ) (crash : D → ℕ → List ℕ → Type 0) (opened : List Decoded) (made : List (Attempt Decoded)) (ends : List ℕ) (start : ℕ) (old new : StoreState D) (fares : StoreHasAttempted SameRecords clock crash opened made ends start old) where
  -- the moments of a call that was to write this record, and what a crash may leave after it
  pub record CallPasses (attempted : Decoded) : Type 0 where
    pub moments : Passed (clock old.disk) (clock new.disk) (crash old.disk) (crash new.disk) (λ image. LeftRecords old.records old.doubt image ⊎ HoldsRecords image (old.records ++ attempted ∷ []))
    pub images : (image : List ℕ) → crash new.disk (clock new.disk) image → LeftRecords new.records new.doubt image

  -- the store after these attempts
  abbrev pub GoesOnWith : List (Attempt Decoded) → Type 0
  GoesOnWith more = StoreHasAttempted SameRecords clock crash opened (made ++ more) (ends ++ ends_at (clock new.disk) more) start new

  pub fares_done : (attempted : Decoded) → CallPasses attempted → Writes attempted old new → GoesOnWith ((record { attempted = attempted; outcome = done }) ∷ [])
  fares_done attempted call writes =
      let attempt : Attempt Decoded = record { attempted = attempted; outcome = done } in
      fares_attempt opened made ends start (clock old.disk) (clock new.disk) (crash old.disk) (crash new.disk) old.records new.records old.doubt new.doubt attempt fares call.moments (record {
        are_settled = writes.records ∙ ap (λ those. those ++ attempted ∷ []) fares.are_settled ∙ settled-done opened made attempted;
        in_doubt = λ r is. absurd (none-some r (sym writes.doubt ∙ is));
        images = call.images;
      })

  pub fares_faulted : (attempted : Decoded) → CallPasses attempted → Doubts attempted old new → GoesOnWith ((record { attempted = attempted; outcome = faulted }) ∷ [])
  fares_faulted attempted call doubts =
      let attempt : Attempt Decoded = record { attempted = attempted; outcome = faulted } in
      fares_attempt opened made ends start (clock old.disk) (clock new.disk) (crash old.disk) (crash new.disk) old.records new.records old.doubt new.doubt attempt fares call.moments (record {
        are_settled = doubts.records ∙ fares.are_settled ∙ settled-faulted opened made attempted;
        in_doubt = λ r is. ⊎_elim (λ same. doubt-later made attempted r (fares.in_doubt r (sym same ∙ is))) (λ this. subst (IsInDoubt (made ++ attempt ∷ [])) (same_Some attempted r (sym this ∙ is)) (doubt-last made attempted)) doubts.doubt;
        images = call.images;
      })

  -- a call that makes no attempt leaves the disk and the records
  pub fares_unmoved : new.disk ≡ old.disk → new.records ≡ old.records → new.doubt ≡ old.doubt → GoesOnWith []
  fares_unmoved disk records doubt =
      let P : D → List Decoded → Option Decoded → Type 0 = λ disk records doubt. HasAttempted SameRecords opened made ends start (clock disk) (crash disk) records doubt in
      let Q : List (Attempt Decoded) → List ℕ → Type 0 = λ made ends. HasAttempted SameRecords opened made ends start (clock new.disk) (crash new.disk) new.records new.doubt in
      subst₂ Q (sym (append-nil made)) (sym (append-nil ends)) (subst (λ at. P at new.records new.doubt) (sym disk) (subst₂ (P old.disk) (sym records) (sym doubt) fares))

  answer-fares : (asked : Entry) (reply : Reply) → CallPasses (record_of asked) → Answers asked reply old new → GoesOnWith (attempts_ended (record_of asked) (done_where (writes asked reply)))
  answer-fares asked reply call it = by_test (writes asked reply) refl
    where
      by_test : (writing : Bool) → writes asked reply ≡ writing → GoesOnWith (attempts_ended (record_of asked) (done_where writing))
      by_test true is = fares_done (record_of asked) call (it.written is)
      by_test false is =
          let same = it.unwritten is in
          fares_unmoved (ap (λ it. it.disk) same) (ap (λ it. it.records) same) (ap (λ it. it.doubt) same)

  -- an act, whatever it is answered
  pub act_fares : (asked : Entry) (reply : Reply) → CallPasses (record_of asked) → Acts asked reply old new → GoesOnWith (act_attempts asked reply)
  act_fares asked NoMemory call acts =
      subst (λ writing. GoesOnWith (attempts_ended (record_of asked) (done_where writing))) (sym (want-unwritten asked)) (fares_unmoved (ap (λ it. it.disk) acts.1) (ap (λ it. it.records) acts.1) (ap (λ it. it.doubt) acts.1))
  act_fares asked Fault call acts = fares_faulted (record_of asked) call acts.doubts
  act_fares asked (TooLarge bytes) call acts =
      subst (λ writing. GoesOnWith (attempts_ended (record_of asked) (done_where writing))) (sym (large-unwritten asked bytes)) (fares_unmoved (ap (λ it. it.disk) acts.same) (ap (λ it. it.records) acts.same) (ap (λ it. it.doubt) acts.same))
  act_fares asked (Attached fresh) call acts = answer-fares asked (Attached fresh) call acts
  act_fares asked (Acquired fresh) call acts = answer-fares asked (Acquired fresh) call acts
  act_fares asked (Resynced fresh) call acts = answer-fares asked (Resynced fresh) call acts
  act_fares asked Committed call acts = answer-fares asked Committed call acts
  act_fares asked Released call acts = answer-fares asked Released call acts
  act_fares asked Detached call acts = answer-fares asked Detached call acts
  act_fares asked (Owned object by) call acts = answer-fares asked (Owned object by) call acts
  act_fares asked (Newer object number) call acts = answer-fares asked (Newer object number) call acts
  act_fares asked (Stranger object) call acts = answer-fares asked (Stranger object) call acts
  act_fares asked (Worn object) call acts = answer-fares asked (Worn object) call acts
