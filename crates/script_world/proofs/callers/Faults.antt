-- The events that tell of a fault are those in whose step the disk failed.
use Rattle.std.specs.Prelude.{◌≡◌, ◌⊎◌, ◌++◌, ◌+◌, ℕ, Bool, true, false, List, [], ◌∷◌, length, Option, Some, None, Err, cond, unwrap_or, refl}
use Rattle.std.proofs.Common.{◌∙◌, ap, sym, subst, arith, ⊎_elim}
use Rattle.std.proofs.lemmas.Bool.{true≢false}
use Rattle.ses_report.specs.declared.refusal.Refusal.{Refusal}
use Rattle.ses_report.specs.Reports.{Answer, answer_text}
use Rattle.script_world.specs.Meaning.{Begun, said, ask, malformed, Meaning}
use Rattle.script_world.specs.Worlds.{World, Machine, Event, Answered, name_at, silent, refused_so, with_definitions, own_session, begun_so, commanded, shared_of, turned, settled, answered}
use Rattle.script_world.specs.Outcomes.{Outcome, done, faulted, Attempt, Writing, OnDisk, ended_so, written, on_disk, has_faulted}
use Rattle.script_world.specs.Faults.{faults_in, faults_of, refuses_so, tells, SeesFaults, FaultsAreSeen}
use Rattle.script_world.proofs.callers.Walk.{Why, it_is_late, it_is_crowded, of_definition, of_form, walk}

faults_in-push : {R : Type 0} (made : List (Attempt R)) (last : Attempt R) → faults_in (made ++ last ∷ []) ≡ faults_in made + cond (has_faulted last.outcome) 1 0
faults_in-push [] last = omega arith
faults_in-push (attempt ∷ made) last = omega (arith, faults_in-push made last)

module _ (is_fault : Refusal → Bool) (fault : Answer) where
  module _ {m : Meaning} {R S : Type 0} (writing : Writing m R) (machine : Machine m S) where
    -- nothing but a fault is answered so
    pub record Hears : Type 0 where
      pub forms : (lines : List (List ℕ)) (text : List ℕ) (refusal : Refusal) → m.form lines text ≡ malformed refusal → is_fault refusal ≡ false
      pub definitions : (d : m.Definitions) (lines : List (List ℕ)) (refusal : Refusal) → m.define d lines ≡ Err refusal → is_fault refusal ≡ false
      pub late : (lines : List (List ℕ)) → is_fault (m.late lines) ≡ false
      pub crowded : is_fault m.crowded ≡ false
      pub begins : (d : m.Definitions) (s : m.Session) (statement : m.Statement) (answer : Answer) (after : m.Session) → m.begin d s statement ≡ said answer after → refuses_so is_fault answer.refusal ≡ false
      pub finishes : (d : m.Definitions) (names : List (List ℕ)) (shared : S) (waiting : m.Waiting) (entry : m.Entry) → refuses_so is_fault (m.finish d names waiting (machine.step shared entry).0).0.refusal ≡ false
      pub faults : (d : m.Definitions) (names : List (List ℕ)) (waiting : m.Waiting) → (m.finish d names waiting writing.fault).0 ≡ fault
      pub fault_tells : refuses_so is_fault fault.refusal ≡ true

    module _ (hears : Hears) (next : ℕ → Outcome) where
      -- so many faults as before, and one more where it's told
      abbrev Sees : ℕ → Answered m (OnDisk R S) → Type 0
      Sees before a = faults_of a.world.shared ≡ before + cond (tells is_fault a.answer) 1 0

      mute : (before : ℕ) (a : Answered m (OnDisk R S)) → tells is_fault a.answer ≡ false → faults_of a.world.shared ≡ before → Sees before a
      mute before a none same = same ∙ omega arith ∙ ap (λ (told : Bool). before + cond told 1 0) (sym none)

      turned-sees : (w : World m (OnDisk R S)) (disk : OnDisk R S) (who : ℕ) (waiting : m.Waiting) (entry : m.Entry) → Sees (faults_in disk.tried) (turned w who waiting ((on_disk writing next machine).step disk entry))
      turned-sees w disk who waiting entry = by_record (writing.of_step entry r.0)
        where
          r : m.Reply × S
          r = machine.step disk.state entry

          quiet : refuses_so is_fault (m.finish w.definitions w.names waiting r.0).0.refusal ≡ false
          quiet = hears.finishes w.definitions w.names disk.state waiting entry

          by_outcome : (outcome : Outcome) (attempted : R) → Sees (faults_in disk.tried) (turned w who waiting (ended_so writing outcome disk attempted r))
          by_outcome done attempted =
              mute (faults_in disk.tried) (turned w who waiting (ended_so writing done disk attempted r)) quiet (faults_in-push disk.tried (record { attempted = attempted; outcome = done }) ∙ omega arith)
          by_outcome faulted attempted =
              faults_in-push disk.tried (record { attempted = attempted; outcome = faulted }) ∙ ap (λ (told : Bool). faults_in disk.tried + cond told 1 0) (sym (ap (λ (answer : Answer). refuses_so is_fault answer.refusal) (hears.faults w.definitions w.names waiting) ∙ hears.fault_tells))

          by_record : (attempted : Option R) → Sees (faults_in disk.tried) (turned w who waiting (written writing (next (length disk.tried)) disk r attempted))
          by_record None = mute (faults_in disk.tried) (turned w who waiting (written writing (next (length disk.tried)) disk r None)) quiet refl
          by_record (Some attempted) = by_outcome (next (length disk.tried)) attempted

      commanded-sees : (w : World m (OnDisk R S)) (disk : OnDisk R S) (who : ℕ) (statement : m.Statement) → w.shared ≡ Some disk → Sees (faults_in disk.tried) (settled (on_disk writing next machine) (commanded w disk who statement))
      commanded-sees w disk who statement is_open = by_begun (m.begin w.definitions s statement) refl
        where
          s : m.Session
          s = own_session w who

          by_begun : (b : Begun m.Entry m.Session m.Waiting) → m.begin w.definitions s statement ≡ b → Sees (faults_in disk.tried) (settled (on_disk writing next machine) (begun_so w disk who b))
          by_begun (said answer after) is =
              ap faults_of is_open ∙ omega arith ∙ ap (λ (told : Bool). faults_in disk.tried + cond told 1 0) (sym (hears.begins w.definitions s statement answer after is))
          by_begun (ask entry waiting) is = turned-sees w disk who waiting entry

      quiet_why : (w : World m (OnDisk R S)) (refusal : Refusal) → Why (on_disk writing next machine) w refusal → is_fault refusal ≡ false
      quiet_why w refusal (it_is_late lines is) = ap is_fault is ∙ hears.late lines
      quiet_why w refusal (it_is_crowded is) = ap is_fault is ∙ hears.crowded
      quiet_why w refusal (of_definition lines is) = hears.definitions w.definitions lines refusal is
      quiet_why w refusal (of_form text is) = hears.forms w.open_lines text refusal is

      pub event_sees : (w : World m (OnDisk R S)) (event : Event) → Sees (faults_of w.shared) (answered (on_disk writing next machine) w event)
      event_sees w event = walk (on_disk writing next machine) w event (Sees (faults_of w.shared)) (record {
        passes = λ after none rests. mute (faults_of w.shared) (silent after) refl (same after rests.shared);
        defines = λ lines definitions of_no none is. omega arith;
        refuses = λ after prefix refusal few why rests. mute (faults_of w.shared) (refused_so prefix refusal after) (quiet_why w refusal why) (same after rests.shared);
        turns = λ after name who statement taken_up own rests may.
            subst (λ (before : ℕ). Sees before (settled (on_disk writing next machine) (commanded after (shared_of opens w) who statement))) opened-sees (commanded-sees after (shared_of opens w) who statement may.open_so);
      })
        where
          opens : m.Definitions → OnDisk R S
          opens = (on_disk writing next machine).opens

          opened-sees : faults_in (shared_of opens w).tried ≡ faults_of w.shared
          opened-sees = by_shared w.shared
            where
              by_shared : (shared : Option (OnDisk R S)) → faults_in (unwrap_or shared (opens w.definitions)).tried ≡ faults_of shared
              by_shared None = refl
              by_shared (Some disk) = refl

          same : (after : World m (OnDisk R S)) → (after.shared ≡ w.shared) ⊎ (after.shared ≡ Some (shared_of opens w)) → faults_of after.shared ≡ faults_of w.shared
          same after it = ⊎_elim (λ same. ap faults_of same) (λ closed. ap faults_of closed ∙ opened-sees) it

      -- what tells of a fault is written so
      abbrev Says : Answered m (OnDisk R S) → Type 0
      Says a = tells is_fault a.answer ≡ true → (prefix : List ℕ) × (a.text ≡ answer_text prefix fault)

      mum : (a : Answered m (OnDisk R S)) → tells is_fault a.answer ≡ false → Says a
      mum a none told = absurd (true≢false (sym told ∙ none))

      turned-says : (w : World m (OnDisk R S)) (disk : OnDisk R S) (who : ℕ) (waiting : m.Waiting) (entry : m.Entry) → Says (turned w who waiting ((on_disk writing next machine).step disk entry))
      turned-says w disk who waiting entry = by_record (writing.of_step entry r.0)
        where
          r : m.Reply × S
          r = machine.step disk.state entry

          quiet : refuses_so is_fault (m.finish w.definitions w.names waiting r.0).0.refusal ≡ false
          quiet = hears.finishes w.definitions w.names disk.state waiting entry

          by_outcome : (outcome : Outcome) (attempted : R) → Says (turned w who waiting (ended_so writing outcome disk attempted r))
          by_outcome done attempted = mum (turned w who waiting (ended_so writing done disk attempted r)) quiet
          by_outcome faulted attempted = λ told. (name_at w.names who, ap (answer_text (name_at w.names who)) (hears.faults w.definitions w.names waiting))

          by_record : (attempted : Option R) → Says (turned w who waiting (written writing (next (length disk.tried)) disk r attempted))
          by_record None = mum (turned w who waiting (written writing (next (length disk.tried)) disk r None)) quiet
          by_record (Some attempted) = by_outcome (next (length disk.tried)) attempted

      commanded-says : (w : World m (OnDisk R S)) (disk : OnDisk R S) (who : ℕ) (statement : m.Statement) → Says (settled (on_disk writing next machine) (commanded w disk who statement))
      commanded-says w disk who statement = by_begun (m.begin w.definitions s statement) refl
        where
          s : m.Session
          s = own_session w who

          by_begun : (b : Begun m.Entry m.Session m.Waiting) → m.begin w.definitions s statement ≡ b → Says (settled (on_disk writing next machine) (begun_so w disk who b))
          by_begun (said answer after) is = λ told. absurd (true≢false (sym told ∙ hears.begins w.definitions s statement answer after is))
          by_begun (ask entry waiting) is = turned-says w disk who waiting entry

      event_says : (w : World m (OnDisk R S)) (event : Event) → Says (answered (on_disk writing next machine) w event)
      event_says w event = walk (on_disk writing next machine) w event Says (record {
        passes = λ after none rests. mum (silent after) refl;
        defines = λ lines definitions of_no none is. mum (silent (with_definitions w definitions)) refl;
        refuses = λ after prefix refusal few why rests. mum (refused_so prefix refusal after) (quiet_why w refusal why);
        turns = λ after name who statement taken_up own rests may. commanded-says after (shared_of (on_disk writing next machine).opens w) who statement;
      })

      pub sees_faults : (w : World m (OnDisk R S)) (event : Event) → SeesFaults is_fault (on_disk writing next machine) fault w event
      sees_faults w event = record { count = event_sees w event; text = event_says w event }

      pub faults_are_seen : (w : World m (OnDisk R S)) (events : List Event) → FaultsAreSeen is_fault (on_disk writing next machine) w events
      faults_are_seen w [] = omega arith
      faults_are_seen w (event ∷ events) =
          let a = answered (on_disk writing next machine) w event in
          omega (arith, event_sees w event, faults_are_seen a.world events)
