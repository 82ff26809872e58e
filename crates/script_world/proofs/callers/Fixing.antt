-- The text of a run tells the outcomes of its attempts.
use Rattle.std.specs.Prelude.{◌≡◌, ◌≢◌, ◌++◌, ℕ, List, [], ◌∷◌, length, Option, Some, None, IsSome, is_some, refl}
use Rattle.std.proofs.Common.{◌∙◌, ap, sym}
use Rattle.std.proofs.lemmas.List.{append_cancel_left}
use Rattle.ses_report.specs.Reports.{answer_text}
use Rattle.script_world.specs.Meaning.{Meaning}
use Rattle.script_world.specs.Laws.{TextFixesWorld}
use Rattle.script_world.specs.Outcomes.{Outcome, done, faulted, Writing, OnDisk, ended_so, written, on_disk}
use Rattle.script_world.specs.Worlds.{World, Machine, Event, Answered, Planned, answers, asks, turned, planned, settled, answered, text_of, world_after}

module _ {m : Meaning} {R S : Type 0} (writing : Writing m R) (machine : Machine m S) where
  -- what is written of a step that was done is no front of what is written of a fault, nor the other way round
  pub record TellsApart : Type 0 where
    pub apart : (d : m.Definitions) (names : List (List ℕ)) (waiting : m.Waiting) (entry : m.Entry) (reply : m.Reply) (prefix x y : List ℕ) → IsSome (writing.of_step entry reply) →
        answer_text prefix (m.finish d names waiting reply).0 ++ x ≢ answer_text prefix (m.finish d names waiting writing.fault).0 ++ y

  module _ (tells : TellsApart) (one other : ℕ → Outcome) where
    settled-fixed : (p : Planned m (OnDisk R S)) (x y : List ℕ) → (settled (on_disk writing one machine) p).text ++ x ≡ (settled (on_disk writing other machine) p).text ++ y → settled (on_disk writing one machine) p ≡ settled (on_disk writing other machine) p
    settled-fixed (answers a) x y same = refl
    settled-fixed (asks w disk who waiting entry) x y same = by_record (writing.of_step entry r.0) refl same
      where
        r : m.Reply × S
        r = machine.step disk.state entry

        at : ℕ
        at = length disk.tried

        by_outcomes : (attempted : R) → writing.of_step entry r.0 ≡ Some attempted → (first second : Outcome) → (turned w who waiting (ended_so writing first disk attempted r)).text ++ x ≡ (turned w who waiting (ended_so writing second disk attempted r)).text ++ y → turned w who waiting (ended_so writing first disk attempted r) ≡ turned w who waiting (ended_so writing second disk attempted r)
        by_outcomes attempted is done done same = refl
        by_outcomes attempted is faulted faulted same = refl
        by_outcomes attempted is done faulted same = absurd (tells.apart w.definitions w.names waiting entry r.0 _ x y (ap is_some is) same)
        by_outcomes attempted is faulted done same = absurd (tells.apart w.definitions w.names waiting entry r.0 _ y x (ap is_some is) (sym same))

        by_record : (attempted : Option R) → writing.of_step entry r.0 ≡ attempted → (turned w who waiting (written writing (one at) disk r attempted)).text ++ x ≡ (turned w who waiting (written writing (other at) disk r attempted)).text ++ y → turned w who waiting (written writing (one at) disk r attempted) ≡ turned w who waiting (written writing (other at) disk r attempted)
        by_record None is same = refl
        by_record (Some attempted) is same = by_outcomes attempted is (one at) (other at) same

    pub text_fixes_world : (w : World m (OnDisk R S)) (events : List Event) → TextFixesWorld writing machine one other w events
    text_fixes_world w [] same = refl
    text_fixes_world w (event ∷ events) same =
        let a = answered (on_disk writing one machine) w event in
        let b = answered (on_disk writing other machine) w event in
        let first : a ≡ b = settled-fixed (planned (on_disk writing one machine).opens w event) (text_of (on_disk writing one machine) a.world events) (text_of (on_disk writing other machine) b.world events) same in
        ap (λ (c : Answered m (OnDisk R S)). world_after (on_disk writing one machine) c.world events) first
        ∙ text_fixes_world b.world events (append_cancel_left b.text _ _ (ap (λ (c : Answered m (OnDisk R S)). c.text ++ text_of (on_disk writing one machine) c.world events) (sym first) ∙ same))
