-- A program that learns one by one how its attempts end: what it has run, and one more event.
use Rattle.std.specs.Prelude.{◌≡◌, ◌≤◌, ◌||◌, ◌++◌, ◌+◌, ℕ, Bool, List, [], ◌∷◌, length, Option, refl}
use Rattle.std.proofs.Common.{◌∙◌, ap, ap₂, sym, subst, arith, length-append, append_assoc, append-nil}
use Rattle.ses_report.specs.Reports.{Answer}
use Rattle.script_world.specs.Meaning.{Meaning}
use Rattle.script_world.specs.Worlds.{World, Machine, Event, answered, is_refused, world_after, with_shared}
use Rattle.script_world.specs.Outcomes.{Outcome, Attempt, Writing, OnDisk, among, by_list, used}
use Rattle.script_world.specs.LearntOutcomes.{Tells, HasRun, AnswersEvent}
use Rattle.script_world.proofs.callers.Appending.{text_of-append, any_refused-append, world_after-append}
use Rattle.script_world.proofs.callers.UnusedOutcomes.{list_told_once, or-false}

pub tells-behind : (coming told : List Outcome) (at : ℕ) → length coming ≡ at → Tells (among (coming ++ told)) at told
tells-behind coming [] at is = tt
tells-behind coming (outcome ∷ told) at is =
    let longer : (coming ++ outcome ∷ []) ++ told ≡ coming ++ outcome ∷ told = append_assoc coming (outcome ∷ []) told in
    (seen coming told at is, subst (λ (those : List Outcome). Tells (among those) (at + 1) told) longer (tells-behind (coming ++ outcome ∷ []) told (at + 1) (length-append coming (outcome ∷ []) ∙ ap (λ n. n + 1) is)))
  where
    seen : (coming told : List Outcome) (at : ℕ) → length coming ≡ at → among (coming ++ outcome ∷ told) at ≡ outcome
    seen [] told at is = ap (among (outcome ∷ told)) (sym is)
    seen (first ∷ coming) told at is = ap (among (first ∷ (coming ++ outcome ∷ told))) (sym is) ∙ seen coming told (length coming) refl

-- one more event
module _ {m : Meaning} {R S T : Type 0} (writing : Writing m R) (machine : Machine m S) (held : Option R → List (Attempt R) → T → OnDisk R S) where
  pub runs_on : (start : World m (OnDisk R S)) (events : List Event) (coming told : List Outcome) (opened after : Option R) (made more : List (Attempt R)) (text own : List ℕ) (refused : Bool) (event : Event) (answer : Option Answer) (old new : World m T) → HasRun writing machine held start events coming opened made text refused old → AnswersEvent writing machine held opened after made more told event answer own old new → HasRun writing machine held start (events ++ event ∷ []) (coming ++ told) after (made ++ more) (text ++ own) (refused || is_refused answer) new
  runs_on start events coming told opened after made more text own refused event answer old new run it =
      let all = by_list writing machine (coming ++ told) in
      let same = list_told_once writing machine start coming told events (subst (λ (w : World m (OnDisk R S)). used w.shared ≤ length coming) (sym run.world) run.learnt) in
      let before : world_after all start events ≡ with_shared (held opened made) old = same.world ∙ run.world in
      let last : answered all (world_after all start events) event ≡ record { answer = answer; text = own; world = with_shared (held after (made ++ more)) new } = ap (λ w. answered all w event) before ∙ it.answers (among (coming ++ told)) (tells-behind coming told (length made) (sym run.as_many)) in
      let many : length (made ++ more) ≡ length (coming ++ told) = omega (arith, length-append made more, length-append coming told, run.as_many, it.as_many) in
      record {
        world = world_after-append all start events (event ∷ []) ∙ ap (λ a. a.world) last;
        as_many = many;
        learnt = omega (arith, it.learnt, many);
        due = text_of-append all start events (event ∷ []) ∙ ap₂ (λ (one another : List ℕ). one ++ another) (same.text ∙ run.due) (append-nil _ ∙ ap (λ a. a.text) last);
        refuses = any_refused-append all start events (event ∷ []) ∙ ap₂ (λ (one another : Bool). one || another) (same.refused ∙ run.refuses) (or-false _ ∙ ap (λ a. is_refused a.answer) last);
      }
