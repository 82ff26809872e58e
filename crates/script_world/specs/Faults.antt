-- The events that tell of a fault of the disk, which are those in whose step it failed.
use Rattle.std.specs.Prelude.{◌≡◌, ◌+◌, ℕ, Bool, true, false, List, [], ◌∷◌, Option, Some, None, cond}
use Rattle.ses_report.specs.declared.refusal.Refusal.{Refusal}
use Rattle.ses_report.specs.Reports.{Answer, answer_text}
use Rattle.script_world.specs.Meaning.{Meaning}
use Rattle.script_world.specs.Worlds.{World, Machine, Event, answered, world_after}
use Rattle.script_world.specs.Outcomes.{Attempt, OnDisk, has_faulted}

-- in how many of these attempts the disk failed
abbrev pub faults_in : {R : Type 0} → List (Attempt R) → ℕ
faults_in [] = 0
faults_in (attempt ∷ made) = cond (has_faulted attempt.outcome) 1 0 + faults_in made

abbrev pub faults_of : {R S : Type 0} → Option (OnDisk R S) → ℕ
faults_of None = 0
faults_of (Some disk) = faults_in disk.tried

-- by which refusals tell of a fault
module _ (is_fault : Refusal → Bool) where
  abbrev pub refuses_so : Option Refusal → Bool
  refuses_so None = false
  refuses_so (Some refusal) = is_fault refusal

  abbrev pub tells : Option Answer → Bool
  tells None = false
  tells (Some answer) = refuses_so answer.refusal

  module _ {m : Meaning} {R S : Type 0} (machine : Machine m (OnDisk R S)) where
    -- how many of these events tell of a fault
    abbrev pub fault_events : World m (OnDisk R S) → List Event → ℕ
    fault_events w [] = 0
    fault_events w (event ∷ events) =
        let a = answered machine w event in
        cond (tells a.answer) 1 0 + fault_events a.world events

    -- The disk failed in one step more exactly where the event tells so, and what is written then is this answer.
    pub record SeesFaults (fault : Answer) (w : World m (OnDisk R S)) (event : Event) : Type 0 where
      pub count : faults_of (answered machine w event).world.shared ≡ faults_of w.shared + cond (tells (answered machine w event).answer) 1 0
      pub text : tells (answered machine w event).answer ≡ true → (prefix : List ℕ) × ((answered machine w event).text ≡ answer_text prefix fault)

    -- so many events tell of a fault as the disk failed in steps
    abbrev pub FaultsAreSeen : World m (OnDisk R S) → List Event → Type 0
    FaultsAreSeen w events = faults_of (world_after machine w events).shared ≡ faults_of w.shared + fault_events w events
