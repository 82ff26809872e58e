-- What a crash leaves of a run is what the same events settle with other outcomes.
use Rattle.std.specs.Prelude.{◌≡◌, ◌⊎◌, ◌≤◌, ℕ, List, take}
use Rattle.script_world.specs.Meaning.{Meaning}
use Rattle.script_world.specs.Worlds.{World, Machine, Event, world_after}
use Rattle.script_world.specs.Outcomes.{Outcome, done, Attempt, Writing, OnDisk, on_disk, attempts_of, done_records, settled_records, MayLeave}

module _ {m : Meaning} {R S : Type 0} (writing : Writing m R) (machine : Machine m S) where
  -- the records that these events were to write
  abbrev pub attempts : (ℕ → Outcome) → World m (OnDisk R S) → List Event → List (Attempt R)
  attempts next w events = attempts_of (world_after (on_disk writing next machine) w events).shared

  module _ (Same : List R → List R → Type 0) where
    -- With other outcomes these events make the same first attempts, among which are all that were done by then, and settle
    -- what is left.
    pub record SettlesBy (records : List R) (w : World m (OnDisk R S)) (next : ℕ → Outcome) (events : List Event) (ended : ℕ) (left : List R) : Type 0 where
      pub outcomes : ℕ → Outcome
      pub first : ℕ
      pub within : first ≤ ended
      pub acknowledged : done_records (take first (attempts next w events)) ≡ done_records (take ended (attempts next w events))
      pub same : take first (attempts outcomes w events) ≡ take first (attempts next w events)
      pub settles : Same left (settled_records records (attempts outcomes w events))

    -- the records with which the disk was opened, or what these events settle so
    abbrev pub IsSettledByRun : List R → World m (OnDisk R S) → (ℕ → Outcome) → List Event → ℕ → List R → Type 0
    IsSettledByRun records w next events ended left = Same left records ⊎ SettlesBy records w next events ended left

    abbrev pub LeavesARun : List R → World m (OnDisk R S) → (ℕ → Outcome) → List Event → Type 0
    LeavesARun records w next events =
        (ended : ℕ) (left : List R) → MayLeave Same ended records (attempts next w events) left → IsSettledByRun records w next events ended left
