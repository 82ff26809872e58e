-- What a program has done that learns one by one how its attempts end.
use Rattle.std.specs.Prelude.{◌≡◌, ◌≤◌, ◌++◌, ◌+◌, ℕ, Bool, List, [], ◌∷◌, length, Option}
use Rattle.ses_report.specs.Reports.{Answer}
use Rattle.script_world.specs.Meaning.{Meaning}
use Rattle.script_world.specs.Worlds.{World, Machine, Event, with_shared, answered, text_of, any_refused, world_after}
use Rattle.script_world.specs.Outcomes.{Outcome, Attempt, Writing, OnDisk, on_disk, by_list, used}

-- the outcomes from this attempt on are these
abbrev pub Tells : (ℕ → Outcome) → ℕ → List Outcome → Type 0
Tells next at [] = Unit {0}
Tells next at (outcome ∷ outcomes) = (next at ≡ outcome) × Tells next (at + 1) outcomes

-- the program has a state of its own, which with the attempts so far stands for one of the machine
module _ {m : Meaning} {R S T : Type 0} (writing : Writing m R) (machine : Machine m S) (held : Option R → List (Attempt R) → T → OnDisk R S) where
  pub record HasRun (start : World m (OnDisk R S)) (events : List Event) (coming : List Outcome) (opened : Option R) (made : List (Attempt R)) (text : List ℕ) (refused : Bool) (w : World m T) : Type 0 where
    pub world : world_after (by_list writing machine coming) start events ≡ with_shared (held opened made) w
    pub as_many : length made ≡ length coming
    pub learnt : used (with_shared (held opened made) w).shared ≤ length coming
    pub due : text_of (by_list writing machine coming) start events ≡ text
    pub refuses : any_refused (by_list writing machine coming) start events ≡ refused

  -- an event was answered, which made and told so many more attempts
  pub record AnswersEvent (opened after : Option R) (made more : List (Attempt R)) (told : List Outcome) (event : Event) (answer : Option Answer) (text : List ℕ) (old new : World m T) : Type 0 where
    pub answers : (next : ℕ → Outcome) → Tells next (length made) told → answered (on_disk writing next machine) (with_shared (held opened made) old) event ≡ record { answer = answer; text = text; world = with_shared (held after (made ++ more)) new }
    pub as_many : length more ≡ length told
    pub learnt : used (with_shared (held after (made ++ more)) new).shared ≤ length (made ++ more)
