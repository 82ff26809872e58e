-- What is kept of the ops that are still to come: with which kinds each is reached, as far as the ops before have been
-- looked at.
use Rattle.std.specs.Prelude.{◌≡◌, ◌≢◌, ℕ, suc, ◌+◌, ◌==◌, ◌<◌, ◌≤◌, ◌&&◌, ◌⊎◌, Bool as Truth, true, false, List, length, Option, Some, None, Result, Ok, Err, slice_get, max, if◌then◌else◌}
use Rattle.aw_cell.specs.declared.cell.Kind.{Kind}
use Rattle.dml_exec.specs.declared.arrivals.Arrival.{Arrival}
use Rattle.dml_exec.specs.declared.arrivals.Arrival.TheVariants.{Never, With, Torn}
use Rattle.dml_exec.specs.declared.flow.Way.{Way}
use Rattle.dml_exec.specs.declared.flow.Way.TheVariants.{Next, Leap, Fork}
use Rattle.dml_exec.specs.declared.survey.Survey.{Survey}
use Rattle.dml_exec.specs.Verified.{Rules, LeadTo, Reaches, IsBad, IsFirstFault, IsSound}

-- how a way and the kinds behind it are told
abbrev pub flowed : Option Way → List Kind → Option (Way × List Kind)
flowed None stack = None
flowed (Some way) stack = Some (way, stack)

-- what is kept of a place, once it is reached with one list more
abbrev pub Arrived : Arrival → List Kind → Arrival → Type 0
Arrived Never stack after = after ≡ With stack
Arrived (With first) stack after = ((first ≡ stack) × (after ≡ With first)) ⊎ ((first ≢ stack) × (after ≡ Torn))
Arrived Torn stack after = after ≡ Torn

-- a place is reached with one list more. The end is the place behind all that are kept
pub record Arrives (old new : Survey) (place : ℕ) (stack : List Kind) : Type 0 where
  pub len : length new.arrivals.items ≡ length old.arrivals.items
  pub deepest : new.deepest ≡ max old.deepest (length stack)
  pub ended : new.ended ≡ (if place == length old.arrivals.items then old.ended && (length stack == 1) else old.ended)
  pub others : (other : ℕ) → other ≢ place → slice_get new.arrivals.items other ≡ slice_get old.arrivals.items other
  pub here : (before : Arrival) → slice_get old.arrivals.items place ≡ Some before → (after : Arrival) × (slice_get new.arrivals.items place ≡ Some after) × Arrived before stack after

-- what is kept of one place is taken out
pub record TakesOut (old new : Survey) (place : ℕ) : Type 0 where
  pub len : length new.arrivals.items ≡ length old.arrivals.items
  pub deepest : new.deepest ≡ old.deepest
  pub ended : new.ended ≡ old.ended
  pub others : (other : ℕ) → other ≢ place → slice_get new.arrivals.items other ≡ slice_get old.arrivals.items other

-- so are all places to which a way goes
abbrev pub Spreads : Survey → Survey → ℕ → Way → List Kind → Type 0
Spreads old new at Next stack = Arrives old new (at + 1) stack
Spreads old new at (Leap to) stack = Arrives old new to stack
Spreads old new at (Fork at_no at_na) stack = (one : Survey) × (two : Survey) × Arrives old one at_no stack × Arrives one two at_na stack × Arrives two new (at + 1) stack

-- what is kept tells with which lists a place is reached
pub record IsOnly (Has : List Kind → Type 0) (stack : List Kind) : Type 0 where
  pub has : Has stack
  pub only : (other : List Kind) → Has other → stack ≡ other

pub record HasTwo (Has : List Kind → Type 0) : Type 0 where
  pub one : List Kind
  pub other : List Kind
  pub has_one : Has one
  pub has_other : Has other
  pub differ : one ≢ other

abbrev pub Tells : (List Kind → Type 0) → Arrival → Type 0
Tells Has Never = (stack : List Kind) → Has stack → ⊥
Tells Has (With stack) = IsOnly Has stack
Tells Has Torn = HasTwo Has

abbrev pub TellsEnd : (List Kind → Type 0) → Truth → Type 0
TellsEnd Has true = (stack : List Kind) → Has stack → length stack ≡ 1
TellsEnd Has false = (stack : List Kind) × Has stack × (length stack ≢ 1)

-- a survey tells, of each place from one on and of the end, with which lists it is reached
pub record SurveysBy (Has : ℕ → List Kind → Type 0) (from count : ℕ) (survey : Survey) : Type 0 where
  pub len : length survey.arrivals.items ≡ count
  pub told : (place : ℕ) (arrival : Arrival) → from ≤ place → slice_get survey.arrivals.items place ≡ Some arrival → Tells (Has place) arrival
  pub ended : TellsEnd (Has count) survey.ended
  pub deepest : (place : ℕ) (stack : List Kind) → Has place stack → length stack ≤ survey.deepest

-- the first ops, so many of them, were looked at, and none was bad
pub record Surveys (r : Rules) (at : ℕ) (survey : Survey) : Type 0 where
  pub by : SurveysBy (LeadTo r at) at (length r.ops) survey
  pub fine : (before : ℕ) → before < at → IsBad r before → ⊥

-- how the look at an op ends
abbrev pub Visited : Rules → ℕ → Survey → Truth → Type 0
Visited r at survey true = Surveys r (suc at) survey
Visited r at survey false = IsBad r at

abbrev pub AreUnreached : List Arrival → ℕ → Type 0
AreUnreached arrivals count = (length arrivals ≡ count) × ((place : ℕ) (arrival : Arrival) → slice_get arrivals place ≡ Some arrival → arrival ≡ Never)

-- a way goes to an op or to the end
abbrev pub GoesWithin : Way → ℕ → Type 0
GoesWithin Next count = Unit {0}
GoesWithin (Leap to) count = to ≤ count
GoesWithin (Fork at_no at_na) count = (at_no ≤ count) × (at_na ≤ count)

-- the stack has so many cells at most, or there is a first fault
abbrev pub Found : Rules → Result ℕ ℕ → Type 0
Found r (Ok deepest) = IsSound r × ((at : ℕ) (stack : List Kind) → Reaches r at stack → length stack ≤ deepest)
Found r (Err at) = IsFirstFault r at
