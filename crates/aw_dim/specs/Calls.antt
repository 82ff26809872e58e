-- Rows of calls on a dimension: no slot is given twice.
use Rattle.std.specs.Prelude.{ℕ, ◌≡◌, ◌<◌, ◌≤◌, ◌&&◌, List, [], ◌∷◌, ◌++◌, if◌then◌else◌, is_some, nat_lt}
use Rattle.std.specs.List.{All, AllPairs}
use Rattle.aw_dim.specs.DimensionState.{DimensionState, slot_of, name_of}
use Rattle.aw_dim.specs.Edits.{added, removed, renamed, moved}

-- a call that may change a dimension
pub data Call : Type 0 where
  add : (name : List ℕ) (place : ℕ) → Call
  remove : (slot : ℕ) → Call
  rename : (slot : ℕ) (name : List ℕ) → Call
  move_to : (slot place : ℕ) → Call
  -- it was refused
  nothing : Call

-- what a call leaves
abbrev pub after : DimensionState → Call → DimensionState
after values (add name place) = added values name place
after values (remove slot) = removed values slot
after values (rename slot name) = renamed values slot name
after values (move_to slot place) = moved values slot place
after values nothing = values

-- the slots that a call gives
abbrev pub given_by : DimensionState → Call → List ℕ
given_by values (add name place) = values.next ∷ []
given_by values (remove slot) = []
given_by values (rename slot name) = []
given_by values (move_to slot place) = []
given_by values nothing = []

-- the slots that a row of calls gives
abbrev pub given : DimensionState → List Call → List ℕ
given values [] = []
given values (call ∷ calls) = given_by values call ++ given (after values call) calls

-- whatever the calls, a slot that is given is none that was given before: each is at least the next
-- slot at the start, and they rise
pub record NeverAgain (values : DimensionState) (calls : List Call) : Type 0 where
  pub are_new : All (λ slot. values.next ≤ slot) (given values calls)
  pub rise : AllPairs (λ one other. one < other) (given values calls)

abbrev pub SlotsAreNeverGivenAgain : Type 0
SlotsAreNeverGivenAgain = (values : DimensionState) (calls : List Call) → NeverAgain values calls
