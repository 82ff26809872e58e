-- Laws on MAINTAIN, in words of their own.
use Rattle.std.specs.Prelude.{ℕ, ◌≡◌, ◌+◌, ◌<◌, List, [], ◌∷◌, length, map, take, slice_get, Option, Some, None}
use Rattle.std.specs.List.Sorted.{IsPermutation}
use Rattle.aw_dim.specs.DimensionState.{Entry, DimensionState, IsDimension, slot_of}
use Rattle.dml_tree.specs.declared.statement.Place.{Place}
use Rattle.dim_maintain.specs.declared.fault.MaintainFault.{MaintainFault}
use Rattle.dim_maintain.specs.Maintained.{others, added, deleted, moved, renamed}
use Rattle.dim_maintain.specs.Causes.{first_cause, added_cause, moved_cause}

-- ---- the order of causes

-- what is asked of a name behind those before it
abbrev pub Cause : Type 0
Cause = List (List ℕ) → List ℕ → Option MaintainFault

-- there is no cause of the names before a place
abbrev pub NoneBefore : Cause → List (List ℕ) → ℕ → Type 0
NoneBefore cause names place = (k : ℕ) (name : List ℕ) → k < place → slice_get names k ≡ Some name → cause (take k names) name ≡ None

-- a name has this cause, and none before it has one
pub record IsFirst (cause : Cause) (names : List (List ℕ)) (fault : MaintainFault) : Type 0 where
  pub place : ℕ
  pub name : List ℕ
  pub here : slice_get names place ≡ Some name
  pub told : cause (take place names) name ≡ Some fault
  pub none_before : NoneBefore cause names place

-- the first cause is that of the first name which has one
pub record FirstCauses : Type 0 where
  pub none : (cause : Cause) (names : List (List ℕ)) → first_cause cause [] names ≡ None → NoneBefore cause names (length names)
  pub some : (cause : Cause) (names : List (List ℕ)) (fault : MaintainFault) → first_cause cause [] names ≡ Some fault → IsFirst cause names fault

-- ---- slots

-- ADD leaves the values that were there, with their slots and in their order, and gives the new ones the next slots in the order
-- written, which no value had before
pub record AddedSlots : Type 0 where
  pub stay : (values : DimensionState) (names : List (List ℕ)) (place : Place) → added_cause values names place ≡ None → others names (added values names place).entries ≡ values.entries
  pub next : (values : DimensionState) (names : List (List ℕ)) (place : Place) → added_cause values names place ≡ None → (k : ℕ) (name : List ℕ) → slice_get names k ≡ Some name → slot_of (added values names place) name ≡ Some (values.next + k)

-- a value that is deleted and added again has a slot that it never had
pub record IsNewAgain (values : DimensionState) (name : List ℕ) (place : Place) (slot : ℕ) : Type 0 where
  pub old : slot < values.next
  pub new : slot_of (added (deleted values (name ∷ [])) (name ∷ []) place) name ≡ Some values.next

abbrev pub NewSlotAgain : Type 0
NewSlotAgain = (values : DimensionState) (name : List ℕ) (place : Place) (slot : ℕ) → IsDimension values → slot_of values name ≡ Some slot → IsNewAgain values name place slot

-- MOVE leaves the same values with their slots, and the others in their order
pub record MovedSlots : Type 0 where
  pub same : (values : DimensionState) (names : List (List ℕ)) (place : Place) → moved_cause values names place ≡ None → IsPermutation values.entries (moved values names place).entries
  pub rest : (values : DimensionState) (names : List (List ℕ)) (place : Place) → others names (moved values names place).entries ≡ others names values.entries

-- RENAME leaves each slot at its place
abbrev pub RenamedSlots : Type 0
RenamedSlots = (values : DimensionState) (old new : List ℕ) → map (λ (entry : Entry). entry.0) (renamed values old new).entries ≡ map (λ (entry : Entry). entry.0) values.entries
