-- Clearing: a value is cleared once all of its children are.
use Rattle.std.specs.Prelude.{ℕ, ◌≡◌, ◌<◌, ◌⊎◌, Bool as Truth, true, false, List, length, slice_get, slice_index_or, Option, Some, None}
use Rattle.aw_rel.specs.Hierarchy.{is_among}
use Rattle.aw_rel.specs.inside.Tables.{parent_at, children_at, StandBefore}

abbrev pub is_cleared : List Truth → ℕ → Truth
is_cleared cleared slot = slice_index_or cleared slot false

-- there is a parent, and it is marked
abbrev pub is_marked : List Truth → Option ℕ → Truth
is_marked marks None = false
is_marked marks (Some slot) = is_cleared marks slot

-- so many of the first children are cleared
abbrev pub IsFront : List ℕ → List Truth → ℕ → Type 0
IsFront children cleared count = (place child : ℕ) → place < count → slice_get children place ≡ Some child → is_cleared cleared child ≡ true

-- a value has a child that isn't cleared
pub record Waits (parents : List (Option ℕ)) (cleared : List Truth) (slot : ℕ) : Type 0 where
  pub child : ℕ
  pub parent : parent_at parents child ≡ Some slot
  pub uncleared : is_cleared cleared child ≡ false

-- a value is cleared, or waits for a child
abbrev pub IsSettled : List (Option ℕ) → List Truth → ℕ → Type 0
IsSettled parents cleared slot = (is_cleared cleared slot ≡ true) ⊎ Waits parents cleared slot

-- what holds at each moment: a cleared value's children are cleared, and the cleared values are listed, each before its parent
pub record IsClearing (parents : List (Option ℕ)) (children : List (List ℕ)) (cleared : List Truth) (passed upward : List ℕ) : Type 0 where
  pub room : length cleared ≡ length parents
  pub places : length passed ≡ length parents
  pub closed : (slot child : ℕ) → parent_at parents child ≡ Some slot → is_cleared cleared slot ≡ true → is_cleared cleared child ≡ true
  pub listed : (slot : ℕ) → is_cleared cleared slot ≡ true → is_among upward slot ≡ true
  pub alone : (slot : ℕ) → is_among upward slot ≡ true → is_cleared cleared slot ≡ true
  pub rising : StandBefore parents upward
  pub fronts : (slot : ℕ) → IsFront (children_at children slot) cleared (slice_index_or passed slot 0)

-- what a climb leaves: what was settled stays so, but for the value that is looked at next
pub record IsClimbing (parents : List (Option ℕ)) (children : List (List ℕ)) (before cleared : List Truth) (passed upward : List ℕ) (from : ℕ) (next : Option ℕ) : Type 0 where
  pub clearing : IsClearing parents children cleared passed upward
  pub settled : (slot : ℕ) → IsSettled parents before slot → IsSettled parents cleared slot ⊎ (next ≡ Some slot)
  pub start : IsSettled parents cleared from ⊎ (next ≡ Some from)
  pub below : (slot : ℕ) → next ≡ Some slot → slot < length parents
