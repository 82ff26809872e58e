-- The tables of a hierarchy, by slot.
use Rattle.std.specs.Prelude.{ℕ, ◌≡◌, ◌<◌, Bool as Truth, true, false, cond, List, [], ◌∷◌, map, length, slice_get, slice_index_or, Option, Some, None}
use Rattle.std.specs.List.{filter}
use Rattle.aw_rel.specs.Hierarchy.{Tree, is_among, is_slot, parent_in, children_in, IsHierarchy}

-- the parent that stands at a slot
abbrev pub parent_at : List (Option ℕ) → ℕ → Option ℕ
parent_at parents slot = slice_index_or parents slot None

-- the children that stand at a slot
abbrev pub children_at : List (List ℕ) → ℕ → List ℕ
children_at children slot = slice_index_or children slot []

abbrev pub has_none : List ℕ → Truth
has_none [] = true
has_none (child ∷ children) = false

-- values in an order, with the parents that stand at their slots
abbrev pub tree_by : List ℕ → List (Option ℕ) → Tree
tree_by slots parents = map (λ slot. (slot, parent_at parents slot)) slots

-- the parents of some values alone, in a table for all slots
abbrev pub AreParents : (ℕ → Option ℕ) → List ℕ → List (Option ℕ) → Type 0
AreParents parent slots table = (slot : ℕ) → parent_at table slot ≡ cond (is_among slots slot) (parent slot) None

-- the values among some whose parent has a slot
abbrev pub children_among : List (Option ℕ) → List ℕ → ℕ → List ℕ
children_among parents slots slot = filter (λ child. is_slot slot (parent_at parents child)) slots

-- a table has the values among some at the slots of their parents
abbrev pub AreChildren : List (Option ℕ) → List ℕ → List (List ℕ) → Type 0
AreChildren parents slots table = (slot : ℕ) → children_at table slot ≡ children_among parents slots slot

-- each value and each parent has a slot below a number
pub record AreBelow (slots : List ℕ) (parents : List (Option ℕ)) (room : ℕ) : Type 0 where
  pub value : (slot : ℕ) → is_among slots slot ≡ true → slot < room
  pub parent : (slot above : ℕ) → parent_at parents slot ≡ Some above → above < room

-- the children at a slot are those whose parent has it
pub record AreKin (parents : List (Option ℕ)) (children : List (List ℕ)) : Type 0 where
  pub size : length children ≡ length parents
  pub parent : (slot place child : ℕ) → slice_get (children_at children slot) place ≡ Some child → parent_at parents child ≡ Some slot
  pub place : (slot child : ℕ) → parent_at parents child ≡ Some slot → (at : ℕ) × (slice_get (children_at children slot) at ≡ Some child)
  pub child : (slot above : ℕ) → parent_at parents slot ≡ Some above → slot < length parents
  pub above : (slot above : ℕ) → parent_at parents slot ≡ Some above → above < length parents

-- each value in a list stands before its parent
abbrev pub StandBefore : List (Option ℕ) → List ℕ → Type 0
StandBefore parents upward = (low high child slot : ℕ) → slice_get upward low ≡ Some child → parent_at parents child ≡ Some slot → slice_get upward high ≡ Some slot → low < high

-- the parts of a hierarchy belong together
pub record IsHeld (slots : List ℕ) (parents : List (Option ℕ)) (children : List (List ℕ)) (upward : List ℕ) : Type 0 where
  pub hierarchy : IsHierarchy (tree_by slots parents)
  pub found : (slot : ℕ) → parent_at parents slot ≡ parent_in (tree_by slots parents) slot
  pub kin : (slot : ℕ) → children_at children slot ≡ children_in (tree_by slots parents) slot
  pub all : (slot : ℕ) → is_among slots slot ≡ true → is_among upward slot ≡ true
  pub child : (slot above : ℕ) → parent_at parents slot ≡ Some above → is_among slots slot ≡ true
  pub rising : StandBefore parents upward
  pub room : (slot : ℕ) → is_among upward slot ≡ true → slot < length parents
  pub below : AreBelow slots parents (length parents)
  pub size : length children ≡ length parents
