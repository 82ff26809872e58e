-- Hierarchies. A relation with one dimension gives each value of it at most one parent, a value of the same dimension. Contracts
-- see a hierarchy as the list of the dimension's values in their order, each by its slot and with its parent, where it has one.
use Rattle.std.specs.Prelude.{ℕ, ◌≡◌, ◌≢◌, ◌==◌, ◌&&◌, ◌||◌, zero, suc, Bool as Truth, false, not, cond, is_some, List, [], ◌∷◌, length, map, Option, Some, None, IsTrue, ⊤}
use Rattle.std.specs.List.{filter, find, list_any, AllPairs}
use Rattle.std.specs.Option.{option_map}
use Rattle.aw_cell.specs.declared.cell.Cell.{Cell}
use Rattle.aw_cell.specs.declared.cell.Cell.TheVariants.{Slot}
use Rattle.aw_dim.specs.DimensionState.{DimensionState, position_of}
use Rattle.aw_var.specs.CellMap.{Cells, cell_at}
use Rattle.aw_rel.specs.declared.fault.RelFault.{RelFault}
use Rattle.aw_rel.specs.declared.fault.RelFault.TheVariants.{Loop, NoMemory}

abbrev pub Tree : Type 0
Tree = List (ℕ × Option ℕ)

-- the slot in a cell of the relation, where a value of the dimension has it
abbrev pub parent_of : DimensionState → Cell → Option ℕ
parent_of values (Slot slot) = cond (is_some (position_of values slot)) (Some slot) None
parent_of values _ = None

-- the values of a dimension, with the parents that a relation gives them
abbrev pub tree_of : DimensionState → Cells → Tree
tree_of values cells = map (λ entry. (entry.0, parent_of values (cell_at cells (entry.0 ∷ [])))) values.entries

-- the parent of the value with a slot
abbrev pub parent_in : Tree → ℕ → Option ℕ
parent_in [] slot = None
parent_in (value ∷ tree) slot = cond (value.0 == slot) value.1 (parent_in tree slot)

-- whether a slot stands in a list
abbrev pub is_among : List ℕ → ℕ → Truth
is_among slots slot = list_any (λ other. slot == other) slots

-- whether there is a parent, and it has this slot
abbrev pub is_slot : ℕ → Option ℕ → Truth
is_slot slot None = false
is_slot slot (Some other) = slot == other

abbrev pub slots_in : Tree → List ℕ
slots_in tree = map (λ value. value.0) tree

-- the values whose parent has this slot
abbrev pub children_in : Tree → ℕ → List ℕ
children_in tree slot = slots_in (filter (λ value. is_slot slot value.1) tree)

-- the parent, where one step came to a value
abbrev pub parent_above : Tree → Option ℕ → Option ℕ
parent_above tree None = None
parent_above tree (Some slot) = parent_in tree slot

-- the value that so many steps from value to parent lead to
abbrev pub up : Tree → ℕ → ℕ → Option ℕ
up tree zero slot = Some slot
up tree (suc steps) slot = parent_above tree (up tree steps slot)

-- whether one to so many steps lead from a value to another
abbrev pub is_above_within : Tree → ℕ → ℕ → ℕ → Truth
is_above_within tree zero from slot = false
is_above_within tree (suc steps) from slot = is_slot slot (up tree (suc steps) from) || is_above_within tree steps from slot

-- whether the value with a slot is a proper ancestor of another: as many steps as there are values lead to it, or fewer
abbrev pub is_above : Tree → ℕ → ℕ → Truth
is_above tree from slot = is_above_within tree (length tree) from slot

-- the first value that is its own proper ancestor
abbrev pub first_loop : Tree → Option ℕ
first_loop tree = option_map (λ value. value.0) (find (λ value. is_above tree value.0 value.0) tree)

-- whether a value is the parent of none
abbrev pub is_leaf : Tree → ℕ → Truth
is_leaf tree slot = not (list_any (λ value. is_slot slot value.1) tree)

-- whether a value is another, or below it
abbrev pub is_within : Tree → ℕ → ℕ → Truth
is_within tree slot from = (slot == from) || is_above tree from slot

-- the leaves that are a value or below it, in the order of the dimension
abbrev pub leaves_in : Tree → ℕ → List ℕ
leaves_in tree slot = slots_in (filter (λ value. is_leaf tree value.0 && is_within tree slot value.0) tree)

-- what holds of every hierarchy: slots tell its values apart, each parent is a value, and no value is its own proper ancestor
pub record IsHierarchy (tree : Tree) : Type 0 where
  pub apart : AllPairs (λ one other. one ≢ other) (slots_in tree)
  pub parents : (slot parent : ℕ) → parent_in tree slot ≡ Some parent → IsTrue (is_among (slots_in tree) parent)
  pub no_loop : first_loop tree ≡ None

-- why there is no hierarchy: want of memory, or the first value that is its own proper ancestor
abbrev pub IsCause : Option ℕ → RelFault → Type 0
IsCause first NoMemory = ⊤
IsCause first (Loop slot) = first ≡ Some slot
