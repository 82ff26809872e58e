-- The levels of a hierarchy, and the folds of their cells.
use Rattle.std.specs.Prelude.{ℕ, zero, suc, ◌==◌, ℤ, cond, List, [], ◌∷◌, slice_set, length, Option, Some, None}
use Rattle.std.specs.Option.{option_map}
use Rattle.std.specs.Map.{lookup}
use Rattle.std.specs.BTreeMap.{BTreeMap, is_at}
use Rattle.aw_cell.specs.declared.cell.Kind.{Kind}
use Rattle.aw_cell.specs.declared.operator.Operator.{Operator}
use Rattle.aw_rel.specs.Hierarchy.{Tree, parent_in, is_leaf, leaves_in}
use Rattle.aw_var.specs.CellMap.{by_slots}
use Rattle.agg_run.specs.Aggregates.{Numbers, slot_at}
use Rattle.agg_run.specs.inside.Folds.{fold_of, finished, summed}
use Rattle.agg_run.specs.declared.folding.Fold.{Fold}

-- one step more, where there is a parent
abbrev pub one_more : Option ℕ → ℕ
one_more None = 0
one_more (Some steps) = suc steps

-- how many steps from value to parent can be made, at most so many
abbrev pub depth_within : Tree → ℕ → ℕ → ℕ
depth_within tree zero slot = 0
depth_within tree (suc most) slot = one_more (option_map (λ parent. depth_within tree most parent) (parent_in tree slot))

abbrev pub depth_in : Tree → ℕ → ℕ
depth_in tree slot = depth_within tree (length tree) slot

-- the folds of cells by their keys
abbrev pub Folds : Type 0
Folds = List (List ℕ × Fold)

abbrev pub fold_at : Folds → List ℕ → Option Fold
fold_at folds key = lookup (is_at (by_slots key)) folds

-- the key of the cell one step higher
abbrev pub raised_key : ℕ → List ℕ → Option ℕ → Option (List ℕ)
raised_key place key None = None
raised_key place key (Some parent) = Some (slice_set key place parent)

abbrev pub given_at : List ℕ → Fold → Option (List ℕ) → Option Fold
given_at key fold None = None
given_at key fold (Some above) = cond (is_at (by_slots above) key) (Some fold) None

-- what a cell gives to the cell with a key when it goes one step up
abbrev pub lifted_to : Tree → ℕ → List ℕ → List ℕ × Fold → Option Fold
lifted_to tree place key cell = given_at key cell.1 (raised_key place cell.0 (parent_in tree (slot_at cell.0 place)))

-- the levels of a line's cells, by the depth of their values from 0
abbrev pub Levels : Type 0
Levels = List (BTreeMap (List ℕ) Fold)

-- the fold that a level has at a key
abbrev pub on_level : Levels → ℕ → List ℕ → Option Fold
on_level [] depth key = None
on_level (level ∷ levels) zero key = fold_at level.entries key
on_level (level ∷ levels) (suc depth) key = on_level levels depth key

-- numbers by their keys
abbrev pub Held : Type 0
Held = List (List ℕ × ℤ)

abbrev pub held_at : Held → Numbers
held_at held key = lookup (is_at (by_slots key)) held

-- what a cell gives to the cell with a key on a level: itself, where it is at a leaf of this depth
abbrev pub placed_on : Tree → ℕ → ℕ → List ℕ → List ℕ × ℤ → Option Fold
placed_on tree place depth key cell =
    cond (is_leaf tree (slot_at cell.0 place))
    (cond (depth == depth_in tree (slot_at cell.0 place)) (cond (is_at (by_slots cell.0) key) (Some (fold_of cell.1)) None) None)
    None

-- the fold over a cell
abbrev pub started : Numbers → List ℕ → Option Fold
started numbers key = option_map fold_of (numbers key)

-- the cell with a key on a level, where there are only those at leaves
abbrev pub leaf_cell : Tree → ℕ → Numbers → ℕ → List ℕ → Option Fold
leaf_cell tree place numbers depth key = cond (depth == depth_in tree (slot_at key place)) (cond (is_leaf tree (slot_at key place)) (started numbers key) None) None

-- the fold over the leaves below a key's value
abbrev pub fold_below : Operator → Tree → ℕ → Numbers → List ℕ → Option Fold
fold_below operator tree place numbers key = summed operator (λ leaf. started numbers (slice_set key place leaf)) (leaves_in tree (slot_at key place))

-- the fold of a cell when its level is complete
abbrev pub whole : Operator → Tree → ℕ → Numbers → List ℕ → Option Fold
whole operator tree place numbers key = cond (is_leaf tree (slot_at key place)) (started numbers key) (fold_below operator tree place numbers key)

abbrev pub whole_cell : Operator → Tree → ℕ → Numbers → ℕ → List ℕ → Option Fold
whole_cell operator tree place numbers depth key = cond (depth == depth_in tree (slot_at key place)) (whole operator tree place numbers key) None

-- what becomes of a cell's fold: a cell at a leaf keeps its number
abbrev pub ended : Kind → Operator → Tree → ℕ → List ℕ → Fold → ℤ
ended kind operator tree place key fold = cond (is_leaf tree (slot_at key place)) fold.number (finished kind operator fold)

-- a number, and else another
abbrev pub or_else : Option ℤ → Option ℤ → Option ℤ
or_else (Some number) other = Some number
or_else None other = other
