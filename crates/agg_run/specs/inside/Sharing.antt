-- Cells that are added up in pieces.
use Rattle.std.specs.Prelude.{ℕ, ◌≡◌, cond, List, [], ◌∷◌, Option, Some, None, Result, Ok, Err}
use Rattle.std.specs.BTreeMap.{BTreeMap, is_at}
use Rattle.aw_cell.specs.declared.operator.Operator.{Operator}
use Rattle.aw_rel.specs.Hierarchy.{Tree, parent_in}
use Rattle.aw_var.specs.CellMap.{by_slots}
use Rattle.agg_run.specs.Aggregates.{slot_at}
use Rattle.agg_run.specs.inside.Folds.{with, summed}
use Rattle.agg_run.specs.inside.Levels.{Folds, fold_at, raised_key}
use Rattle.agg_run.specs.declared.folding.Fold.{Fold}

-- what cells come to at a key
abbrev pub gathered : Operator → Folds → List ℕ → Option Fold
gathered operator cells key = summed operator (λ cell. cond (is_at (by_slots cell.0) key) (Some cell.1) None) cells

-- a map has what cells come to
abbrev pub AreSumsOf : Operator → Folds → Folds → Type 0
AreSumsOf operator cells sums = (key : List ℕ) → fold_at sums key ≡ gathered operator cells key

-- the cell above another, where there is one
abbrev pub with_raised : Option (List ℕ) → Fold → Folds → Folds
with_raised None fold cells = cells
with_raised (Some above) fold cells = (above, fold) ∷ cells

-- the cells above those of a level, each with the fold that it gets
abbrev pub raised_cells : Tree → ℕ → Folds → Folds
raised_cells tree place [] = []
raised_cells tree place (cell ∷ cells) = with_raised (raised_key place cell.0 (parent_in tree (slot_at cell.0 place))) cell.1 (raised_cells tree place cells)

-- what a piece came to is added
abbrev pub IsAdded : {E : Type 0} → Operator → (List ℕ → Option Fold) → Result (BTreeMap (List ℕ) Fold) E → (List ℕ → Option Fold) → Type 0
IsAdded operator was (Ok sums) now = (key : List ℕ) → now key ≡ with operator (was key) (fold_at sums.entries key)
IsAdded operator was (Err fault) now = ⊥
