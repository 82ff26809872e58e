use Rattle.std.proofs.Common.{ℕ, ◌≡◌, List, cond}
use Rattle.aw_cell.specs.declared.cell.Cell.TheVariants.{Na}
use Rattle.aw_var.specs.CellMap.{cell_at, IsCellMap}
use Rattle.agg_run.specs.Calls.{values_of}
use Rattle.agg_run.specs.inside.Cells.{is_cleared, is_in}
use Rattle.agg_run.proofs.opening.clear.Given as goal

-- what is cleared, with what is left to clear, is all
abbrev pub invariant-loop-at : goal.invariant-loop-at
invariant-loop-at l =
    ((key : List ℕ) → cond (is_in l.at-iterator key) (cond (is_cleared (values_of l.dimensions) l.numbers.entries key) Na (cell_at l.cleared.cells key)) (cell_at l.cleared.cells key)
    ≡ cond (is_cleared (values_of l.dimensions) l.numbers.entries key) Na (cell_at l.cells.cells key))
    × IsCellMap l.cleared.cells × (l.cleared.slots ≡ l.cells.slots) × (l.cleared.kind ≡ l.cells.kind)
