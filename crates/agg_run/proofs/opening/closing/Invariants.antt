use Rattle.std.proofs.Common.{ℕ, ◌≡◌, List, cond}
use Rattle.std.specs.List.{IsDistinct}
use Rattle.std.specs.Map.{keys_of}
use Rattle.std.specs.Ordering.{eq_by_cmp}
use Rattle.aw_var.specs.CellMap.{by_slots, cell_at, IsCellMap}
use Rattle.agg_run.specs.Aggregates.{is_combination}
use Rattle.agg_run.specs.Calls.{values_of}
use Rattle.agg_run.specs.inside.Levels.{held_at}
use Rattle.agg_run.specs.inside.Cells.{pending, written, settled}
use Rattle.agg_run.proofs.opening.closing.Given as goal

-- what is written, with what is left to write, is all
abbrev pub invariant-loop-at : goal.invariant-loop-at
invariant-loop-at l = IsDistinct (eq_by_cmp by_slots) (keys_of l.at-iterator) ×
    ((key : List ℕ) → written (pending l.kind (values_of l.dimensions) key (held_at l.at-iterator key)) (cell_at l.closing.cells key)
    ≡ cond (is_combination (values_of l.dimensions) key) (settled l.kind (held_at l.numbers.entries key) (cell_at l.cells.cells key)) (cell_at l.cells.cells key))
    × IsCellMap l.closing.cells × (l.closing.slots ≡ l.cells.slots) × (l.closing.kind ≡ l.kind)
