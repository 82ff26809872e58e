use Rattle.std.proofs.Common.{ℕ, ◌≡◌, List, true}
use Rattle.std.specs.FinMap.{is_sorted}
use Rattle.aw_var.specs.CellMap.{by_slots}
use Rattle.agg_run.specs.Aggregates.{numbers_at}
use Rattle.agg_run.specs.Calls.{values_of}
use Rattle.agg_run.specs.inside.Levels.{held_at, or_else}
use Rattle.agg_run.specs.inside.Cells.{AreOfCells}
use Rattle.agg_run.proofs.opening.opening.Given as goal

-- what is taken, with what is left to take, is all
abbrev pub invariant-loop-at : goal.invariant-loop-at
invariant-loop-at l = (is_sorted by_slots l.at-iterator ≡ true) ×
    ((key : List ℕ) → or_else (numbers_at (values_of l.dimensions) l.at-iterator key) (held_at l.numbers.entries key) ≡ numbers_at (values_of l.dimensions) l.cells.cells key)
    × AreOfCells (held_at l.numbers.entries)
