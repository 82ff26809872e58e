use Rattle.std.proofs.Common.{◌≡◌, ◌++◌}
use Rattle.agg_run.specs.inside.Sharing.{raised_cells}
use Rattle.agg_run.proofs.sharing.raised.Given as goal

abbrev pub invariant-loop-at : goal.invariant-loop-at
invariant-loop-at l = l.cells.items ++ raised_cells l.tree l.place l.at-iterator ≡ raised_cells l.tree l.place l.level.entries
