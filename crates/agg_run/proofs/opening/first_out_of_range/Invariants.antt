use Rattle.std.proofs.Common.{◌≡◌}
use Rattle.std.specs.List.{find}
use Rattle.agg_run.specs.Calls.{values_of}
use Rattle.agg_run.specs.inside.Cells.{is_refused}
use Rattle.agg_run.proofs.opening.first_out_of_range.Given as goal

abbrev pub invariant-loop-at : goal.invariant-loop-at
invariant-loop-at l = find (is_refused l.kind (values_of l.dimensions)) l.at-iterator ≡ find (is_refused l.kind (values_of l.dimensions)) l.numbers.entries
