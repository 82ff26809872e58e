use Rattle.std.proofs.Common.{◌≡◌, drop}
use Rattle.agg_run.specs.Aggregates.{is_combination}
use Rattle.agg_run.specs.Calls.{values_of}
use Rattle.agg_run.proofs.opening.is_combination.Given as goal

abbrev pub invariant-loop-place : goal.invariant-loop-place
invariant-loop-place l = is_combination (values_of (drop l.place l.dimensions)) (drop l.place l.slots) ≡ is_combination (values_of l.dimensions) l.slots
