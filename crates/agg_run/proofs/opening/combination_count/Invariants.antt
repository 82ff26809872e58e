use Rattle.std.proofs.Common.{◌≡◌, ◌≤◌, ◌*◌, ◌^◌, length, drop, fold}
use Rattle.agg_run.specs.Aggregates.{combination_count}
use Rattle.agg_run.specs.Calls.{values_of}
use Rattle.agg_run.proofs.opening.combination_count.Given as goal

abbrev pub invariant-loop-place : goal.invariant-loop-place
invariant-loop-place l = (fold (λ count slots. count * length slots) l.count (values_of (drop l.place l.dimensions)) ≡ combination_count (values_of l.dimensions)) × (l.count ≤ 2 ^ (16 * l.place))
