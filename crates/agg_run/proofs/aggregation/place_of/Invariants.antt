use Rattle.std.proofs.Common.{◌≡◌, ◌+◌, drop}
use Rattle.agg_run.specs.Calls.{place_in}
use Rattle.agg_run.proofs.aggregation.place_of.Given as goal

abbrev pub invariant-loop-place : goal.invariant-loop-place
invariant-loop-place l = l.place + place_in (drop l.place l.over) l.dimension ≡ place_in l.over l.dimension
