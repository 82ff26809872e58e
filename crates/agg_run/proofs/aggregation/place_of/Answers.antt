use Rattle.std.proofs.Common.{arith}
use Rattle.agg_run.proofs.Lines.{place_here}
use Rattle.agg_run.proofs.aggregation.place_of.Goals as goal

pub returns-then-over-place : goal.returns-then-over-place
returns-then-over-place c = place_here c.args.over.now c.args.dimension c.loop-place.place _ (omega arith) c.if-over-place.true c.loop-place.invariant
