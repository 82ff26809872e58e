use Rattle.std.proofs.Common.{length}
use Rattle.agg_run.specs.inside.Levels.{held_at}
use Rattle.agg_run.specs.inside.Passes.{IsCarried}
use Rattle.agg_run.proofs.pass.pass.Given as goal

abbrev pub invariant-loop-level : goal.invariant-loop-level
invariant-loop-level g l = IsCarried l.kind l.operator l.tree l.place (held_at l.numbers.entries) l.levels.items l.after.entries

abbrev pub decreases-loop-level : goal.decreases-loop-level
decreases-loop-level g l = length l.levels.items
