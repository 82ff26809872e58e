use Rattle.std.proofs.Common.{◌≡◌}
use Rattle.mv_core.specs.Effects.{each, renewed}
use Rattle.mv_core.proofs.settling.put.Given as goal

abbrev pub invariant-loop-fresh : goal.invariant-loop-fresh
invariant-loop-fresh l = each (renewed l.made.items) l.objects ≡ each (renewed l.initial.made.items) l.initial.objects

abbrev pub decreases-loop-fresh : goal.decreases-loop-fresh
decreases-loop-fresh l = goal.left-loop-fresh l
