use Rattle.std.proofs.Common.{◌-◌, length}
use Rattle.aw_rel.specs.inside.Clearing.{IsFront}
use Rattle.aw_rel.proofs.clearing.front.Given as goal

abbrev pub invariant-loop-front : goal.invariant-loop-front
invariant-loop-front l = IsFront l.children l.cleared l.front

abbrev pub decreases-loop-front : goal.decreases-loop-front
decreases-loop-front l = length l.children - l.front
