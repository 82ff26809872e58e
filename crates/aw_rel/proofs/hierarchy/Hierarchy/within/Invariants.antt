use Rattle.std.proofs.Common.{◌≡◌, ◌≤◌, length}
use Rattle.aw_rel.proofs.Within.{Marked}
use Rattle.aw_rel.proofs.hierarchy.Hierarchy.within.Given as goal

abbrev pub invariant-loop-left : goal.invariant-loop-left
invariant-loop-left l = Marked l.self l.upward l.within.items l.slot l.left × (length l.within.items ≡ length l.parents) × (l.left ≤ length l.upward)

abbrev pub decreases-loop-left : goal.decreases-loop-left
decreases-loop-left l = l.left
