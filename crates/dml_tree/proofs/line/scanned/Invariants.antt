use Rattle.std.proofs.Common.{◌-◌, length}
use Rattle.dml_tree.proofs.LineWalk.{Walked}
use Rattle.dml_tree.proofs.line.scanned.Given as goal

abbrev pub invariant-loop-start : goal.invariant-loop-start
invariant-loop-start l = Walked l.line l.fn.from l.at l.tokens

abbrev pub decreases-loop-start : goal.decreases-loop-start
decreases-loop-start l = length l.line - l.at
