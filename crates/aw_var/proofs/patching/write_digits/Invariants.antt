use Rattle.aw_var.proofs.Digits.{DigitsFrom}
use Rattle.aw_var.proofs.patching.write_digits.Given as goal

abbrev pub invariant-loop-at : goal.invariant-loop-at
invariant-loop-at l = DigitsFrom l.slots l.at l.rest l.number

abbrev pub decreases-loop-at : goal.decreases-loop-at
decreases-loop-at l = l.at
