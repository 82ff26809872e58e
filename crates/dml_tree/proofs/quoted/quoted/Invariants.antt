use Rattle.std.proofs.Common.{◌-◌, length}
use Rattle.dml_tree.proofs.Quotes.{LettersRead}
use Rattle.dml_tree.proofs.quoted.quoted.Given as goal

abbrev pub invariant-loop-letter : goal.invariant-loop-letter
invariant-loop-letter l = LettersRead l.bytes l.at l.len l.text

abbrev pub decreases-loop-letter : goal.decreases-loop-letter
decreases-loop-letter l = length l.bytes - l.at
