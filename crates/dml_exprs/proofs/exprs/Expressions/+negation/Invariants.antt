use Rattle.std.proofs.Common.{length}
use Rattle.dml_exprs.proofs.exprs.Expressions.+negation.Given as goal

abbrev pub decreases-negation : goal.decreases-negation
decreases-negation o l = length l.tokens.now.rest.now
