use Rattle.std.proofs.Common.{length}
use Rattle.dml_exprs.proofs.exprs.Expressions.+unary.Given as goal

abbrev pub decreases-unary : goal.decreases-unary
decreases-unary o l = length l.tokens.now.rest.now
