use Rattle.std.proofs.Common.{length}
use Rattle.dml_exprs.proofs.exprs.+expr.Given as goal

abbrev pub decreases-expr : goal.decreases-expr
decreases-expr l = length l.tokens.now.rest.now
