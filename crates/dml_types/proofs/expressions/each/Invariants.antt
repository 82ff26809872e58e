use Rattle.std.proofs.Common.{◌≡◌, ◌++◌, map, drop}
use Rattle.dml_types.proofs.expressions.each.Given as goal

abbrev pub invariant-loop-expr : goal.invariant-loop-expr
invariant-loop-expr l = map (λ e. e.now) l.all.items ++ drop l.expr-index l.exprs ≡ l.exprs
