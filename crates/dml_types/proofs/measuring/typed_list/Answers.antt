use Rattle.std.proofs.Common.{◌<◌, length, map, drop, arith}
use Rattle.dml_kinds.specs.Meanings.{names_in}
use Rattle.dml_types.proofs.StatementAnswers.{none_behind}
use Rattle.dml_types.proofs.measuring.typed_list.Goals as goal

-- nothing was found of the others
pub returns-in_default : goal.returns-in_default
returns-in_default c =
    let few : length c.loop-expr.parts.now < 1 = omega (arith, c.in_default.len_below) in
    none_behind
    (names_in c.args.scope.now.catalogue.now c.args.scope.now.known.now c.args.scope.now.locals.now)
    c.args.scope.now.locals.now c.loop-expr.typed (map (λ e. e.now) (drop c.loop-expr.expr-index c.args.exprs.now)) c.loop-expr.parts.now _ few
    c.loop-expr.invariant
