use Rattle.std.proofs.Common.{◌≡◌, drop}
use Rattle.ses_step.specs.Refusing.{missing_in_all}
use Rattle.ses_step.proofs.session.Known.missing_in_all.Given as goal

abbrev pub invariant-loop-expr : goal.invariant-loop-expr
invariant-loop-expr l = missing_in_all l.catalogue l.self (drop l.expr-index l.expressions) ≡ missing_in_all l.catalogue l.self l.expressions
