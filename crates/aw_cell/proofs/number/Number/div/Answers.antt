use Rattle.std.proofs.Common.{◌∙◌, ap, arith}
use Rattle.std.proofs.lemmas.Int.{ints}
use Rattle.aw_cell.specs.Arithmetic.{fitted}
use Rattle.aw_cell.proofs.Casts.{wide_scaled, narrow_value, wide_rounded, same_range}
use Rattle.aw_cell.proofs.Quotient.{quotient_of_nonzero}
use Rattle.aw_cell.proofs.number.Number.div.Goals as goal

pub returns-clause-value : goal.returns-clause-value
returns-clause-value c =
    c.fitted.ensures.value
    ∙ ap fitted (wide_rounded c.rounded.result _ _ _ _ c.rounded.type_inv c.rounded.ensures
    (wide_scaled _ _ c.self.view_is c.self.invariant) (narrow_value _ _ c.other.view_is c.other.invariant))
    ∙ quotient_of_nonzero c.args.self c.args.other
    (λ e. let n = c.if-other-eq0.false in n (omega (arith, ints)))

pub returns-clause-range : goal.returns-clause-range
returns-clause-range c nonzero =
    same_range _ _ _ (wide_rounded c.rounded.result _ _ _ _ c.rounded.type_inv c.rounded.ensures
    (wide_scaled _ _ c.self.view_is c.self.invariant) (narrow_value _ _ c.other.view_is c.other.invariant))
    c.fitted.ensures.range
