use Rattle.std.proofs.Common.{◌∙◌, ap, refl}
use Rattle.aw_cell.specs.Arithmetic.{fitted}
use Rattle.aw_cell.proofs.Casts.{wide_product, size_of_product, wide_rounded, same_range}
use Rattle.aw_cell.proofs.number.Number.mul.Goals as goal

pub rounded-requires-clause-room : goal.rounded-requires-clause-room
rounded-requires-clause-room c = size_of_product c.self.inside.units c.other.inside.units c.self.invariant c.other.invariant

pub returns-clause-value : goal.returns-clause-value
returns-clause-value c =
    c.fitted.ensures.value
    ∙ ap fitted (wide_rounded c.rounded.result _ _ _ _ c.rounded.type_inv c.rounded.ensures
    (wide_product _ _ _ _ c.self.view_is c.other.view_is c.self.invariant c.other.invariant) refl)

pub returns-clause-range : goal.returns-clause-range
returns-clause-range c =
    same_range _ _ _ (wide_rounded c.rounded.result _ _ _ _ c.rounded.type_inv c.rounded.ensures
    (wide_product _ _ _ _ c.self.view_is c.other.view_is c.self.invariant c.other.invariant) refl)
    c.fitted.ensures.range
