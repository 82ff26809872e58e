use Rattle.std.proofs.Common.{◌∙◌, ap}
use Rattle.aw_cell.specs.Arithmetic.{fitted}
use Rattle.aw_cell.proofs.Casts.{wide_difference, same_range}
use Rattle.aw_cell.proofs.number.Number.sub.Goals as goal

pub returns-clause-value : goal.returns-clause-value
returns-clause-value c =
    c.fitted.ensures.value ∙ ap fitted (wide_difference _ _ _ _ c.self.view_is c.other.view_is c.self.invariant c.other.invariant)

pub returns-clause-range : goal.returns-clause-range
returns-clause-range c =
    same_range _ _ _ (wide_difference _ _ _ _ c.self.view_is c.other.view_is c.self.invariant c.other.invariant) c.fitted.ensures.range
