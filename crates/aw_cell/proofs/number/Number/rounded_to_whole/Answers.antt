use Rattle.aw_cell.proofs.Casts.{fits_rounded, narrow_rounded}
use Rattle.aw_cell.proofs.number.Number.rounded_to_whole.Goals as goal

pub overflow_cast-result : goal.overflow_cast-result
overflow_cast-result c =
    fits_rounded c.rounded.result c.self.inside.units c.args.self.now c.rounded.type_inv c.rounded.ensures c.self.view_is c.self.invariant

pub returns : goal.returns
returns c =
    narrow_rounded c.rounded.result c.self.inside.units c.args.self.now c.rounded.type_inv c.rounded.ensures c.self.view_is c.self.invariant
