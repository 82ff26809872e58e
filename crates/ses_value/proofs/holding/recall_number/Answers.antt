use Rattle.std.proofs.Common.{subst}
use Rattle.aw_cell.specs.Number.{IsInRange}
use Rattle.ses_value.proofs.HeldCells.{number_in_range}
use Rattle.ses_value.proofs.holding.recall_number.Goals as goal

pub returns : goal.returns
returns c = number_in_range c.args.number.now (subst IsInRange c.units.ensures.value c.units.ensures.range)
