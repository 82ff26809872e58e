use Rattle.aw_cell.proofs.RangeLaws.{stays_in_range}
use Rattle.aw_cell.proofs.laws.arithmetic_stays_in_range.Goals as goal

pub returns : goal.returns
returns c = stays_in_range
