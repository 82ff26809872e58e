use Rattle.aw_cell.proofs.CellLaws.{orders_agree}
use Rattle.aw_cell.proofs.laws.orders_agree.Goals as goal

pub returns : goal.returns
returns c = orders_agree
