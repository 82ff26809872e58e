use Rattle.aw_cell.proofs.CellLaws.{de_morgan}
use Rattle.aw_cell.proofs.laws.de_morgan.Goals as goal

pub returns : goal.returns
returns c = de_morgan
