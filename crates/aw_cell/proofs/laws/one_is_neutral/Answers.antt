use Rattle.aw_cell.proofs.NumberLaws.{one_is_neutral}
use Rattle.aw_cell.proofs.laws.one_is_neutral.Goals as goal

pub returns : goal.returns
returns c = one_is_neutral
