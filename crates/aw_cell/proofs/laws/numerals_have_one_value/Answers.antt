use Rattle.aw_cell.proofs.Numerals.{spells_once}
use Rattle.aw_cell.proofs.laws.numerals_have_one_value.Goals as goal

pub returns : goal.returns
returns c = spells_once
