use Rattle.aw_cell.proofs.NumberLaws.{texts_are_numerals}
use Rattle.aw_cell.proofs.laws.texts_are_numerals.Goals as goal

pub returns : goal.returns
returns c = texts_are_numerals
