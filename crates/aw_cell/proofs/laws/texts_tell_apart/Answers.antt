use Rattle.aw_cell.proofs.NumberLaws.{texts_tell_apart}
use Rattle.aw_cell.proofs.laws.texts_tell_apart.Goals as goal

pub returns : goal.returns
returns c = texts_tell_apart
