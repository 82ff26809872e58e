use Rattle.script_world.proofs.callers.Splitting.{lines_are_split}
use Rattle.script_meaning.proofs.laws.lines_give_back_the_script.Goals as goal

pub returns : goal.returns
returns c = lines_are_split
