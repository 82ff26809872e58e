use Rattle.aw_rel.proofs.OneChild.{leaves_are_of_one_child}
use Rattle.aw_rel.proofs.laws.leaves_are_of_one_child.Goals as goal

pub returns : goal.returns
returns c = leaves_are_of_one_child
