use Rattle.aw_dim.proofs.GivenSlots.{never_again}
use Rattle.aw_dim.proofs.laws.slots_are_never_given_again.Goals as goal

pub returns : goal.returns
returns c = never_again
