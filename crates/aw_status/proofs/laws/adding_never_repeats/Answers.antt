use Rattle.aw_status.proofs.Parting.{once}
use Rattle.aw_status.proofs.laws.adding_never_repeats.Goals as goal

pub returns : goal.returns
returns c = once
