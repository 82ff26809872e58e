use Rattle.aw_status.proofs.Parting.{complement-twice}
use Rattle.aw_status.proofs.laws.complement_of_complement.Goals as goal

pub returns : goal.returns
returns c = complement-twice
