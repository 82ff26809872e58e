use Rattle.aw_status.proofs.Parting.{parts}
use Rattle.aw_status.proofs.laws.keeping_and_removing_part.Goals as goal

pub returns : goal.returns
returns c = parts
