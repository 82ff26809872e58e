use Rattle.dim_maintain.proofs.MaintainLaws.{first_causes_hold}
use Rattle.dim_maintain.proofs.laws.first_causes.Goals as goal

pub returns : goal.returns
returns c = first_causes_hold
