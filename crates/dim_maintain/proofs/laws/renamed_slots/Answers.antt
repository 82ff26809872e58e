use Rattle.dim_maintain.proofs.MaintainLaws.{renamed_slots_hold}
use Rattle.dim_maintain.proofs.laws.renamed_slots.Goals as goal

pub returns : goal.returns
returns c = renamed_slots_hold
