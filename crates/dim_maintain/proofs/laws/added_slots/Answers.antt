use Rattle.dim_maintain.proofs.MaintainLaws.{added_slots_hold}
use Rattle.dim_maintain.proofs.laws.added_slots.Goals as goal

pub returns : goal.returns
returns c = added_slots_hold
