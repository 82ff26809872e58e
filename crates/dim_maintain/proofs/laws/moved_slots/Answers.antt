use Rattle.dim_maintain.proofs.MaintainLaws.{moved_slots_hold}
use Rattle.dim_maintain.proofs.laws.moved_slots.Goals as goal

pub returns : goal.returns
returns c = moved_slots_hold
