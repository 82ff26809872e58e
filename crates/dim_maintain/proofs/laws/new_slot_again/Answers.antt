use Rattle.dim_maintain.proofs.MaintainLaws.{new_slot_again_hold}
use Rattle.dim_maintain.proofs.laws.new_slot_again.Goals as goal

pub returns : goal.returns
returns c = new_slot_again_hold
