use Rattle.aw_status.proofs.Below.{values_below}
use Rattle.aw_status.proofs.status.room.Goals as goal

pub returns : goal.returns
returns c = values_below c.args.dimension.now c.next.result c.next.ensures.valid c.next.ensures.value
