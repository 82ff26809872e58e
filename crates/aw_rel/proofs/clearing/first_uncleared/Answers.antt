use Rattle.aw_rel.proofs.Filling.{at_index}
use Rattle.aw_rel.proofs.clearing.first_uncleared.Goals as goal

pub bounds-cleared-from : goal.bounds-cleared-from
bounds-cleared-from c = c.requires c.from.result (at_index c.args.slots.now c.loop-slot.slot-index c.from.result c.loop-slot-test.true c.from.ensures)
