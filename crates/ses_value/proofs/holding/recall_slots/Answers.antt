use Rattle.ses_value.proofs.HeldCells.{slots_in_range}
use Rattle.ses_value.proofs.holding.recall_slots.Goals as goal

pub returns : goal.returns
returns c = slots_in_range c.args.slots.now c.type_inv.slots
