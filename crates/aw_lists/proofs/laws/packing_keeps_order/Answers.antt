use Rattle.aw_lists.proofs.callers.PackingOrder.{packs_in_order}
use Rattle.aw_lists.proofs.laws.packing_keeps_order.Goals as goal

pub returns : goal.returns
returns c = packs_in_order
