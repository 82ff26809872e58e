use Rattle.aw_status.proofs.Parting.{keeps-order}
use Rattle.aw_status.proofs.laws.keeping_keeps_the_order.Goals as goal

pub returns : goal.returns
returns c = keeps-order
