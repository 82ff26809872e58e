use Rattle.aw_status.proofs.Parting.{selects}
use Rattle.aw_status.proofs.laws.rules_select_values.Goals as goal

pub returns : goal.returns
returns c = selects
