use Rattle.mv_core.proofs.StepLaws.{owner-keeps}
use Rattle.mv_core.proofs.laws.owner_keeps_until_it_gives_up.Goals as goal

pub returns : goal.returns
returns c = owner-keeps
