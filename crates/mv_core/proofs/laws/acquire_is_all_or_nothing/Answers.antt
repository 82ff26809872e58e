use Rattle.mv_core.proofs.StepLaws.{acquire-all}
use Rattle.mv_core.proofs.laws.acquire_is_all_or_nothing.Goals as goal

pub returns : goal.returns
returns c = acquire-all
