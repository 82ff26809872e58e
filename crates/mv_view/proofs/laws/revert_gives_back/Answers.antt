use Rattle.mv_view.proofs.callers.Changes.{revert-back}
use Rattle.mv_view.proofs.laws.revert_gives_back.Goals as goal

pub returns : goal.returns
returns c = revert-back
