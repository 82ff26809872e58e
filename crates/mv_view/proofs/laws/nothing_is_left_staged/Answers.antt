use Rattle.mv_view.proofs.callers.Changes.{nothing-left}
use Rattle.mv_view.proofs.laws.nothing_is_left_staged.Goals as goal

pub returns : goal.returns
returns c = nothing-left c.difference_gives_newer.ensures
