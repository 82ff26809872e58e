use Rattle.mv_view.proofs.callers.Changes.{may-commit}
use Rattle.mv_view.proofs.laws.changes_may_be_committed.Goals as goal

pub returns : goal.returns
returns c = may-commit c.difference_gives_newer.ensures
