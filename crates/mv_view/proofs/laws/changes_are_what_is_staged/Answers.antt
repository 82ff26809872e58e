use Rattle.mv_view.proofs.callers.Changes.{changes-tell}
use Rattle.mv_view.proofs.laws.changes_are_what_is_staged.Goals as goal

pub returns : goal.returns
returns c = changes-tell c.difference_gives_newer.ensures
