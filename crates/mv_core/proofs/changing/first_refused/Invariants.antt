use Rattle.std.proofs.Common.{◌≡◌, drop}
use Rattle.mv_core.specs.Replies.{may_make, first_refused}
use Rattle.mv_core.proofs.changing.first_refused.Given as goal

abbrev pub invariant-loop-change : goal.invariant-loop-change
invariant-loop-change l =
    first_refused (may_make l.definitions l.objects l.by) l.least (drop l.change-index l.changes) ≡ first_refused (may_make l.definitions l.objects l.by) 0 l.changes
