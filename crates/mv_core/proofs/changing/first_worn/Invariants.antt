use Rattle.std.proofs.Common.{◌≡◌, drop}
use Rattle.mv_core.specs.Replies.{first_worn}
use Rattle.mv_core.proofs.changing.first_worn.Given as goal

abbrev pub invariant-loop-change : goal.invariant-loop-change
invariant-loop-change l = first_worn l.objects (drop l.change-index l.changes) ≡ first_worn l.objects l.changes
