use Rattle.std.proofs.Common.{◌≡◌, drop}
use Rattle.mv_core.specs.Replies.{seen_block}
use Rattle.mv_core.proofs.asking.seen_block.Given as goal

abbrev pub invariant-loop-seen : goal.invariant-loop-seen
invariant-loop-seen l = seen_block l.objects l.who (drop l.seen-index l.listed) ≡ seen_block l.objects l.who l.listed
