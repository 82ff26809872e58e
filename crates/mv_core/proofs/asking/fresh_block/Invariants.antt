use Rattle.std.proofs.Common.{◌≡◌, drop}
use Rattle.mv_core.specs.Replies.{fresh_block}
use Rattle.mv_core.proofs.asking.fresh_block.Given as goal

abbrev pub invariant-loop-object : goal.invariant-loop-object
invariant-loop-object l = fresh_block l.objects l.who (drop l.object-index l.listed) ≡ fresh_block l.objects l.who l.listed
