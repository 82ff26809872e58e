use Rattle.mv_core.proofs.Prepares.{acquire-still, acquire-unwritten}
use Rattle.mv_core.proofs.asking.acquire_block.Goals as goal

pub returns-clause-still : goal.returns-clause-still
returns-clause-still c =
    acquire-still c.args.objects.now c.args.who c.args.keep.now c.args.fresh.now c.args.same.now c.blocked.result c.blocked.ensures

pub returns-clause-unwritten : goal.returns-clause-unwritten
returns-clause-unwritten c =
    acquire-unwritten c.args.objects.now c.args.who c.args.keep.now c.args.fresh.now c.args.same.now c.blocked.result c.blocked.ensures
