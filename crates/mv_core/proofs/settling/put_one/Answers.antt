use Rattle.mv_core.proofs.Each.{renewed-written, renewed-past}
use Rattle.std.proofs.Common.{arith}
use Rattle.mv_core.proofs.settling.put_one.Goals as goal

pub returns-then-at-objects : goal.returns-then-at-objects
returns-then-at-objects c =
    renewed-written c.args.fresh c.from-at.result c.args.objects.now c.index-objects-at.result c.renew.new.found c.from-at.ensures c.if-at-objects.true c.renew.ensures

pub returns-else-at-objects : goal.returns-else-at-objects
returns-else-at-objects c =
    renewed-past c.args.fresh c.args.objects.now (omega (arith, c.if-at-objects.false, c.from-at.ensures))
