use Rattle.mv_core.proofs.Each.{taken-written, taken-past}
use Rattle.std.proofs.Common.{arith}
use Rattle.mv_core.proofs.settling.take_one.Goals as goal

pub returns-then-at-objects : goal.returns-then-at-objects
returns-then-at-objects c =
    taken-written c.args.who c.args.object c.from-at.result c.args.objects.now c.index-objects-at.result c.own.new.found c.from-at.ensures c.if-at-objects.true c.own.ensures

pub returns-else-at-objects : goal.returns-else-at-objects
returns-else-at-objects c =
    taken-past c.args.who c.args.object c.args.objects.now (omega (arith, c.if-at-objects.false, c.from-at.ensures))
