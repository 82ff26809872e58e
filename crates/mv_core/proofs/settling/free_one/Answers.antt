use Rattle.mv_core.proofs.Each.{freed-written, freed-past}
use Rattle.std.proofs.Common.{arith}
use Rattle.mv_core.proofs.settling.free_one.Goals as goal

pub returns-then-at-objects : goal.returns-then-at-objects
returns-then-at-objects c =
    freed-written c.args.who c.args.object c.from-at.result c.args.objects.now c.index-objects-at.result c.give_up.new.found c.from-at.ensures c.if-at-objects.true c.give_up.ensures

pub returns-else-at-objects : goal.returns-else-at-objects
returns-else-at-objects c =
    freed-past c.args.who c.args.object c.args.objects.now (omega (arith, c.if-at-objects.false, c.from-at.ensures))
