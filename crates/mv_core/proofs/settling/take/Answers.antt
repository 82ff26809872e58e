use Rattle.mv_core.proofs.Each.{taken-next, taken-last}
use Rattle.mv_core.specs.Effects.{each, take_listed}
use Rattle.mv_core.proofs.settling.take.Goals as goal

pub loop-object-preserved : goal.loop-object-preserved
loop-object-preserved c =
    taken-next c.args.who c.loop-object.object-index c.args.listed.now _ c.loop-object.objects c.take_one.new.objects (each (take_listed c.args.who c.args.listed.now) c.args.objects.now) c.loop-object-test.true c.take_one.ensures c.loop-object.invariant

pub returns : goal.returns
returns c =
    taken-last c.args.who c.loop-object.object-index c.args.listed.now c.loop-object.objects (each (take_listed c.args.who c.args.listed.now) c.args.objects.now) c.loop-object-test.false c.loop-object.invariant
