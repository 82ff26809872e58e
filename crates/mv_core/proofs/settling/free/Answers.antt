use Rattle.mv_core.proofs.Each.{freed-next, freed-last}
use Rattle.mv_core.specs.Effects.{each, free_listed}
use Rattle.mv_core.proofs.settling.free.Goals as goal

pub loop-object-preserved : goal.loop-object-preserved
loop-object-preserved c =
    freed-next c.args.who c.loop-object.object-index c.args.listed.now _ c.loop-object.objects c.free_one.new.objects (each (free_listed c.args.who c.args.listed.now) c.args.objects.now) c.loop-object-test.true c.free_one.ensures c.loop-object.invariant

pub returns : goal.returns
returns c =
    freed-last c.args.who c.loop-object.object-index c.args.listed.now c.loop-object.objects (each (free_listed c.args.who c.args.listed.now) c.args.objects.now) c.loop-object-test.false c.loop-object.invariant
