use Rattle.mv_core.proofs.Each.{renewed-next, renewed-end, none-left}
use Rattle.mv_core.specs.Effects.{each, renewed}
use Rattle.mv_core.proofs.settling.put.Goals as goal

pub loop-fresh-preserved : goal.loop-fresh-preserved
loop-fresh-preserved c =
    renewed-next c.loop-fresh.made.items c.pop.new.self.items c.in-Some.fresh c.loop-fresh.objects c.put_one.new.objects (each (renewed c.args.made.items) c.args.objects.now) c.in-Some.ensures.items c.put_one.ensures c.loop-fresh.invariant

pub returns : goal.returns
returns c =
    renewed-end c.loop-fresh.made.items c.loop-fresh.objects (each (renewed c.args.made.items) c.args.objects.now) (none-left c.loop-fresh.made.items c.loop-fresh.made.len c.loop-fresh.made.ok.0 c.in_default.ensures.cases.0) c.loop-fresh.invariant
