use Rattle.std.proofs.Common.{◌∙◌, sym, drop, drop_of_length-le}
use Rattle.mv_view.specs.Rules.{owning}
use Rattle.mv_view.specs.declared.kept.Step.TheVariants.{Own}
use Rattle.mv_view.proofs.Listing.{listed-next, listed-none}
use Rattle.mv_view.proofs.owned.own_all.Goals as goal

pub loop-object-preserved : goal.loop-object-preserved
loop-object-preserved c = record {
  owned = c.own_at.ensures.listed;
  done = listed-next c.requires.law c.args.list.now c.loop-object.object-index Own c.loop-object.objects c.own_at.new.objects c.args.objects.now c.loop-object-test.true c.loop-object.invariant.owned.seen c.own_at.ensures.objects c.loop-object.invariant.done;
}

pub returns-clause-objects : goal.returns-clause-objects
returns-clause-objects c =
    sym (listed-none owning c.loop-object.objects (drop c.loop-object.object-index c.args.list.now) (drop_of_length-le c.args.list.now c.loop-object-test.false)) ∙ c.loop-object.invariant.done
