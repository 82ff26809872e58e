use Rattle.std.proofs.Common.{◌∙◌, ap, sym, drop, drop_of_length-le}
use Rattle.std.specs.Prelude.{List}
use Rattle.aw_body.specs.declared.change.Fresh.{Fresh}
use Rattle.mv_view.specs.Rules.{owning, objects_of}
use Rattle.mv_view.specs.declared.kept.Step.TheVariants.{Own}
use Rattle.mv_view.proofs.Listing.{fresh-next, listed-none}
use Rattle.mv_view.proofs.owned.own_fresh.Goals as goal

pub loop-latest-preserved : goal.loop-latest-preserved
loop-latest-preserved c = record {
  owned = c.own_at.ensures.listed;
  done = fresh-next c.requires.law c.args.fresh.now c.loop-latest.latest-index c.latest-item.result Own c.loop-latest.objects c.own_at.new.objects c.args.objects.now c.loop-latest-test.true c.latest-item.is c.loop-latest.invariant.owned.seen c.own_at.ensures.objects c.loop-latest.invariant.done;
}

pub returns-clause-objects : goal.returns-clause-objects
returns-clause-objects c =
    sym (listed-none owning c.loop-latest.objects (objects_of (drop c.loop-latest.latest-index c.args.fresh.now)) (ap (λ (those : List Fresh). objects_of those) (drop_of_length-le c.args.fresh.now c.loop-latest-test.false))) ∙ c.loop-latest.invariant.done
