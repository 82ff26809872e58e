use Rattle.std.specs.Prelude.{slice_index_or}
use Rattle.std.proofs.Common.{◌∙◌, sym, subst, drop, drop_of_length-le}
use Rattle.mv_view.specs.Each.{only}
use Rattle.mv_view.specs.ViewState.{AreSeen}
use Rattle.mv_view.specs.inside.Steps.{stepped}
use Rattle.mv_view.proofs.Steps.{AreSeen-each, IsSeen-only, IsSeen-stepped}
use Rattle.mv_view.proofs.Listing.{listed-next, listed-none}
use Rattle.mv_view.proofs.places.step_all.Goals as goal

pub loop-object-preserved : goal.loop-object-preserved
loop-object-preserved c =
    let x = slice_index_or c.args.list.now c.loop-object.object-index 0 in
    record {
      seen = subst AreSeen (sym c.step_at.ensures) (AreSeen-each (only x (stepped c.args.step)) c.loop-object.objects (IsSeen-only x (stepped c.args.step) (IsSeen-stepped c.args.step)) c.loop-object.invariant.seen);
      done = listed-next c.requires.law c.args.list.now c.loop-object.object-index c.args.step c.loop-object.objects c.step_at.new.objects c.args.objects.now c.loop-object-test.true c.loop-object.invariant.seen c.step_at.ensures c.loop-object.invariant.done;
    }

pub returns : goal.returns
returns c =
    sym (listed-none (stepped c.args.step) c.loop-object.objects (drop c.loop-object.object-index c.args.list.now) (drop_of_length-le c.args.list.now c.loop-object-test.false)) ∙ c.loop-object.invariant.done
