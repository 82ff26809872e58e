use Rattle.std.proofs.Common.{◌≡◌, drop}
use Rattle.mv_view.specs.Each.{each_from, listed}
use Rattle.mv_view.specs.ViewState.{AreSeen}
use Rattle.mv_view.specs.inside.Steps.{stepped}
use Rattle.mv_view.proofs.places.step_all.Given as goal

abbrev pub invariant-loop-object : goal.invariant-loop-object
invariant-loop-object l = record {
  seen : AreSeen l.objects;
  done : each_from 0 (listed (drop l.object-index l.list) (stepped l.step)) l.objects ≡ each_from 0 (listed l.list (stepped l.step)) l.initial.objects;
}
