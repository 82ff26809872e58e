use Rattle.std.proofs.Common.{◌≡◌, drop}
use Rattle.std.specs.Prelude.{vec_capacity}
use Rattle.mv_view.specs.Each.{each_from, listed}
use Rattle.mv_view.specs.Rules.{owning}
use Rattle.mv_view.specs.inside.Places.{IsListed}
use Rattle.mv_view.proofs.owned.own_all.Given as goal

abbrev pub invariant-loop-object : goal.invariant-loop-object
invariant-loop-object l = record {
  owned : IsListed l.objects l.owned.items (vec_capacity l.owned);
  done : each_from 0 (listed (drop l.object-index l.list) owning) l.objects ≡ each_from 0 (listed l.list owning) l.initial.objects;
}
