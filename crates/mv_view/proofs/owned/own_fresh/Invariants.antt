use Rattle.std.proofs.Common.{◌≡◌, drop}
use Rattle.std.specs.Prelude.{vec_capacity}
use Rattle.mv_view.specs.Each.{each_from, listed}
use Rattle.mv_view.specs.Rules.{owning, objects_of}
use Rattle.mv_view.specs.inside.Places.{IsListed}
use Rattle.mv_view.proofs.owned.own_fresh.Given as goal

abbrev pub invariant-loop-latest : goal.invariant-loop-latest
invariant-loop-latest l = record {
  owned : IsListed l.objects l.owned.items (vec_capacity l.owned);
  done : each_from 0 (listed (objects_of (drop l.latest-index l.fresh)) owning) l.objects ≡ each_from 0 (listed (objects_of l.fresh) owning) l.initial.objects;
}
