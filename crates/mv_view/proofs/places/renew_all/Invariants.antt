use Rattle.std.proofs.Common.{◌≡◌, vec_len, map}
use Rattle.std.specs.Option.{option_map}
use Rattle.mv_view.specs.Each.{each_from}
use Rattle.mv_view.specs.ViewState.{AreSeen, HaveForms, kind_of}
use Rattle.mv_view.specs.Rules.{renewed, latest_of}
use Rattle.mv_view.proofs.places.renew_all.Given as goal

abbrev pub invariant-loop-latest : goal.invariant-loop-latest
invariant-loop-latest l = record {
  seen : AreSeen l.objects;
  forms : HaveForms (map (option_map kind_of) l.objects) l.rest.items;
  done : each_from 0 (λ at found. renewed (latest_of l.rest.items at) found) l.objects ≡ each_from 0 (λ at found. renewed (latest_of l.initial.rest.items at) found) l.initial.objects;
}

abbrev pub decreases-loop-latest : goal.decreases-loop-latest
decreases-loop-latest l = vec_len l.rest
