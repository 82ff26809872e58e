use Rattle.std.proofs.Common.{◌≡◌, ◌++◌, List, vec_len}
use Rattle.aw_body.specs.declared.change.Fresh.{Fresh}
use Rattle.mv_view.specs.ViewState.{AreSeen, HaveForms, kept_kinds}
use Rattle.mv_view.specs.Rules.{seen_from}
use Rattle.mv_view.proofs.attaching.fill.Given as goal

abbrev pub invariant-loop-latest : goal.invariant-loop-latest
invariant-loop-latest l = record {
  later : List Fresh;
  all : l.initial.rest.items ≡ l.rest.items ++ later;
  seen : l.objects ≡ seen_from 0 l.catalogue later;
  places : AreSeen l.objects;
  forms : HaveForms (kept_kinds l.catalogue) l.rest.items;
}

abbrev pub decreases-loop-latest : goal.decreases-loop-latest
decreases-loop-latest l = vec_len l.rest
