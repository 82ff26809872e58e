use Rattle.std.specs.Prelude.{vec_capacity}
use Rattle.std.proofs.Common.{sym, subst, refl}
use Rattle.mv_view.specs.Each.{listed, names}
use Rattle.mv_view.specs.ViewState.{AreSeen}
use Rattle.mv_view.specs.declared.kept.Step.TheVariants.{Update}
use Rattle.mv_view.specs.inside.Steps.{stepped}
use Rattle.mv_view.proofs.Steps.{AreSeen-each, IsSeen-listed, IsSeen-stepped}
use Rattle.mv_view.proofs.ChangedPlaces.{IsListed-same, owned-cond}
use Rattle.mv_view.proofs.view.View.update.Goals as goal

pub invariant_of-self : goal.invariant_of-self
invariant_of-self c =
    let list = c.as_slice.result.now in
    IsListed-same c.self.inside.objects c.step_all.new.objects c.self.inside.owned.items (vec_capacity c.self.inside.owned) (listed list (stepped Update)) c.step_all.ensures
    (λ at found. owned-cond (names list at) (stepped Update found) found refl)
    (subst AreSeen (sym c.step_all.ensures) (AreSeen-each (listed list (stepped Update)) c.self.inside.objects (IsSeen-listed list (stepped Update) (IsSeen-stepped Update)) c.self.invariant.seen))
    c.self.invariant
