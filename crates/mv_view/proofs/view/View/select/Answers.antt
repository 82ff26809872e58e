use Rattle.std.specs.Prelude.{◌==◌, vec_capacity}
use Rattle.std.specs.Option.{IsSomeAnd}
use Rattle.std.proofs.Common.{sym, subst, refl}
use Rattle.aw_body.specs.Bodies.{IsBodyOf}
use Rattle.aw_body.specs.declared.body.Body.TheVariants.{Set}
use Rattle.mv_view.specs.Each.{only}
use Rattle.mv_view.specs.ViewState.{ViewState, AreSeen, object_of}
use Rattle.mv_view.specs.Rules as rule
use Rattle.mv_view.proofs.ChangedPlaces.{IsListed-same, owned-cond, seen-selected}
use Rattle.mv_view.proofs.view.View.select.Goals as goal

pub invariant_of-self : goal.invariant_of-self
invariant_of-self c =
    let form = subst (λ (view : ViewState). IsSomeAnd (object_of view c.args.object) (λ found. IsBodyOf found.kind (Set c.args.slots))) (sym c.self.view_is) c.requires in
    IsListed-same c.self.inside.objects c.select_at.new.objects c.self.inside.owned.items (vec_capacity c.self.inside.owned) (only c.args.object (rule.with_slots c.args.slots)) c.select_at.ensures
    (λ at found. owned-cond (c.args.object == at) (rule.with_slots c.args.slots found) found refl)
    (subst AreSeen (sym c.select_at.ensures) (seen-selected c.self.inside.objects c.args.object c.args.slots c.self.invariant.seen form))
    c.self.invariant
