use Rattle.std.specs.Prelude.{◌≡◌, ◌==◌, vec_capacity, Option, ℕ, true, Some, None}
use Rattle.std.specs.Option.{IsSomeAnd}
use Rattle.std.proofs.Common.{sym, subst, refl}
use Rattle.aw_body.specs.Bodies.{IsBodyOf}
use Rattle.aw_body.specs.declared.body.Body.TheVariants.{Dim}
use Rattle.mv_view.specs.Each.{only}
use Rattle.mv_view.specs.ViewState.{ObjectView, ViewState, AreSeen, object_of}
use Rattle.mv_view.specs.Rules as rule
use Rattle.mv_view.proofs.ChangedPlaces.{IsListed-same, owned-cond, seen-maintained}
use Rattle.aw_dim.specs.DimensionState.{DimensionState}
use Rattle.mv_view.proofs.view.View.maintain.Goals as goal

form-alone : (view : ViewState) (object : ℕ) (values : DimensionState) → IsSomeAnd (object_of view object) (λ found. IsBodyOf found.kind (Dim values) × (found.owned ≡ true)) → IsSomeAnd (object_of view object) (λ found. IsBodyOf found.kind (Dim values))
form-alone view object values both = step (object_of view object) both
  where
    step : (found : Option ObjectView) → IsSomeAnd found (λ one. IsBodyOf one.kind (Dim values) × (one.owned ≡ true)) → IsSomeAnd found (λ one. IsBodyOf one.kind (Dim values))
    step None h = h
    step (Some one) h = h.0

pub invariant_of-self : goal.invariant_of-self
invariant_of-self c =
    let form = subst (λ (view : ViewState). IsSomeAnd (object_of view c.args.object) (λ found. IsBodyOf found.kind (Dim c.args.dimension))) (sym c.self.view_is) (form-alone c.args.self.now c.args.object c.args.dimension c.requires) in
    IsListed-same c.self.inside.objects c.maintain_at.new.objects c.self.inside.owned.items (vec_capacity c.self.inside.owned) (only c.args.object (rule.with_values c.args.dimension)) c.maintain_at.ensures.objects
    (λ at found. owned-cond (c.args.object == at) (rule.with_values c.args.dimension found) found refl)
    (subst AreSeen (sym c.maintain_at.ensures.objects) (seen-maintained c.self.inside.objects c.args.object c.args.dimension c.self.invariant.seen form c.maintain_at.ensures.valid))
    c.self.invariant
