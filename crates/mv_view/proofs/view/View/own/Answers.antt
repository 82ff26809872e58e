use Rattle.std.specs.Prelude.{◌≡◌, vec_capacity, List, Option, map, ℕ}
use Rattle.std.specs.Option.{option_map}
use Rattle.std.proofs.Common.{◌∙◌, ap, sym, subst, refl}
use Rattle.mv_view.specs.Each.{each_from, listed, names}
use Rattle.mv_view.specs.ViewState.{ObjectView, ViewState, HaveForms, kind_of, kinds_of}
use Rattle.mv_view.specs.Rules as rule
use Rattle.mv_view.proofs.ChangedPlaces.{IsListed-same, owned-renewed}
use Rattle.aw_schema.specs.declared.definition.DefKind.{DefKind}
use Rattle.aw_body.specs.declared.change.Fresh.{Fresh}
use Rattle.mv_view.proofs.callers.Each.{each-each}
use Rattle.mv_view.proofs.callers.Fitting.{kinds-each, kind-cond}
use Rattle.mv_view.proofs.view.View.own.Goals as goal

kinds-owned : (objects : List (Option ObjectView)) (list : List ℕ) → map (option_map kind_of) (each_from 0 (listed list rule.owning) objects) ≡ map (option_map kind_of) objects
kinds-owned objects list = kinds-each 0 (listed list rule.owning) objects (λ k found. kind-cond (names list k) (rule.owning found) found refl)

pub renew_all-requires-clause-forms : goal.renew_all-requires-clause-forms
renew_all-requires-clause-forms c =
    let kinds = ap (λ (objects : List (Option ObjectView)). map (option_map kind_of) objects) c.own_fresh.ensures.objects ∙ kinds-owned c.own_all.new.objects (rule.objects_of c.as_slice-2.result.now)
    ∙ ap (λ (objects : List (Option ObjectView)). map (option_map kind_of) objects) c.own_all.ensures.objects ∙ kinds-owned c.self.inside.objects c.as_slice.result.now in
    subst (λ (those : List (Option DefKind)). HaveForms those c.args.fresh) (sym kinds) (subst (λ (view : ViewState). HaveForms (kinds_of view) c.args.fresh) (sym c.self.view_is) c.requires)

pub invariant_of-self : goal.invariant_of-self
invariant_of-self c =
    IsListed-same c.own_fresh.new.objects c.renew_all.new.objects c.own_fresh.new.owned.items (vec_capacity c.own_fresh.new.owned) (λ at found. rule.renewed (rule.latest_of c.args.fresh at) found) c.renew_all.ensures.objects
    (λ at found. owned-renewed (rule.latest_of c.args.fresh at) found) c.renew_all.ensures.seen c.own_fresh.ensures.listed

pub returns : goal.returns
returns c =
    let objects = c.self.inside.objects in
    let keep = c.as_slice.result.now in
    let fresh = c.as_slice-2.result.now in
    let after : c.renew_all.new.objects ≡ each_from 0 (λ at found. rule.renewed (rule.latest_of c.args.fresh at) (listed (rule.objects_of c.args.fresh) rule.owning at (listed c.args.keep.now rule.owning at found))) objects =
    c.renew_all.ensures.objects
    ∙ ap (λ (those : List (Option ObjectView)). each_from 0 (λ at found. rule.renewed (rule.latest_of c.args.fresh at) found) those)
    (c.own_fresh.ensures.objects ∙ ap (λ (those : List (Option ObjectView)). each_from 0 (listed (rule.objects_of fresh) rule.owning) those) c.own_all.ensures.objects ∙ each-each 0 (listed (rule.objects_of fresh) rule.owning) (listed keep rule.owning) objects)
    ∙ each-each 0 (λ at found. rule.renewed (rule.latest_of c.args.fresh at) found) (λ at found. listed (rule.objects_of fresh) rule.owning at (listed keep rule.owning at found)) objects
    ∙ ap (λ (those : List Fresh). each_from 0 (λ at found. rule.renewed (rule.latest_of c.args.fresh at) (listed (rule.objects_of those) rule.owning at (listed keep rule.owning at found))) objects) c.as_slice-2.ensures
    ∙ ap (λ (those : List ℕ). each_from 0 (λ at found. rule.renewed (rule.latest_of c.args.fresh at) (listed (rule.objects_of c.args.fresh) rule.owning at (listed those rule.owning at found))) objects) c.as_slice.ensures in
    let with_objects : List (Option ObjectView) → ViewState = λ those. record { who = c.self.inside.who; objects = those } in
    subst (λ (view : ViewState). with_objects c.renew_all.new.objects ≡ rule.acquired view c.args.keep.now c.args.fresh) c.self.view_is (ap with_objects after)
