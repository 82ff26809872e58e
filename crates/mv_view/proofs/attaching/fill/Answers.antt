use Rattle.std.specs.Prelude.{◌≡◌, ◌++◌, ◌∷◌, [], length, Option, Some, IfSome, slice_set, List}
use Rattle.std.proofs.Common.{◌∙◌, ap, sym, subst, arith, append_assoc, append-nil}
use Rattle.aw_schema.specs.declared.definition.Def.{Def}
use Rattle.aw_body.specs.declared.change.Fresh.{Fresh}
use Rattle.aw_body.specs.Bodies.{IsBodyOf}
use Rattle.mv_view.specs.ViewState.{ObjectView, IsOf, AreSeen, HaveForms, kept_kinds}
use Rattle.mv_view.specs.Rules.{seen}
use Rattle.mv_view.proofs.Renewing.{seen-none, seen-more, length-seen, HaveForms-last, kept-definition}
use Rattle.mv_view.proofs.ChangedPlaces.{AreSeen-set, AreSeen-none}
use Rattle.mv_view.proofs.attaching.fill.Goals as goal

pub loop-latest-init : goal.loop-latest-init
loop-latest-init c = record {
  later = [];
  all = sym (append-nil c.into_vec-rest.result.items);
  seen = c.requires.empty ∙ seen-none 0 c.args.catalogue.now;
  places = AreSeen-none c.args.objects.now (length c.args.catalogue.now) c.requires.empty;
  forms = subst (HaveForms (kept_kinds c.args.catalogue.now)) (sym c.into_vec-rest.ensures) c.requires.forms;
}

pub put-requires-clause-size : goal.put-requires-clause-size
put-requires-clause-size c = ap length c.loop-latest.invariant.seen ∙ length-seen 0 c.args.catalogue.now c.loop-latest.invariant.later

pub put-requires-clause-form : goal.put-requires-clause-form
put-requires-clause-form c =
    (HaveForms-last (kept_kinds c.args.catalogue.now) c.pop.new.self.items c.in-Some.latest (subst (HaveForms (kept_kinds c.args.catalogue.now)) c.in-Some.ensures.items c.loop-latest.invariant.forms)).1

pub loop-latest-preserved : goal.loop-latest-preserved
loop-latest-preserved c =
    let latest : Fresh = c.in-Some.latest in
    let i = c.loop-latest.invariant in
    let forms = HaveForms-last (kept_kinds c.args.catalogue.now) c.pop.new.self.items latest (subst (HaveForms (kept_kinds c.args.catalogue.now)) c.in-Some.ensures.items i.forms) in
    let def = kept-definition c.args.catalogue.now latest.object (λ kind. IsBodyOf kind latest.body) forms.1 in
    let one : ObjectView = seen def.0.kind latest in
    let after : c.put.new.objects ≡ slice_set c.loop-latest.objects latest.object (Some one) =
    subst (λ (found : Option Def). IfSome found (λ d. c.put.new.objects ≡ slice_set c.loop-latest.objects latest.object (Some (seen d.kind latest)))) def.1 c.put.ensures.objects in
    let is_of : IsOf def.0.kind latest.body = record { form = def.3; valid = c.put.ensures.valid } in
    record {
      later = latest ∷ i.later;
      all = i.all ∙ ap (λ (those : List Fresh). those ++ i.later) c.in-Some.ensures.items ∙ append_assoc c.pop.new.self.items (latest ∷ []) i.later;
      seen = after ∙ ap (λ (objects : List (Option ObjectView)). slice_set objects latest.object (Some one)) i.seen ∙ seen-more 0 c.args.catalogue.now latest i.later latest.object def.0 (omega arith) def.1;
      places = subst AreSeen (sym after) (AreSeen-set c.loop-latest.objects latest.object one i.places (record { base = is_of; staged = is_of; private = is_of }));
      forms = forms.0;
    }
