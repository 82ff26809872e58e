use Rattle.std.specs.Prelude.{◌≡◌, ◌==◌, map, [], List, Option}
use Rattle.std.specs.Option.{option_map}
use Rattle.std.proofs.Common.{◌∙◌, ap, sym, subst, refl, rules}
use Rattle.aw_schema.specs.declared.definition.DefKind.{DefKind}
use Rattle.aw_body.specs.declared.change.Fresh.{Fresh}
use Rattle.mv_view.specs.Each.{each_from, only}
use Rattle.mv_view.specs.ViewState.{ObjectView, AreSeen, HaveForms, kind_of}
use Rattle.mv_view.specs.Rules.{renewed, latest_of, with_latest}
use Rattle.mv_view.proofs.callers.Fitting.{kinds-each, kind-cond}
use Rattle.mv_view.proofs.ChangedPlaces.{seen-renewed}
use Rattle.mv_view.proofs.Renewing.{renew-more, renew-none, HaveForms-last}
use Rattle.mv_view.proofs.places.renew_all.Goals as goal

pub loop-latest-preserved : goal.loop-latest-preserved
loop-latest-preserved c =
    let latest : Fresh = c.in-Some.latest in
    let i = c.loop-latest.invariant in
    let kinds_before = map (option_map kind_of) c.loop-latest.objects in
    let forms = HaveForms-last kinds_before c.pop.new.self.items latest (subst (HaveForms kinds_before) c.in-Some.ensures.items i.forms) in
    let kinds : map (option_map kind_of) c.renew_at.new.objects ≡ kinds_before =
    ap (λ (objects : List (Option ObjectView)). map (option_map kind_of) objects) c.renew_at.ensures.objects
    ∙ kinds-each 0 (only latest.object (with_latest latest)) c.loop-latest.objects (λ k found. kind-cond (latest.object == k) (with_latest latest found) found refl) in
    record {
      seen = subst AreSeen (sym c.renew_at.ensures.objects) (seen-renewed c.loop-latest.objects latest i.seen forms.1 c.renew_at.ensures.valid);
      forms = subst (λ (those : List (Option DefKind)). HaveForms those c.pop.new.self.items) (sym kinds) forms.0;
      done = ap (λ (objects : List (Option ObjectView)). each_from 0 (λ at found. renewed (latest_of c.pop.new.self.items at) found) objects) c.renew_at.ensures.objects
          ∙ renew-more c.pop.new.self.items c.loop-latest.rest.items latest c.loop-latest.objects c.in-Some.ensures.items ∙ i.done;
    }

pub returns-clause-objects : goal.returns-clause-objects
returns-clause-objects c =
    let empty : c.loop-latest.rest.items ≡ [] = search rules in
    sym (renew-none c.loop-latest.objects c.loop-latest.rest.items empty) ∙ c.loop-latest.invariant.done
    ∙ ap (λ (those : List Fresh). each_from 0 (λ at found. renewed (latest_of those at) found) c.args.objects.now) c.into_vec-rest.ensures
