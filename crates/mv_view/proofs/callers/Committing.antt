-- Commits, releases, attaching and what others do keep that a view fits.
use Rattle.std.specs.Prelude.{ℕ, zero, suc, ◌≡◌, ◌≢◌, ◌↔◌, ◌==◌, ◌+◌, ◌<◌, ◌&&◌, ◌||◌, Bool, true, false, not, cond, min, List, [], ◌∷◌, map, filter, Option, Some, None, IfSome, MatchOption, is_some, slice_get}
use Rattle.std.specs.Option.{option_map, option_and_then}
use Rattle.std.proofs.Common.{◌∙◌, ap, sym, refl, subst, arith, eqb-true, eq-eqb, true≢false}
use Rattle.aw_schema.specs.declared.definition.Def.{Def}
use Rattle.aw_schema.specs.declared.definition.DefKind.{DefKind}
use Rattle.aw_schema.specs.declared.definition.DefKind.TheVariants.{Dimension}
use Rattle.aw_schema.specs.Definitions.{is_kept}
use Rattle.aw_body.specs.declared.body.Body.{Body}
use Rattle.aw_body.specs.declared.change.Change.{Change}
use Rattle.aw_body.specs.declared.change.Fresh.{Fresh}
use Rattle.aw_body.specs.declared.patch.BodyPatch.{BodyPatch}
use Rattle.aw_body.specs.BodyPatches.{applied, difference}
use Rattle.aw_body.specs.Laws.{DifferenceGivesNewer, MakesNewer}
use Rattle.aw_body.specs.Generations.{Bodies, change_of, generations, IsGeneration, latest_number, latest_body}
use Rattle.aw_body.specs.GenerationLaws.{IsGeneration-latest, IsGeneration-append, latest_number-changed, latest_body-changed, latest_number-unchanged}
use Rattle.aw_body.specs.KeptBodies.{bodies_from}
use Rattle.aw_body.specs.Owners.{Owners, owner_of, is_own, given_up}
use Rattle.aw_body.specs.OwnerLaws.{owner_of-given_up}
use Rattle.mv_view.specs.Each.{object_in, names, passes, listed}
use Rattle.mv_view.specs.ViewState.{ObjectView, ViewState, object_of, kind_of, kept_kind, kept_kinds, kept_objects, IsOf, IsSeen, AreSeen, AreOwned}
use Rattle.mv_view.specs.Rules as rule
use Rattle.mv_view.specs.Fit.{ObjectFits, Fits}
use Rattle.mv_view.specs.Laws.{AreLatest, CanRise, grown, leaving_objects, unstaged_in}
use Rattle.mv_view.proofs.callers.Each.{find-gathered, names-numbers}
use Rattle.mv_view.proofs.callers.Forms.{alike, difference-same}
use Rattle.mv_view.proofs.callers.Fitting.{Fits-each, kind-cond, some-and, owned-named, named-latest, latest-found, latest-generation}

-- ---- a history that grows by a commit

module _ (bodies : Bodies Body Change) where
  pub record Grows (history after : List (List Change)) (given : ℕ → Option Change) : Type 0 where
    pub stays : (object number : ℕ) (body : Body) → IsGeneration bodies history object number body → IsGeneration bodies after object number body
    pub number : (object : ℕ) (change : Change) → given object ≡ Some change → latest_number bodies after object ≡ latest_number bodies history object + 1
    pub body : (object : ℕ) (change : Change) → given object ≡ Some change → latest_body bodies after object ≡ bodies.applied (latest_body bodies history object) change
    pub unchanged : (object : ℕ) → given object ≡ None → latest_number bodies after object ≡ latest_number bodies history object

  pub grows : (history : List (List Change)) (commit : List Change) → Grows history (grown history commit) (λ object. change_of bodies object commit)
  grows history [] = record { stays = λ object number body is. is; number = λ object change is. cc; body = λ object change is. cc; unchanged = λ object is. refl }
  grows history (c ∷ cs) = record {
    stays = λ object number body is. IsGeneration-append bodies history ((c ∷ cs) ∷ []) object number body is;
    number = λ object change is. latest_number-changed bodies history (c ∷ cs) object change is;
    body = λ object change is. latest_body-changed bodies history (c ∷ cs) object change is;
    unchanged = λ object is. latest_number-unchanged bodies history (c ∷ cs) object is;
  }

  -- the generation that has the latest number is the latest
  pub latest-is : (history : List (List Change)) (object number : ℕ) (body : Body) → IsGeneration bodies history object number body → number ≡ latest_number bodies history object → body ≡ latest_body bodies history object
  latest-is history object number body is same =
      let latest = IsGeneration-latest bodies history object in
      let number_is = is.1 in
      let latest_number_is = latest.1 in
      let place : is.0 ≡ latest.0 = omega arith in
      some-body body (latest_body bodies history object) (sym is.2 ∙ ap (slice_get (generations bodies history object)) place ∙ latest.2)
    where
      some-body : (one other : Body) → Some one ≡ Some other → one ≡ other
      some-body one other e = cc

  -- ---- what others do

  others-one : (history after : List (List Change)) (owners others : Owners) (who object : ℕ) (found : ObjectView) (given : ℕ → Option Change) → Grows history after given
      → (owner_of owners object ≡ Some who → given object ≡ None)
      → ((owner_of others object ≡ Some who) ↔ (owner_of owners object ≡ Some who))
      → ObjectFits bodies history owners who object found → ObjectFits bodies after others who object found
  others-one history after owners others who object found given grow mine same fit = record {
    base = grow.stays object found.number found.base fit.base;
    owned = (λ own. same.1 (fit.owned.0 own), λ by. fit.owned.1 (same.0 by));
    latest = λ own. fit.latest own ∙ sym (grow.unchanged object (mine (fit.owned.0 own)));
    unstaged = fit.unstaged;
    staying = fit.staying;
    dimension = fit.dimension;
  }

  pub others-fit : (definitions : List Def) (history : List (List Change)) (owners others : Owners) (commit : List Change) (view : ViewState)
      → ((object : ℕ) → owner_of owners object ≡ Some view.who → change_of bodies object commit ≡ None)
      → ((object : ℕ) → (owner_of others object ≡ Some view.who) ↔ (owner_of owners object ≡ Some view.who))
      → Fits definitions bodies history owners view → Fits definitions bodies (grown history commit) others view
  others-fit definitions history owners others commit view mine same fits =
      record { kinds = fits.kinds; each = λ object. some object (object_of view object) (fits.each object) }
    where
      some : (object : ℕ) (found : Option ObjectView) → IfSome found (ObjectFits bodies history owners view.who object) → IfSome found (ObjectFits bodies (grown history commit) others view.who object)
      some object None fit = tt
      some object (Some one) fit = others-one history (grown history commit) owners others view.who object one (λ at. change_of bodies at commit) (grows history commit) (mine object) (same object) fit

  -- ---- attaching

  attached-one : (history : List (List Change)) (owners : Owners) (who object : ℕ) (kind : DefKind) (fresh : Fresh) → (fresh.number ≡ latest_number bodies history object) × (fresh.body ≡ latest_body bodies history object) → owner_of owners object ≢ Some who → ObjectFits bodies history owners who object (rule.seen kind fresh)
  attached-one history owners who object kind fresh latest nobody = record {
    base = latest-generation bodies history object fresh latest;
    owned = (λ own. cc, λ mine. absurd (nobody mine));
    latest = λ own. latest.0;
    unstaged = λ other. refl;
    staying = λ other. refl;
    dimension = λ is. refl;
  }

object_in-seen : (at : ℕ) (definitions : List Def) (fresh : List Fresh) (k object : ℕ) → at + k ≡ object → object_in (rule.seen_from at definitions fresh) k ≡ option_and_then (λ (def : Def). option_map (rule.seen def.kind) (rule.latest_of fresh object)) (slice_get definitions k)
object_in-seen at [] fresh k object is = refl
object_in-seen at (def ∷ definitions) fresh zero object is = ap (λ n. option_map (rule.seen def.kind) (rule.latest_of fresh n)) (let e : at ≡ object = omega arith in e)
object_in-seen at (def ∷ definitions) fresh (suc k) object is = object_in-seen (at + 1) definitions fresh k object (omega arith)

kind-seen : (def : Def) (latest : Option Fresh) (b : Bool) → is_kept def.kind ≡ b → is_some latest ≡ is_some (kept_kind def) → option_map kind_of (option_map (rule.seen def.kind) latest) ≡ kept_kind def
kind-seen def None true is same = absurd (true≢false (sym (same ∙ ap (λ b. is_some (cond b (Some def.kind) None)) is)))
kind-seen def None false is same = sym (ap (λ b. cond b (Some def.kind) None) is)
kind-seen def (Some one) true is same = sym (ap (λ b. cond b (Some def.kind) None) is)
kind-seen def (Some one) false is same = absurd (true≢false (same ∙ ap (λ b. is_some (cond b (Some def.kind) None)) is))

pub kinds-seen : (at : ℕ) (definitions : List Def) (fresh : List Fresh) → ((k object : ℕ) → at + k ≡ object → is_some (rule.latest_of fresh object) ≡ is_some (object_in (kept_kinds definitions) k)) → map (option_map kind_of) (rule.seen_from at definitions fresh) ≡ kept_kinds definitions
kinds-seen at [] fresh same = refl
kinds-seen at (def ∷ definitions) fresh same =
    ap (λ (k : Option DefKind). k ∷ map (option_map kind_of) (rule.seen_from (at + 1) definitions fresh)) (kind-seen def (rule.latest_of fresh at) (is_kept def.kind) refl (same 0 at (omega arith)))
    ∙ ap (λ (rest : List (Option DefKind)). kept_kind def ∷ rest) (kinds-seen (at + 1) definitions fresh (λ k object is. same (suc k) object (omega arith)))

passes-some : (kind : Option DefKind) → passes (λ one. true) kind ≡ is_some kind
passes-some None = refl
passes-some (Some kind) = refl

-- a generation is handed over of each kept object, and of no other
pub handed-over : (kinds : List (Option DefKind)) (fresh : List Fresh) (object : ℕ) → rule.objects_of fresh ≡ kept_objects kinds → is_some (rule.latest_of fresh object) ≡ is_some (object_in kinds object)
handed-over kinds fresh object are =
    sym (named-latest fresh object) ∙ ap (λ those. names those object) are ∙ names-numbers (λ one. true) 0 kinds object object (omega arith) ∙ passes-some (object_in kinds object)

pub attaching : (bodies : Bodies Body Change) (definitions : List Def) (history : List (List Change)) (owners : Owners) (who : ℕ) (fresh : List Fresh) → rule.objects_of fresh ≡ kept_objects (kept_kinds definitions) → AreLatest bodies history fresh → ((object : ℕ) → owner_of owners object ≢ Some who) → Fits definitions bodies history owners (rule.attached who definitions fresh)
attaching bodies definitions history owners who fresh objects are nobody = record {
  kinds = kinds-seen 0 definitions fresh (λ k object is. handed-over (kept_kinds definitions) fresh object objects ∙ ap (λ n. is_some (object_in (kept_kinds definitions) n)) (let e : object ≡ k = omega arith in e));
  each = λ object. subst (λ (found : Option ObjectView). IfSome found (ObjectFits bodies history owners who object)) (sym (object_in-seen 0 definitions fresh object object (omega arith))) (some object (slice_get definitions object));
}
  where
    latest : (object : ℕ) (kind : DefKind) (one : Option Fresh) → rule.latest_of fresh object ≡ one → IfSome (option_map (rule.seen kind) one) (ObjectFits bodies history owners who object)
    latest object kind None is = tt
    latest object kind (Some one) is = attached-one bodies history owners who object kind one (latest-found bodies history fresh object one are is) (nobody object)

    some : (object : ℕ) (def : Option Def) → IfSome (option_and_then (λ (def : Def). option_map (rule.seen def.kind) (rule.latest_of fresh object)) def) (ObjectFits bodies history owners who object)
    some object None = tt
    some object (Some def) = latest object def.kind (rule.latest_of fresh object) refl

-- ---- what is given up

and-false : (b : Bool) → (b && false) ≡ false
and-false true = refl
and-false false = refl

-- an object that isn't named keeps its owner
kept-owner : (owners : Owners) (who object : ℕ) (objects : List ℕ) → names objects object ≡ false → owner_of (given_up owners who objects) object ≡ owner_of owners object
kept-owner owners who object objects other =
    owner_of-given_up owners who objects object ∙ ap (λ b. cond (not (is_own owners who object && b)) (owner_of owners object) None) other
    ∙ ap (λ b. cond (not b) (owner_of owners object) None) (and-false (is_own owners who object))

-- an object that is named and the session's own has no owner
no-owner : (owners : Owners) (who object : ℕ) (objects : List ℕ) → names objects object ≡ true → owner_of owners object ≡ Some who → owner_of (given_up owners who objects) object ≡ None
no-owner owners who object objects named mine =
    owner_of-given_up owners who objects object ∙ ap (λ b. cond (not (is_own owners who object && b)) (owner_of owners object) None) named
    ∙ ap (λ b. cond (not (b && true)) (owner_of owners object) None) (ap (λ (by : Option ℕ). elim by [ None ↦ false | Some one ↦ one == who ]) mine ∙ eq-eqb who who refl)

-- who owns it after something is given up owned it
owned-before : (owners : Owners) (who object : ℕ) (objects : List ℕ) → owner_of (given_up owners who objects) object ≡ Some who → owner_of owners object ≡ Some who
owned-before owners who object objects mine = step (not (is_own owners who object && names objects object)) (sym (owner_of-given_up owners who objects object) ∙ mine)
  where
    step : (b : Bool) → cond b (owner_of owners object) None ≡ Some who → owner_of owners object ≡ Some who
    step true is = is
    step false is = cc

none-some : (by : Option ℕ) (who : ℕ) → by ≡ None → by ≢ Some who
none-some by who none some = let e : Some who ≡ None = sym some ∙ none in absurd (true≢false (ap (λ (o : Option ℕ). is_some o) e))

-- ---- RELEASE

names-filter-step : (test : ℕ → Bool) (first object : ℕ) (rest : List ℕ) (passed same : Bool) → test first ≡ passed → (first == object) ≡ same → names (filter test rest) object ≡ (names rest object && test object) → names (cond passed (first ∷ filter test rest) (filter test rest)) object ≡ ((same || names rest object) && test object)
names-filter-step test first object rest true true passed same later =
    ap (λ b. b || names (filter test rest) object) same ∙ sym (ap test (sym (eqb-true first object same)) ∙ passed)
names-filter-step test first object rest true false passed same later = ap (λ b. b || names (filter test rest) object) same ∙ later
names-filter-step test first object rest false true passed same later =
    let failed : test object ≡ false = ap test (sym (eqb-true first object same)) ∙ passed in
    later ∙ ap (λ b. names rest object && b) failed ∙ and-false (names rest object) ∙ sym failed
names-filter-step test first object rest false false passed same later = later

names-filter : (test : ℕ → Bool) (objects : List ℕ) (object : ℕ) → names (filter test objects) object ≡ (names objects object && test object)
names-filter test [] object = refl
names-filter test (first ∷ rest) object = names-filter-step test first object rest (test first) (first == object) refl refl (names-filter test rest object)

-- one object, by whether it is listed and staged
released-one : DifferenceGivesNewer → (bodies : Bodies Body Change) (history : List (List Change)) (owners : Owners) (who object : ℕ) (given : List ℕ) (found : ObjectView) (named staged : Bool) → rule.is_staged found ≡ staged → names given object ≡ (named && not staged) → (named ≡ true → found.owned ≡ true) → IsSeen found → ObjectFits bodies history owners who object found → ObjectFits bodies history (given_up owners who given) who object (cond named (rule.releasing found) found)
released-one law bodies history owners who object given found false staged is gave own seen fit = record {
  base = fit.base;
  owned = subst (λ (by : Option ℕ). (found.owned ≡ true) ↔ (by ≡ Some who)) (sym (kept-owner owners who object given gave)) fit.owned;
  latest = fit.latest;
  unstaged = fit.unstaged;
  staying = fit.staying;
  dimension = fit.dimension;
}
released-one law bodies history owners who object given found true true is gave own seen fit =
    subst (ObjectFits bodies history (given_up owners who given) who object) (sym (ap (λ b. cond b (record found { leaving = true }) (rule.giving_up found)) is)) (record {
      base = fit.base;
      owned = subst (λ (by : Option ℕ). (found.owned ≡ true) ↔ (by ≡ Some who)) (sym (kept-owner owners who object given gave)) fit.owned;
      latest = fit.latest;
      unstaged = fit.unstaged;
      staying = λ other. absurd (true≢false (sym (own refl) ∙ other));
      dimension = fit.dimension;
    })
released-one law bodies history owners who object given found true false is gave own seen fit =
    subst (ObjectFits bodies history (given_up owners who given) who object) (sym (ap (λ b. cond b (record found { leaving = true }) (rule.giving_up found)) is)) (record {
      base = fit.base;
      owned = (λ mine. cc, λ mine. absurd (none-some (owner_of (given_up owners who given) object) who (no-owner owners who object given gave (fit.owned.0 (own refl))) mine));
      latest = λ mine. fit.latest (own refl);
      unstaged = λ other. sym (difference-same law found.kind found.base found.staged seen.base seen.staged is);
      staying = λ other. refl;
      dimension = fit.dimension;
    })

kind-releasing : (found : ObjectView) → (rule.releasing found).kind ≡ found.kind
kind-releasing found = kind-cond (rule.is_staged found) (record found { leaving = true }) (rule.giving_up found) refl

pub some-seen : (P : ObjectView → Type 0) (found : Option ObjectView) (one : ObjectView) → found ≡ Some one → IfSome found P → P one
some-seen P found one is holds = subst (λ (f : Option ObjectView). IfSome f P) is holds

pub releasing : DifferenceGivesNewer → (bodies : Bodies Body Change) (definitions : List Def) (history : List (List Change)) (owners : Owners) (view : ViewState) (objects : List ℕ) → AreSeen view.objects → AreOwned view objects → Fits definitions bodies history owners view → Fits definitions bodies history (given_up owners view.who (unstaged_in view objects)) (rule.released view objects)
releasing law bodies definitions history owners view objects seen own fits =
    Fits-each bodies history history owners (given_up owners view.who (unstaged_in view objects)) definitions view (listed objects rule.releasing)
    (λ at found. kind-cond (names objects at) (rule.releasing found) found (kind-releasing found))
    (λ at found is fit. released-one law bodies history owners view.who at (unstaged_in view objects) found (names objects at) (rule.is_staged found) refl
    (names-filter (λ object. not (passes rule.is_staged (object_of view object))) objects at ∙ ap (λ (f : Option ObjectView). names objects at && not (passes rule.is_staged f)) is)
    (λ named. some-and (λ one. one.owned ≡ true) (object_of view at) found is (owned-named view objects at own named))
    (some-seen IsSeen (object_of view at) found is (seen.each at)) fit) fits

-- ---- COMMIT

module _ (definitions : List Def) (numbers : ℕ → ℕ) (firsts : ℕ → Body) where
  abbrev these : Bodies Body Change
  these = bodies_from definitions numbers firsts

  abbrev change_at : ℕ → BodyPatch → Change
  change_at at patch = record { object = at; patch = patch }

  makes-newer : (found : Option BodyPatch) (older newer : Body) (patch : BodyPatch) → MatchOption found (older ≡ newer) (MakesNewer older newer) → found ≡ Some patch → applied older patch ≡ newer
  makes-newer None older newer patch same is = cc
  makes-newer (Some one) older newer patch makes is = subst (λ (p : BodyPatch). applied older p ≡ newer) (let e : one ≡ patch = cc in e) makes.makes

  abbrev view_of : DefKind → ℕ → Body → Body → Body → Bool → Bool → ObjectView
  view_of kind number base staged private owned leaving = record { kind = kind; number = number; base = base; staged = staged; private = private; owned = owned; leaving = leaving }

  -- what fits after the base was renewed, before the object is given up
  leaving-fits : (after : List (List Change)) (owners : Owners) (who object : ℕ) (given : List ℕ) (kind : DefKind) (number : ℕ) (base staged private : Body) (leaving : Bool) → names given object ≡ leaving → owner_of owners object ≡ Some who → IsGeneration these after object number base → number ≡ latest_number these after object → staged ≡ base → (kind ≡ Dimension → private ≡ staged)
      → ObjectFits these after (given_up owners who given) who object (rule.leaving_now (view_of kind number base staged private true leaving))
  leaving-fits after owners who object given kind number base staged private true gave mine is latest same dimension = record {
    base = is;
    owned = (λ own. cc, λ own. absurd (none-some (owner_of (given_up owners who given) object) who (no-owner owners who object given gave mine) own));
    latest = λ own. latest;
    unstaged = λ other. same;
    staying = λ other. refl;
    dimension = dimension;
  }
  leaving-fits after owners who object given kind number base staged private false gave mine is latest same dimension = record {
    base = is;
    owned = (λ own. kept-owner owners who object given gave ∙ mine, λ own. refl);
    latest = λ own. latest;
    unstaged = λ other. same;
    staying = λ other. refl;
    dimension = dimension;
  }

  -- one object, by whether it is owned and what is staged of it
  committed-one : DifferenceGivesNewer → (history after : List (List Change)) (owners : Owners) (who object : ℕ) (given : List ℕ) (gives : ℕ → Option Change) → Grows these history after gives
      → (kind : DefKind) (number : ℕ) (base staged private : Body) (owned leaving : Bool) (patch : Option BodyPatch) → difference base staged ≡ patch
      → gives object ≡ cond owned (option_map (change_at object) patch) None → names given object ≡ leaving → (owned ≡ true → is_some patch ≡ true → number < 18446744073709551615)
      → IsOf kind base → IsOf kind staged
      → ObjectFits these history owners who object (view_of kind number base staged private owned leaving)
      → ObjectFits these after (given_up owners who given) who object (rule.after_commit (view_of kind number base staged private owned leaving))
  committed-one law history after owners who object given gives grow kind number base staged private false leaving patch is gave left rise base_is staged_is fit = record {
    base = grow.stays object number base fit.base;
    owned = (λ own. cc, λ mine. fit.owned.1 (owned-before owners who object given mine));
    latest = λ own. cc;
    unstaged = fit.unstaged;
    staying = fit.staying;
    dimension = fit.dimension;
  }
  committed-one law history after owners who object given gives grow kind number base staged private true leaving None is gave left rise base_is staged_is fit =
      let found = view_of kind number base staged private true leaving in
      let next = view_of kind (min (number + 1) 18446744073709551615) staged staged private true leaving in
      subst (ObjectFits these after (given_up owners who given) who object) (sym (ap (λ (p : Option BodyPatch). rule.leaving_now (cond (is_some p) next found)) is))
      (leaving-fits after owners who object given kind number base staged private leaving left (fit.owned.0 refl) (grow.stays object number base fit.base)
      (fit.latest refl ∙ sym (grow.unchanged object gave)) (sym (difference-same law kind base staged base_is staged_is (ap (λ (p : Option BodyPatch). is_some p) is))) fit.dimension)
  committed-one law history after owners who object given gives grow kind number base staged private true leaving (Some patch) is gave left rise base_is staged_is fit =
      let found = view_of kind number base staged private true leaving in
      let next = view_of kind (min (number + 1) 18446744073709551615) staged staged private true leaving in
      let latest = fit.latest refl in
      let grew = grow.number object (change_at object patch) gave in
      let below : number < 18446744073709551615 = rise refl refl in
      let number_is : min (number + 1) 18446744073709551615 ≡ latest_number these after object = omega arith in
      let was : base ≡ latest_body these history object = latest-is these history object number base fit.base latest in
      let body_is : staged ≡ latest_body these after object =
      sym (makes-newer (difference base staged) base staged patch (law base staged base_is.valid staged_is.valid (alike kind base staged base_is.form staged_is.form)) is)
      ∙ ap (λ (b : Body). applied b patch) was ∙ sym (grow.body object (change_at object patch) gave) in
      subst (ObjectFits these after (given_up owners who given) who object) (sym (ap (λ (p : Option BodyPatch). rule.leaving_now (cond (is_some p) next found)) is))
      (leaving-fits after owners who object given kind (min (number + 1) 18446744073709551615) staged staged private leaving left (fit.owned.0 refl)
      (latest-generation these after object (record { object = object; number = min (number + 1) 18446744073709551615; body = staged }) (number_is, body_is))
      number_is refl fit.dimension)

  keyed-step : (at : ℕ) (b : Bool) (patch : Option BodyPatch) (change : Change) → cond b (option_map (change_at at) patch) None ≡ Some change → change.object ≡ at
  keyed-step at true None change is = cc
  keyed-step at true (Some patch) change is = let e : change_at at patch ≡ change = cc in sym (ap (λ (c : Change). c.object) e)
  keyed-step at false patch change is = cc

  -- the change that a commit of the view has for an object
  pub change-found : (view : ViewState) (object : ℕ) → change_of these object (rule.changes view) ≡ option_and_then (rule.change_of object) (object_of view object)
  change-found view object =
      find-gathered rule.change_of (λ (c : Change). c.object) (λ at found change is. keyed-step at found.owned (rule.staged_patch found) change is) 0 view.objects object object (omega arith)

  kind-committing : (found : ObjectView) → (rule.committing found).kind ≡ found.kind
  kind-committing found = kind-cond (rule.is_staged found) (record found { number = min (found.number + 1) 18446744073709551615; base = found.staged }) found refl

  kind-after : (found : ObjectView) → (rule.after_commit found).kind ≡ found.kind
  kind-after found =
      kind-cond found.owned (rule.leaving_now (rule.committing found)) found (kind-cond (rule.committing found).leaving (rule.giving_up (rule.committing found)) (rule.committing found) refl ∙ kind-committing found)

  pub committing : DifferenceGivesNewer → (history : List (List Change)) (owners : Owners) (view : ViewState) → AreSeen view.objects → CanRise view → Fits definitions these history owners view → Fits definitions these (grown history (rule.changes view)) (given_up owners view.who (leaving_objects view)) (rule.committed view)
  committing law history owners view seen rise fits =
      Fits-each these history (grown history (rule.changes view)) owners (given_up owners view.who (leaving_objects view)) definitions view (λ at found. rule.after_commit found)
      (λ at found. kind-after found)
      (λ at found is fit.
      let whole = some-seen IsSeen (object_of view at) found is (seen.each at) in
      committed-one law history (grown history (rule.changes view)) owners view.who at (leaving_objects view) (λ object. change_of these object (rule.changes view)) (grows these history (rule.changes view))
      found.kind found.number found.base found.staged found.private found.owned found.leaving (rule.staged_patch found) refl
      (change-found view at ∙ ap (option_and_then (rule.change_of at)) is)
      (names-numbers (λ (one : ObjectView). one.leaving) 0 view.objects at at (omega arith) ∙ ap (passes (λ (one : ObjectView). one.leaving)) is)
      (some-seen (λ one. one.owned ≡ true → rule.is_staged one ≡ true → one.number < 18446744073709551615) (object_of view at) found is (rise at))
      whole.base whole.staged fit) fits
