-- Each call keeps that a view fits.
use Rattle.std.specs.Prelude.{ℕ, ◌≡◌, ◌↔◌, ◌==◌, ◌+◌, ◌≤◌, ◌||◌, ◌++◌, Bool, true, false, cond, List, [], ◌∷◌, map, length, Option, Some, None, IfSome, is_some}
use Rattle.std.specs.Option.{option_map, IsSomeAnd}
use Rattle.std.proofs.Common.{◌∙◌, ap, sym, refl, subst, arith, eqb-true, true≢false}
use Rattle.std.proofs.lemmas.Option.{slice_get_within}
use Rattle.aw_schema.specs.declared.definition.Def.{Def}
use Rattle.aw_schema.specs.declared.definition.DefKind.{DefKind}
use Rattle.aw_body.specs.declared.body.Body.{Body}
use Rattle.aw_body.specs.declared.body.Body.TheVariants.{Set}
use Rattle.aw_body.specs.declared.change.Change.{Change}
use Rattle.aw_body.specs.declared.change.Fresh.{Fresh}
use Rattle.aw_body.specs.Bodies.{IsBodyOf}
use Rattle.aw_body.specs.Generations.{Bodies, changes_of, generations_from, IsGeneration, latest_number, latest_body}
use Rattle.aw_body.specs.GenerationLaws.{IsGeneration-latest}
use Rattle.aw_body.specs.Owners.{Owners, owner_of, taken}
use Rattle.aw_body.specs.OwnerLaws.{owner_of-taken}
use Rattle.mv_view.specs.Each.{object_in, each_from, only, listed, names}
use Rattle.mv_view.specs.ViewState.{ObjectView, ViewState, object_of, each, kind_of, AreOwned, AreCellsOf}
use Rattle.mv_view.specs.Rules as rule
use Rattle.mv_view.specs.Fit.{ObjectFits, Fits}
use Rattle.mv_view.specs.Laws.{OwnCallsFit, AreLatest, MayBeKept}
use Rattle.mv_view.proofs.callers.Each.{object_in-each}

-- ---- small steps

pub some-and : (P : ObjectView → Type 0) (found : Option ObjectView) (one : ObjectView) → found ≡ Some one → IsSomeAnd found P → P one
some-and P found one is holds = subst (λ (f : Option ObjectView). IsSomeAnd f P) is holds

if-changed : (P : ObjectView → Type 0) (b : Bool) (one other : ObjectView) → (b ≡ true → P one) → P other → P (cond b one other)
if-changed P true one other changed same = changed refl
if-changed P false one other changed same = same

pub kind-cond : (b : Bool) (one other : ObjectView) → one.kind ≡ other.kind → (cond b one other).kind ≡ other.kind
kind-cond true one other same = same
kind-cond false one other same = refl

-- ---- all objects

pub kinds-each : (at : ℕ) (change : ℕ → ObjectView → ObjectView) (objects : List (Option ObjectView)) → ((k : ℕ) (found : ObjectView) → (change k found).kind ≡ found.kind) → map (option_map kind_of) (each_from at change objects) ≡ map (option_map kind_of) objects
kinds-each at change [] same = refl
kinds-each at change (None ∷ objects) same = ap (λ (rest : List (Option DefKind)). None ∷ rest) (kinds-each (at + 1) change objects same)
kinds-each at change (Some found ∷ objects) same =
    let here : (change at found).kind ≡ found.kind = same at found in
    let rest : map (option_map kind_of) (each_from (at + 1) change objects) ≡ map (option_map kind_of) objects = kinds-each (at + 1) change objects same in
    ap (λ (k : DefKind). Some k ∷ map (option_map kind_of) (each_from (at + 1) change objects)) here ∙ ap (λ (those : List (Option DefKind)). Some found.kind ∷ those) rest

module _ (bodies : Bodies Body Change) (history after : List (List Change)) (owners others : Owners) where
  fits-each : (who : ℕ) (change : ℕ → ObjectView → ObjectView) (objects : List (Option ObjectView))
      → ((object : ℕ) (found : ObjectView) → object_in objects object ≡ Some found → ObjectFits bodies history owners who object found → ObjectFits bodies after others who object (change object found))
      → ((object : ℕ) → IfSome (object_in objects object) (ObjectFits bodies history owners who object))
      → (object : ℕ) → IfSome (object_in (each_from 0 change objects) object) (ObjectFits bodies after others who object)
  fits-each who change objects keeps fits object =
      subst (λ (found : Option ObjectView). IfSome found (ObjectFits bodies after others who object)) (sym (object_in-each 0 change objects object object (omega arith))) (some (object_in objects object) refl (fits object))
    where
      some : (found : Option ObjectView) → object_in objects object ≡ found → IfSome found (ObjectFits bodies history owners who object) → IfSome (option_map (change object) found) (ObjectFits bodies after others who object)
      some None is fits = tt
      some (Some one) is fits = keeps object one is fits

  -- a view fits after a change that keeps the definition of each object and that it fits
  pub Fits-each : (definitions : List Def) (view : ViewState) (change : ℕ → ObjectView → ObjectView)
      → ((object : ℕ) (found : ObjectView) → (change object found).kind ≡ found.kind)
      → ((object : ℕ) (found : ObjectView) → object_of view object ≡ Some found → ObjectFits bodies history owners view.who object found → ObjectFits bodies after others view.who object (change object found))
      → Fits definitions bodies history owners view → Fits definitions bodies after others (each change view)
  Fits-each definitions view change same keeps fits =
      record { kinds = kinds-each 0 change view.objects same ∙ fits.kinds; each = fits-each view.who change view.objects keeps fits.each }

-- ---- what a session does by itself

at-object : (P : ObjectView → Type 0) (view : ViewState) (object at : ℕ) (found : ObjectView) → (object == at) ≡ true → object_of view at ≡ Some found → IsSomeAnd (object_of view object) P → P found
at-object P view object at found same is holds =
    some-and P (object_of view at) found is (subst (λ n. IsSomeAnd (object_of view n) P) (eqb-true object at same) holds)

-- an object that a list names is owned
owned-step : (view : ViewState) (object at : ℕ) (rest : List ℕ) (b : Bool) → (object == at) ≡ b → IsSomeAnd (object_of view object) (λ found. found.owned ≡ true) → (names rest at ≡ true → IsSomeAnd (object_of view at) (λ found. found.owned ≡ true)) → (b || names rest at) ≡ true → IsSomeAnd (object_of view at) (λ found. found.owned ≡ true)
owned-step view object at rest true same here later named = subst (λ n. IsSomeAnd (object_of view n) (λ found. found.owned ≡ true)) (eqb-true object at same) here
owned-step view object at rest false same here later named = later named

pub owned-named : (view : ViewState) (objects : List ℕ) (at : ℕ) → AreOwned view objects → names objects at ≡ true → IsSomeAnd (object_of view at) (λ found. found.owned ≡ true)
owned-named view [] at owned named = cc
owned-named view (object ∷ rest) at owned named = owned-step view object at rest (object == at) refl owned.0 (owned-named view rest at owned.1) named

pub own-calls : (definitions : List Def) (bodies : Bodies Body Change) (history : List (List Change)) (owners : Owners) (view : ViewState) → Fits definitions bodies history owners view → OwnCallsFit definitions bodies history owners view
own-calls definitions bodies history owners view fits = record {
  written = λ object cells are. Fits-each bodies history history owners owners definitions view (only object (rule.with_cells cells))
      (λ at found. kind-cond (object == at) (rule.with_cells cells found) found refl)
      (λ at found is fit. if-changed (ObjectFits bodies history owners view.who at) (object == at) (rule.with_cells cells found) found (λ same. record {
        base = fit.base;
        owned = fit.owned;
        latest = fit.latest;
        unstaged = fit.unstaged;
        staying = fit.staying;
        dimension = λ kind. absurd (subst (λ (k : DefKind). AreCellsOf k cells) kind (at-object (λ one. AreCellsOf one.kind cells) view object at found same is are));
      }) fit) fits;
  selected = λ object slots are. Fits-each bodies history history owners owners definitions view (only object (rule.with_slots slots))
      (λ at found. kind-cond (object == at) (rule.with_slots slots found) found refl)
      (λ at found is fit. if-changed (ObjectFits bodies history owners view.who at) (object == at) (rule.with_slots slots found) found (λ same. record {
        base = fit.base;
        owned = fit.owned;
        latest = fit.latest;
        unstaged = fit.unstaged;
        staying = fit.staying;
        dimension = λ kind. absurd (subst (λ (k : DefKind). IsBodyOf k (Set slots)) kind (at-object (λ one. IsBodyOf one.kind (Set slots)) view object at found same is are));
      }) fit) fits;
  maintained = λ object values own. Fits-each bodies history history owners owners definitions view (only object (rule.with_values values))
      (λ at found. kind-cond (object == at) (rule.with_values values found) found refl)
      (λ at found is fit. if-changed (ObjectFits bodies history owners view.who at) (object == at) (rule.with_values values found) found (λ same. record {
        base = fit.base;
        owned = fit.owned;
        latest = fit.latest;
        unstaged = λ other. absurd (true≢false (sym (at-object (λ one. one.owned ≡ true) view object at found same is own) ∙ other));
        staying = fit.staying;
        dimension = λ kind. refl;
      }) fit) fits;
  updated = λ objects own. Fits-each bodies history history owners owners definitions view (listed objects rule.staging)
      (λ at found. kind-cond (names objects at) (rule.staging found) found refl)
      (λ at found is fit. if-changed (ObjectFits bodies history owners view.who at) (names objects at) (rule.staging found) found (λ named. record {
        base = fit.base;
        owned = fit.owned;
        latest = fit.latest;
        unstaged = λ other. absurd (true≢false (sym (some-and (λ one. one.owned ≡ true) (object_of view at) found is (owned-named view objects at own named)) ∙ other));
        staying = fit.staying;
        dimension = λ kind. refl;
      }) fit) fits;
  reverted = λ objects. Fits-each bodies history history owners owners definitions view (listed objects rule.reverting)
      (λ at found. kind-cond (names objects at) (rule.reverting found) found refl)
      (λ at found is fit. if-changed (ObjectFits bodies history owners view.who at) (names objects at) (rule.reverting found) found (λ named. record {
        base = fit.base;
        owned = fit.owned;
        latest = fit.latest;
        unstaged = fit.unstaged;
        staying = fit.staying;
        dimension = λ kind. refl;
      }) fit) fits;
}

-- ---- names

named-step : (first : Fresh) (rest : List Fresh) (at : ℕ) (b : Bool) → names (rule.objects_of rest) at ≡ is_some (rule.latest_of rest at) → (b || names (rule.objects_of rest) at) ≡ is_some (cond b (Some first) (rule.latest_of rest at))
named-step first rest at true later = refl
named-step first rest at false later = later

-- an object is named where a generation of it is handed over
pub named-latest : (fresh : List Fresh) (at : ℕ) → names (rule.objects_of fresh) at ≡ is_some (rule.latest_of fresh at)
named-latest [] at = refl
named-latest (first ∷ rest) at = named-step first rest at (first.object == at) (named-latest rest at)

names-append : (one other : List ℕ) (at : ℕ) → names (one ++ other) at ≡ (names one at || names other at)
names-append [] other at = refl
names-append (first ∷ rest) other at = ap (λ b. (first == at) || b) (names-append rest other at) ∙ regroup (first == at) (names rest at) (names other at)
  where
    regroup : (a b c : Bool) → (a || (b || c)) ≡ ((a || b) || c)
    regroup true b c = refl
    regroup false b c = refl

-- ---- latest generations that are handed over

module _ (bodies : Bodies Body Change) (history : List (List Change)) where
  abbrev IsLatestAt : ℕ → Fresh → Type 0
  IsLatestAt at fresh = (fresh.number ≡ latest_number bodies history at) × (fresh.body ≡ latest_body bodies history at)

  latest-step : (first : Fresh) (later : Option Fresh) (at : ℕ) (one : Fresh) (b : Bool) → (first.object == at) ≡ b → IsLatestAt first.object first → (later ≡ Some one → IsLatestAt at one) → cond b (Some first) later ≡ Some one → IsLatestAt at one
  latest-step first later at one true same here rest is =
      subst (λ (f : Fresh). IsLatestAt at f) (let e : first ≡ one = cc in e) (subst (λ n. IsLatestAt n first) (eqb-true first.object at same) here)
  latest-step first later at one false same here rest is = rest is

  pub latest-found : (fresh : List Fresh) (at : ℕ) (one : Fresh) → AreLatest bodies history fresh → rule.latest_of fresh at ≡ Some one → IsLatestAt at one
  latest-found [] at one are is = cc
  latest-found (first ∷ rest) at one are is =
      latest-step first (rule.latest_of rest at) at one (first.object == at) refl (are.0, are.1) (latest-found rest at one are.2) is

  -- a latest generation is one
  pub latest-generation : (at : ℕ) (fresh : Fresh) → IsLatestAt at fresh → IsGeneration bodies history at fresh.number fresh.body
  latest-generation at fresh is =
      subst (λ (n : ℕ). IsGeneration bodies history at n fresh.body) (sym is.0) (subst (λ (b : Body). IsGeneration bodies history at (latest_number bodies history at) b) (sym is.1) (IsGeneration-latest bodies history at))

  length-generations : (body : Body) (changes : List Change) → length (generations_from bodies body changes) ≡ length changes + 1
  length-generations body [] = refl
  length-generations body (c ∷ cs) = let rest = length-generations (bodies.applied body c) cs in omega arith

  -- no generation has a number above the latest
  pub number-most : (at number : ℕ) (body : Body) → IsGeneration bodies history at number body → number ≤ latest_number bodies history at
  number-most at number body is =
      let within = slice_get_within (generations_from bodies (bodies.first at) (changes_of bodies at history)) is.0 body is.2 in
      let count = length-generations (bodies.first at) (changes_of bodies at history) in
      let number_is = is.1 in
      omega arith

  -- ---- RESYNC

  renewed-fits : (owners : Owners) (who at : ℕ) (found : ObjectView) (latest : Option Fresh) → ((one : Fresh) → latest ≡ Some one → IsLatestAt at one) → ObjectFits bodies history owners who at found → ObjectFits bodies history owners who at (rule.renewed latest found)
  renewed-fits owners who at found None are fit = fit
  renewed-fits owners who at found (Some one) are fit = record {
    base = latest-generation at one (are one refl);
    owned = fit.owned;
    latest = λ own. (are one refl).0;
    unstaged = λ other. refl;
    staying = fit.staying;
    dimension = λ kind. refl;
  }

  kind-renewed : (latest : Option Fresh) (found : ObjectView) → (rule.renewed latest found).kind ≡ found.kind
  kind-renewed None found = refl
  kind-renewed (Some one) found = refl

  pub resyncing : (definitions : List Def) (owners : Owners) (view : ViewState) (fresh : List Fresh) → Fits definitions bodies history owners view → AreLatest bodies history fresh → Fits definitions bodies history owners (rule.resynced view fresh)
  resyncing definitions owners view fresh fits are =
      Fits-each bodies history history owners owners definitions view (λ at found. rule.renewed (rule.latest_of fresh at) found)
      (λ at found. kind-renewed (rule.latest_of fresh at) found)
      (λ at found is fit. renewed-fits owners view.who at found (rule.latest_of fresh at) (λ one found_is. latest-found fresh at one are found_is) fit) fits

  -- ---- ACQUIRE

  kept-step : (view : ViewState) (object at : ℕ) (rest : List ℕ) (b : Bool) → (object == at) ≡ b → IsSomeAnd (object_of view object) (λ found. found.owned ≡ false → latest_number bodies history object ≤ found.number) → (names rest at ≡ true → IsSomeAnd (object_of view at) (λ found. found.owned ≡ false → latest_number bodies history at ≤ found.number)) → (b || names rest at) ≡ true → IsSomeAnd (object_of view at) (λ found. found.owned ≡ false → latest_number bodies history at ≤ found.number)
  kept-step view object at rest true same here later named = subst (λ n. IsSomeAnd (object_of view n) (λ found. found.owned ≡ false → latest_number bodies history n ≤ found.number)) (eqb-true object at same) here
  kept-step view object at rest false same here later named = later named

  kept-named : (view : ViewState) (keep : List ℕ) (at : ℕ) → MayBeKept bodies history view keep → names keep at ≡ true → IsSomeAnd (object_of view at) (λ found. found.owned ≡ false → latest_number bodies history at ≤ found.number)
  kept-named view [] at may named = cc
  kept-named view (object ∷ rest) at may named = kept-step view object at rest (object == at) refl may.0 (kept-named view rest at may.1) named

  -- an object of the plain list has the latest number
  kept-number : (owners : Owners) (who at : ℕ) (found : ObjectView) (b : Bool) → found.owned ≡ b → ObjectFits bodies history owners who at found → (found.owned ≡ false → latest_number bodies history at ≤ found.number) → found.number ≡ latest_number bodies history at
  kept-number owners who at found true own fit may = fit.latest own
  kept-number owners who at found false other fit may =
      let most = number-most at found.number found.base fit.base in
      let least = may other in
      omega arith

  -- one object, by whether the plain list names it, and the generation that is handed over of it
  acquired-fits : (owners others : Owners) (who at : ℕ) (found : ObjectView) (kept named : Bool) (latest : Option Fresh) → named ≡ is_some latest
      → owner_of others at ≡ cond (kept || named) (Some who) (owner_of owners at)
      → ((one : Fresh) → latest ≡ Some one → IsLatestAt at one)
      → (kept ≡ true → found.number ≡ latest_number bodies history at)
      → ObjectFits bodies history owners who at found
      → ObjectFits bodies history others who at (rule.renewed latest (cond named (rule.owning (cond kept (rule.owning found) found)) (cond kept (rule.owning found) found)))
  acquired-fits owners others who at found kept true None same owner are number fit = cc
  acquired-fits owners others who at found kept false (Some one) same owner are number fit = cc
  acquired-fits owners others who at found kept true (Some one) same owner are number fit = record {
    base = latest-generation at one (are one refl);
    owned = (λ own. owner ∙ either kept, λ mine. refl);
    latest = λ own. (are one refl).0;
    unstaged = λ other. refl;
    staying = λ other. refl;
    dimension = λ kind. refl;
  }
    where
      either : (kept : Bool) → cond (kept || true) (Some who) (owner_of owners at) ≡ Some who
      either true = refl
      either false = refl
  acquired-fits owners others who at found true false None same owner are number fit = record {
    base = fit.base;
    owned = (λ own. owner, λ mine. refl);
    latest = λ own. number refl;
    unstaged = λ other. absurd (true≢false other);
    staying = λ other. refl;
    dimension = fit.dimension;
  }
  acquired-fits owners others who at found false false None same owner are number fit = record {
    base = fit.base;
    owned = subst (λ (by : Option ℕ). (found.owned ≡ true) ↔ (by ≡ Some who)) (sym owner) fit.owned;
    latest = fit.latest;
    unstaged = fit.unstaged;
    staying = fit.staying;
    dimension = fit.dimension;
  }

  pub acquiring : (definitions : List Def) (owners : Owners) (view : ViewState) (keep : List ℕ) (fresh : List Fresh) → Fits definitions bodies history owners view → MayBeKept bodies history view keep → AreLatest bodies history fresh → Fits definitions bodies history (taken owners view.who (keep ++ rule.objects_of fresh)) (rule.acquired view keep fresh)
  acquiring definitions owners view keep fresh fits may are =
      Fits-each bodies history history owners (taken owners view.who (keep ++ rule.objects_of fresh)) definitions view (λ at found. rule.renewed (rule.latest_of fresh at) (listed (rule.objects_of fresh) rule.owning at (listed keep rule.owning at found)))
      (λ at found. kind-renewed (rule.latest_of fresh at) (listed (rule.objects_of fresh) rule.owning at (listed keep rule.owning at found))
      ∙ kind-cond (names (rule.objects_of fresh) at) (rule.owning (listed keep rule.owning at found)) (listed keep rule.owning at found) refl ∙ kind-cond (names keep at) (rule.owning found) found refl)
      (λ at found is fit. acquired-fits owners (taken owners view.who (keep ++ rule.objects_of fresh)) view.who at found (names keep at) (names (rule.objects_of fresh) at) (rule.latest_of fresh at) (named-latest fresh at)
      (owner_of-taken owners view.who (keep ++ rule.objects_of fresh) at ∙ ap (λ b. cond b (Some view.who) (owner_of owners at)) (names-append keep (rule.objects_of fresh) at))
      (λ one found_is. latest-found fresh at one are found_is)
      (λ named. kept-number owners view.who at found found.owned refl fit (some-and (λ one. one.owned ≡ false → latest_number bodies history at ≤ one.number) (object_of view at) found is (kept-named view keep at may named)))
      fit) fits
