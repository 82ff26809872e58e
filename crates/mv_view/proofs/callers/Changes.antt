-- What a commit of a view has.
use Rattle.std.specs.Prelude.{ℕ, suc, ◌≡◌, ◌==◌, ◌+◌, ◌≤◌, Bool, true, false, cond, min, List, [], ◌∷◌, map, Option, Some, None, IfSome, MatchOption, is_some, slice_get}
use Rattle.std.specs.Option.{option_map, option_and_then, IsSomeAnd}
use Rattle.std.specs.List.{cons_option}
use Rattle.std.proofs.Common.{◌∙◌, ap, sym, refl, subst, arith, true≢false}
use Rattle.std.proofs.lemmas.Option.{slice_get-map}
use Rattle.aw_schema.specs.declared.definition.Def.{Def}
use Rattle.aw_schema.specs.declared.definition.DefKind.{DefKind}
use Rattle.aw_schema.specs.Definitions.{is_kept}
use Rattle.aw_body.specs.declared.body.Body.{Body}
use Rattle.aw_body.specs.declared.change.Change.{Change}
use Rattle.aw_body.specs.declared.patch.BodyPatch.{BodyPatch}
use Rattle.aw_body.specs.Fitting.{fits}
use Rattle.aw_body.specs.Laws.{DifferenceGivesNewer, MakesNewer}
use Rattle.aw_body.specs.Generations.{change_of, latest_body}
use Rattle.aw_body.specs.KeptBodies.{bodies_from, fits_definition}
use Rattle.aw_body.specs.Owners.{Owners, owner_of}
use Rattle.mv_view.specs.Each.{object_in, each_from, names, gathered_from, listed, only}
use Rattle.mv_view.specs.ViewState.{ObjectView, ViewState, object_of, kind_of, kept_kind, kept_kinds, IsSeen, AreSeen}
use Rattle.mv_view.specs.Rules as rule
use Rattle.mv_view.specs.Recording.{AreRecordable, CanBeRecorded}
use Rattle.mv_view.specs.Fit.{ObjectFits, Fits}
use Rattle.mv_view.specs.Laws.{MayCommit, ChangeTells}
use Rattle.mv_view.proofs.callers.Each.{object_in-each}
use Rattle.mv_view.proofs.callers.Forms.{alike, difference-itself}
use Rattle.mv_view.proofs.callers.Committing.{latest-is, change-found}
use Rattle.mv_view.proofs.callers.Recording.{fits-staged}

-- ---- what is given of objects that a change leaves as they are

pub gathered-same : {X Y : Type 0} (give : ℕ → X → Option Y) (at : ℕ) (change : ℕ → X → X) (objects : List (Option X)) → ((k : ℕ) (x : X) → give k (change k x) ≡ give k x) → gathered_from give at (each_from at change objects) ≡ gathered_from give at objects
gathered-same give at change [] same = refl
gathered-same give at change (None ∷ objects) same = gathered-same give (at + 1) change objects same
gathered-same {Y = Y} give at change (Some x ∷ objects) same =
    ap (λ (one : Option Y). cons_option one (gathered_from give (at + 1) (each_from (at + 1) change objects))) (same at x) ∙ ap (λ (rest : List Y). cons_option (give at x) rest) (gathered-same give (at + 1) change objects same)

pub gathered-nothing : {X Y : Type 0} (give : ℕ → X → Option Y) (at : ℕ) (change : ℕ → X → X) (objects : List (Option X)) → ((k object : ℕ) → at + k ≡ object → IfSome (object_in objects k) (λ x. give object (change object x) ≡ None)) → gathered_from give at (each_from at change objects) ≡ []
gathered-nothing give at change [] none = refl
gathered-nothing give at change (None ∷ objects) none = gathered-nothing give (at + 1) change objects (λ k object is. none (suc k) object (omega arith))
gathered-nothing {Y = Y} give at change (Some x ∷ objects) none =
    ap (λ (one : Option Y). cons_option one (gathered_from give (at + 1) (each_from (at + 1) change objects))) (none 0 at (omega arith)) ∙ gathered-nothing give (at + 1) change objects (λ k object is. none (suc k) object (omega arith))

change-cond : (P : ObjectView → Type 0) (b : Bool) (one other : ObjectView) → P one → P other → P (cond b one other)
change-cond P true one other one_is other_is = one_is
change-cond P false one other one_is other_is = other_is

-- a private body isn't committed
pub changes-only : (view : ViewState) (object : ℕ) (change : ObjectView → ObjectView) → ((at : ℕ) (found : ObjectView) → rule.change_of at (change found) ≡ rule.change_of at found) → gathered_from rule.change_of 0 (each_from 0 (only object change) view.objects) ≡ rule.changes view
changes-only view object change same =
    gathered-same rule.change_of 0 (only object change) view.objects (λ at found. change-cond (λ one. rule.change_of at one ≡ rule.change_of at found) (object == at) (change found) found (same at found) refl)

pub changes-listed : (view : ViewState) (objects : List ℕ) (change : ObjectView → ObjectView) → ((at : ℕ) (found : ObjectView) → rule.change_of at (change found) ≡ rule.change_of at found) → gathered_from rule.change_of 0 (each_from 0 (listed objects change) view.objects) ≡ rule.changes view
changes-listed view objects change same =
    gathered-same rule.change_of 0 (listed objects change) view.objects (λ at found. change-cond (λ one. rule.change_of at one ≡ rule.change_of at found) (names objects at) (change found) found (same at found) refl)

-- ---- nothing is staged behind a commit

abbrev no_change : ℕ → ObjectView → Type 0
no_change at object = rule.change_of at object ≡ None

not-owned : (at : ℕ) (object : ObjectView) → object.owned ≡ false → no_change at object
not-owned at object other = ap (λ b. cond b (option_map (λ (patch : BodyPatch). let c : Change = record { object = at; patch = patch } in c) (rule.staged_patch object)) None) other

is-none : {A : Type 0} (found : Option A) → is_some found ≡ false → found ≡ None
is-none None e = refl
is-none (Some x) e = cc

not-staged : (at : ℕ) (object : ObjectView) → rule.is_staged object ≡ false → no_change at object
not-staged at object none =
    ap (λ (patch : Option BodyPatch). cond object.owned (option_map (λ (patch : BodyPatch). let c : Change = record { object = at; patch = patch } in c) patch) None) (is-none (rule.staged_patch object) none) ∙ either object.owned
  where
    either : (b : Bool) → cond {A = Option Change} b None None ≡ None
    either true = refl
    either false = refl

committing-none : DifferenceGivesNewer → (at : ℕ) (object : ObjectView) (b : Bool) → rule.is_staged object ≡ b → IsSeen object → rule.is_staged (rule.committing object) ≡ false
committing-none law at object true is seen =
    ap rule.is_staged (ap (λ b. cond b (let o : ObjectView = record object { number = min (object.number + 1) 18446744073709551615; base = object.staged } in o) object) is) ∙ difference-itself law object.kind object.staged seen.staged
committing-none law at object false is seen =
    ap rule.is_staged (ap (λ b. cond b (let o : ObjectView = record object { number = min (object.number + 1) 18446744073709551615; base = object.staged } in o) object) is) ∙ is

leaving-none : (at : ℕ) (object : ObjectView) (b : Bool) → object.leaving ≡ b → rule.is_staged object ≡ false → no_change at (rule.leaving_now object)
leaving-none at object true is none = ap (rule.change_of at) (ap (λ b. cond b (rule.giving_up object) object) is)
leaving-none at object false is none = ap (rule.change_of at) (ap (λ b. cond b (rule.giving_up object) object) is) ∙ not-staged at object none

after-none : DifferenceGivesNewer → (at : ℕ) (object : ObjectView) (b : Bool) → object.owned ≡ b → IsSeen object → no_change at (rule.after_commit object)
after-none law at object true is seen =
    ap (rule.change_of at) (ap (λ b. cond b (rule.leaving_now (rule.committing object)) object) is)
    ∙ leaving-none at (rule.committing object) (rule.committing object).leaving refl (committing-none law at object (rule.is_staged object) refl seen)
after-none law at object false is seen =
    ap (rule.change_of at) (ap (λ b. cond b (rule.leaving_now (rule.committing object)) object) is) ∙ not-owned at object is

pub nothing-left : DifferenceGivesNewer → (view : ViewState) → AreSeen view.objects → rule.changes (rule.committed view) ≡ []
nothing-left law view seen =
    gathered-nothing rule.change_of 0 (λ at found. rule.after_commit found) view.objects (λ k object is. some object (object_in view.objects k) (seen.each k))
  where
    some : (object : ℕ) (found : Option ObjectView) → IfSome found IsSeen → IfSome found (λ x. rule.change_of object (rule.after_commit x) ≡ None)
    some object None is = tt
    some object (Some one) is = after-none law object one one.owned refl is

-- ---- what a change tells

module _ (law : DifferenceGivesNewer) where
  by-patch : (object : ℕ) (found : ObjectView) (patch : Option BodyPatch) → MatchOption patch (found.base ≡ found.staged) (MakesNewer found.base found.staged) → (owned : Bool) → found.owned ≡ owned
      → MatchOption (cond owned (option_map (λ (patch : BodyPatch). let c : Change = record { object = object; patch = patch } in c) patch) None) (found.owned ≡ true → found.staged ≡ found.base) (λ change. ChangeTells found change)
  by-patch object found None same true own = λ mine. sym same
  by-patch object found None same false own = λ mine. absurd (true≢false (sym mine ∙ own))
  by-patch object found (Some patch) makes true own = (own, λ same. makes.differ (sym same), makes.makes)
  by-patch object found (Some patch) makes false own = λ mine. absurd (true≢false (sym mine ∙ own))

  tells-found : (object : ℕ) (found : Option ObjectView) → IfSome found IsSeen → MatchOption (option_and_then (rule.change_of object) found) (IfSome found (λ one. one.owned ≡ true → one.staged ≡ one.base)) (λ change. IsSomeAnd found (λ one. ChangeTells one change))
  tells-found object None seen = tt
  tells-found object (Some one) seen =
      by-patch object one (rule.staged_patch one) (law one.base one.staged seen.base.valid seen.staged.valid (alike one.kind one.base one.staged seen.base.form seen.staged.form)) one.owned refl

  pub changes-tell : (definitions : List Def) (numbers : ℕ → ℕ) (firsts : ℕ → Body) (view : ViewState) (object : ℕ) → AreSeen view.objects → MatchOption (change_of (bodies_from definitions numbers firsts) object (rule.changes view)) (IfSome (object_of view object) (λ found. found.owned ≡ true → found.staged ≡ found.base)) (λ change. IsSomeAnd (object_of view object) (λ found. ChangeTells found change))
  changes-tell definitions numbers firsts view object seen =
      subst (λ (found : Option Change). MatchOption found (IfSome (object_of view object) (λ found. found.owned ≡ true → found.staged ≡ found.base)) (λ change. IsSomeAnd (object_of view object) (λ found. ChangeTells found change)))
      (sym (change-found definitions numbers firsts view object)) (tells-found object (object_of view object) (seen.each object))

-- ---- changes that may be committed

slice-object : (objects : List (Option ObjectView)) (k : ℕ) (found : ObjectView) → object_in objects k ≡ Some found → slice_get objects k ≡ Some (Some found)
slice-object objects k found is = step (slice_get objects k) is
  where
    step : (place : Option (Option ObjectView)) → elim place as (λ _. Option ObjectView) [ None ↦ None | Some one ↦ one ] ≡ Some found → place ≡ Some (Some found)
    step None e = cc
    step (Some one) e = ap (λ (o : Option ObjectView). Some o) e

kind-step : (def : Def) (kind : DefKind) (b : Bool) → cond b (Some def.kind) None ≡ Some kind → def.kind ≡ kind
kind-step def kind true is = cc
kind-step def kind false is = cc

-- the definition of an object that is seen
definition-there : (definitions : List Def) (view : ViewState) (object : ℕ) (found : ObjectView) → map (option_map kind_of) view.objects ≡ kept_kinds definitions → object_of view object ≡ Some found → (def : Def) × (slice_get definitions object ≡ Some def) × (def.kind ≡ found.kind)
definition-there definitions view object found kinds is =
    step (slice_get definitions object) refl
    (sym (slice_get-map kept_kind definitions object) ∙ sym (ap (λ (those : List (Option DefKind)). slice_get those object) kinds) ∙ slice_get-map (option_map kind_of) view.objects object
    ∙ ap (λ (place : Option (Option ObjectView)). option_map (option_map kind_of) place) (slice-object view.objects object found is))
  where
    step : (def : Option Def) → slice_get definitions object ≡ def → option_map kept_kind def ≡ Some (Some found.kind) → (def : Def) × (slice_get definitions object ≡ Some def) × (def.kind ≡ found.kind)
    step None there e = cc
    step (Some def) there e = (def, there, kind-step def found.kind (is_kept def.kind) (let same : kept_kind def ≡ Some found.kind = cc in same))

-- a change that is one of the session's own, and fits
abbrev IsOwnChange : List Def → (ℕ → ℕ) → (ℕ → Body) → List (List Change) → Owners → ℕ → ℕ → Change → Type 0
IsOwnChange definitions numbers firsts history owners who object change =
    (change.object ≡ object) × (owner_of owners change.object ≡ Some who) × ((bodies_from definitions numbers firsts).fits (latest_body (bodies_from definitions numbers firsts) history change.object) change ≡ true)

module _ (definitions : List Def) (numbers : ℕ → ℕ) (firsts : ℕ → Body) (history : List (List Change)) (owners : Owners) (who : ℕ) where
  may-step : (at least : ℕ) (x : ObjectView) (rest : List Change) (given : Option Change) → least ≤ at → ((change : Change) → given ≡ Some change → IsOwnChange definitions numbers firsts history owners who at change) → ((least : ℕ) → least ≤ at + 1 → MayCommit (bodies_from definitions numbers firsts) history owners who least rest) → MayCommit (bodies_from definitions numbers firsts) history owners who least (cons_option given rest)
  may-step at least x rest None below own later = later least (omega arith)
  may-step at least x rest (Some change) below own later =
      let mine = own change refl in
      let place = mine.0 in
      (omega arith, mine.1, mine.2, later (change.object + 1) (omega arith))

  may-gathered : (at least : ℕ) (objects : List (Option ObjectView)) → least ≤ at → ((k object : ℕ) → at + k ≡ object → IfSome (object_in objects k) (λ x. (change : Change) → rule.change_of object x ≡ Some change → IsOwnChange definitions numbers firsts history owners who object change)) → MayCommit (bodies_from definitions numbers firsts) history owners who least (gathered_from rule.change_of at objects)
  may-gathered at least [] below own = tt
  may-gathered at least (None ∷ objects) below own = may-gathered (at + 1) least objects (omega arith) (λ k object is. own (suc k) object (omega arith))
  may-gathered at least (Some x ∷ objects) below own =
      may-step at least x (gathered_from rule.change_of (at + 1) objects) (rule.change_of at x) below (own 0 at (omega arith))
      (λ least below. may-gathered (at + 1) least objects below (λ k object is. own (suc k) object (omega arith)))

  own-change : DifferenceGivesNewer → (object : ℕ) (found : ObjectView) (def : Def) → slice_get definitions object ≡ Some def → def.kind ≡ found.kind → IsSeen found → CanBeRecorded found.base found.staged → ObjectFits (bodies_from definitions numbers firsts) history owners who object found
      → (owned : Bool) → found.owned ≡ owned → (patch : Option BodyPatch) → rule.staged_patch found ≡ patch → (change : Change) → cond owned (option_map (λ (patch : BodyPatch). let c : Change = record { object = object; patch = patch } in c) patch) None ≡ Some change → IsOwnChange definitions numbers firsts history owners who object change
  own-change law object found def there kind seen can fit true own None is change e = cc
  own-change law object found def there kind seen can fit false own patch is change e = cc
  own-change law object found def there kind seen can fit true own (Some patch) is change e =
      let this : Change = record { object = object; patch = patch } in
      let same : this ≡ change = cc in
      subst (IsOwnChange definitions numbers firsts history owners who object) same (
        refl,
        fit.owned.0 own,
        ap (λ (d : Option Def). fits_definition d (latest_body (bodies_from definitions numbers firsts) history object) this) there
            ∙ ap (λ (k : DefKind). fits patch k (latest_body (bodies_from definitions numbers firsts) history object)) kind
            ∙ ap (λ (b : Body). fits patch found.kind b) (sym (latest-is (bodies_from definitions numbers firsts) history object found.number found.base fit.base (fit.latest own)))
            ∙ fits-staged law found.kind found.base found.staged patch seen.base seen.staged can is,
      )

pub may-commit : DifferenceGivesNewer → (definitions : List Def) (numbers : ℕ → ℕ) (firsts : ℕ → Body) (history : List (List Change)) (owners : Owners) (view : ViewState) → AreSeen view.objects → AreRecordable view → Fits definitions (bodies_from definitions numbers firsts) history owners view → MayCommit (bodies_from definitions numbers firsts) history owners view.who 0 (rule.changes view)
may-commit law definitions numbers firsts history owners view seen can fits =
    may-gathered definitions numbers firsts history owners view.who 0 0 view.objects (omega arith)
    (λ k object is. subst (λ n. IfSome (object_in view.objects n) (λ x. (change : Change) → rule.change_of object x ≡ Some change → IsOwnChange definitions numbers firsts history owners view.who object change)) (let e : object ≡ k = omega arith in e)
    (some object (object_in view.objects object) refl (seen.each object) (can object) (fits.each object)))
  where
    one : (object : ℕ) (found : ObjectView) → object_of view object ≡ Some found → IsSeen found → CanBeRecorded found.base found.staged → ObjectFits (bodies_from definitions numbers firsts) history owners view.who object found → (change : Change) → rule.change_of object found ≡ Some change → IsOwnChange definitions numbers firsts history owners view.who object change
    one object found is seen can fit change e =
        let def = definition-there definitions view object found fits.kinds is in
        own-change definitions numbers firsts history owners view.who law object found def.0 def.1 def.2 seen can fit found.owned refl (rule.staged_patch found) refl change e

    some : (object : ℕ) (found : Option ObjectView) → object_in view.objects object ≡ found → IfSome found IsSeen → IfSome found (λ x. CanBeRecorded x.base x.staged) → IfSome found (ObjectFits (bodies_from definitions numbers firsts) history owners view.who object) → IfSome found (λ x. (change : Change) → rule.change_of object x ≡ Some change → IsOwnChange definitions numbers firsts history owners view.who object change)
    some object None is seen can fit = tt
    some object (Some x) is seen can fit = λ change e. one object x is seen can fit change e

-- ---- REVERT

private-cond : (b : Bool) (found : ObjectView) → (cond b (rule.reverting found) found).private ≡ cond b found.staged found.private
private-cond true found = refl
private-cond false found = refl

pub revert-back : (view : ViewState) (objects : List ℕ) (object : ℕ) → IfSome (object_of view object) (λ found. rule.private_of (rule.reverted view objects) object ≡ Some (cond (names objects object) found.staged found.private))
revert-back view objects object = some (object_of view object) refl
  where
    some : (found : Option ObjectView) → object_of view object ≡ found → IfSome found (λ one. rule.private_of (rule.reverted view objects) object ≡ Some (cond (names objects object) one.staged one.private))
    some None is = tt
    some (Some one) is =
        ap (option_map (λ (found : ObjectView). found.private)) (object_in-each 0 (listed objects rule.reverting) view.objects object object (omega arith) ∙ ap (option_map (listed objects rule.reverting object)) is)
        ∙ ap (λ (b : Body). Some b) (private-cond (names objects object) one)
