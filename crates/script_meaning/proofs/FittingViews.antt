-- The view of a session fits after each of its commands, after what follows a reply, and after what another session did.
use Rattle.std.specs.Prelude.{◌≡◌, ◌≢◌, ◌==◌, ◌+◌, ◌&&◌, ◌++◌, ◌↔◌, ℕ, zero, suc, Bool, true, false, not, cond, filter, List, [], ◌∷◌, Option, Some, None, IfSome, if◌then◌else◌, refl}
use Rattle.std.specs.Option.{option_map, IsSomeAnd}
use Rattle.std.proofs.Common.{◌∙◌, ap, ap₂, sym, subst, ne_eqb, arith}
use Rattle.std.proofs.lemmas.Bool.{eqb-true, eq-eqb}
use Rattle.std.proofs.lemmas.Option.{none-some, same_Some}
use Rattle.std.proofs.Math.Bool.{and-false, and-true}
use Rattle.aw_dim.specs.DimensionState.{DimensionState}
use Rattle.aw_schema.specs.declared.definition.Def.{Def}
use Rattle.aw_schema.specs.declared.definition.DefKind.{DefKind}
use Rattle.aw_schema.specs.Definitions.{is_kept}
use Rattle.aw_var.specs.CellMap.{Cells}
use Rattle.aw_body.specs.declared.body.Body.{Body}
use Rattle.aw_body.specs.declared.change.Change.{Change}
use Rattle.aw_body.specs.declared.change.Fresh.{Fresh}
use Rattle.aw_body.specs.Generations.{Bodies, change_of, latest_number, latest_body}
use Rattle.aw_body.specs.KeptBodies.{bodies_of, first_of}
use Rattle.aw_body.specs.Owners.{Owners, owner_of, is_own, taken, given_up, all_given_up}
use Rattle.aw_body.specs.OwnerLaws.{owner_of-taken, owner_of-given_up, owner_of-all_given_up}
use Rattle.mv_core.specs.Lookups.{latest_from}
use Rattle.mv_core.specs.Workspace.{Workspace, object_of as object_kept, standing_from, standing}
use Rattle.mv_view.specs.Each.{object_in, only, listed, names, passes, numbers_from}
use Rattle.mv_view.specs.Fit as seen
use Rattle.mv_view.specs.Laws.{AreLatest, MayBeKept, CanRise, grown, leaving_objects, unstaged_in}
use Rattle.mv_view.specs.Rules as rule
use Rattle.mv_view.specs.ViewState.{ObjectView, ViewState, object_of, is_owned, AreOwned, AreCellsOf, kinds_of, kept_kinds}
use Rattle.mv_view.proofs.callers.Fitting.{kind-cond, some-and, own-calls, acquiring, resyncing, latest-found}
use Rattle.mv_view.proofs.callers.Committing.{attaching, committing, releasing, others-fit}
use Rattle.ses_step.specs.Sessions.{is_leaving, leaving, AreHeldBy, CanMaintain}
use Rattle.script_meaning.specs.Fit.{IsKeptOf, ViewFits}
use Rattle.script_meaning.proofs.Differences.{gives_newer}
use Rattle.script_meaning.proofs.KeptKinds.{if-some, each-some, seen-kept}
use Rattle.script_meaning.proofs.StoredBodies.{KeptBodies}
use Rattle.script_meaning.proofs.WrittenCells.{held-cells}
use Rattle.script_meaning.proofs.Fitting.{IsGood, good-if, good-seen, good-renewed, good-written, good-maintained, good-staging, good-reverting, good-owning, good-releasing, good-committed, view-fits, view-changed, goods}

-- ---- an assignment, MAINTAIN, UPDATE

-- where the object is, what holds of it holds of what is found there
at-object : (view : ViewState) (P : ObjectView → Type 0) (object at : ℕ) (one : ObjectView) → IsSomeAnd (object_of view object) P → (object == at) ≡ true → object_of view at ≡ Some one → P one
at-object view P object at one holds same is = some-and P (object_of view at) one is (subst (λ (n : ℕ). IsSomeAnd (object_of view n) P) (eqb-true object at same) holds)

some-more : (P Q : ObjectView → Type 0) (found : Option ObjectView) → ((one : ObjectView) → P one → Q one) → IsSomeAnd found P → IsSomeAnd found Q
some-more P Q None more holds = absurd holds
some-more P Q (Some one) more holds = more one holds

-- cells that the object can hold
pub view-written : (w : Workspace) (who : ℕ) (view : ViewState) (object : ℕ) (cells : Cells) → ViewFits w who view → IsSomeAnd (object_of view object) (λ found. AreHeldBy found.kind cells) → ViewFits w who (rule.written view object cells)
view-written w who view object cells it held =
    view-changed w w who view (only object (rule.with_cells cells)) it
    ((own-calls w.definitions (bodies_of w.definitions) w.history w.owners view it.fits).written object cells (some-more (λ found. AreHeldBy found.kind cells) (λ found. AreCellsOf found.kind cells) (object_of view object) (λ one holds. held-cells one.kind cells holds) held))
    (λ at one is good. good-if (object == at) (rule.with_cells cells one) one (λ same. good-written one cells (at-object view (λ found. AreHeldBy found.kind cells) object at one held same is) good) good)

-- values of a dimension that the session owns
pub view-maintained : (w : Workspace) (who : ℕ) (view : ViewState) (object : ℕ) (values : DimensionState) → ViewFits w who view → IsSomeAnd (object_of view object) (CanMaintain values) → ViewFits w who (rule.maintained view object values)
view-maintained w who view object values it can =
    view-changed w w who view (only object (rule.with_values values)) it
    ((own-calls w.definitions (bodies_of w.definitions) w.history w.owners view it.fits).maintained object values (some-more (CanMaintain values) (λ found. found.owned ≡ true) (object_of view object) (λ one holds. holds.owned) can))
    (λ at one is good. good-if (object == at) (rule.with_values values one) one (λ same. good-maintained one values (at-object view (CanMaintain values) object at one can same is) good) good)

pub view-updated : (w : Workspace) (who : ℕ) (view : ViewState) (objects : List ℕ) → ViewFits w who view → AreOwned view objects → ViewFits w who (rule.updated view objects)
view-updated w who view objects it owned =
    view-changed w w who view (listed objects rule.staging) it
    ((own-calls w.definitions (bodies_of w.definitions) w.history w.owners view it.fits).updated objects owned)
    (λ at one is good. good-if (names objects at) (rule.staging one) one (λ named. good-staging one good) good)

pub view-reverted : (w : Workspace) (who : ℕ) (view : ViewState) (objects : List ℕ) → ViewFits w who view → ViewFits w who (rule.reverted view objects)
view-reverted w who view objects it =
    view-changed w w who view (listed objects rule.reverting) it
    ((own-calls w.definitions (bodies_of w.definitions) w.history w.owners view it.fits).reverted objects)
    (λ at one is good. good-if (names objects at) (rule.reverting one) one (λ named. good-reverting one good) good)

-- ---- ACQUIRE, RESYNC

module _ (w : Workspace) (who : ℕ) (view : ViewState) (it : ViewFits w who view) (kept : KeptBodies w.definitions w.history) (fresh : List Fresh) (latest : AreLatest (bodies_of w.definitions) w.history fresh) where
  -- what is handed over replaces all three bodies of an object
  good-latest : (at : ℕ) (found changed : ObjectView) → object_of view at ≡ Some found → changed.kind ≡ found.kind → IsGood changed → (one : Option Fresh) → rule.latest_of fresh at ≡ one → IsGood (rule.renewed one changed)
  good-latest at found changed there same good None none = good
  good-latest at found changed there same good (Some one) given =
      let bodies = bodies_of w.definitions in
      let kind = seen-kept w.definitions view at found it.fits.kinds there in
      let its : IsKeptOf found.kind (latest_body bodies w.history at) = if-some (λ kind. IsKeptOf kind (latest_body bodies w.history at)) (object_in (kept_kinds w.definitions) at) found.kind kind (kept at) in
      let body = (latest-found bodies w.history fresh at one latest given).1 in
      good-renewed changed one (subst (λ (kind : DefKind). IsKeptOf kind one.body) (sym same) (subst (IsKeptOf found.kind) (sym body) its))

  -- of objects that nobody owned or the session itself
  pub view-acquired : (keep : List ℕ) → MayBeKept (bodies_of w.definitions) w.history view keep → ViewFits (record w { owners = taken w.owners who (keep ++ rule.objects_of fresh) }) who (rule.acquired view keep fresh)
  view-acquired keep may =
      let bodies = bodies_of w.definitions in
      let fit = acquiring bodies w.history w.definitions w.owners view keep fresh it.fits may latest in
      view-changed w (record w { owners = taken w.owners who (keep ++ rule.objects_of fresh) }) who view (λ at one. rule.renewed (rule.latest_of fresh at) (listed (rule.objects_of fresh) rule.owning at (listed keep rule.owning at one))) it
      (subst (λ (by : ℕ). seen.Fits w.definitions bodies w.history (taken w.owners by (keep ++ rule.objects_of fresh)) (rule.acquired view keep fresh)) it.number fit)
      (λ at one is good.
      let kept_one = listed keep rule.owning at one in
      let owned = listed (rule.objects_of fresh) rule.owning at kept_one in
      let first : IsGood kept_one = good-if (names keep at) (rule.owning one) one (λ named. good-owning one good) good in
      let second : IsGood owned = good-if (names (rule.objects_of fresh) at) (rule.owning kept_one) kept_one (λ named. good-owning kept_one first) first in
      good-latest at one owned is (kind-cond (names (rule.objects_of fresh) at) (rule.owning kept_one) kept_one refl ∙ kind-cond (names keep at) (rule.owning one) one refl) second (rule.latest_of fresh at) refl)

  pub view-resynced : ViewFits w who (rule.resynced view fresh)
  view-resynced =
      view-changed w w who view (λ at one. rule.renewed (rule.latest_of fresh at) one) it
      (resyncing (bodies_of w.definitions) w.history w.definitions w.owners view fresh it.fits latest)
      (λ at one is good. good-latest at one one is refl good (rule.latest_of fresh at) refl)

-- ---- RELEASE

-- the objects of which nothing is staged are given up
pub view-released : (w : Workspace) (who : ℕ) (view : ViewState) (objects : List ℕ) → ViewFits w who view → AreOwned view objects → ViewFits (record w { owners = given_up w.owners who (unstaged_in view objects) }) who (rule.released view objects)
view-released w who view objects it owned =
    let bodies = bodies_of w.definitions in
    let fit = releasing gives_newer bodies w.definitions w.history w.owners view objects it.forms owned it.fits in
    view-changed w (record w { owners = given_up w.owners who (unstaged_in view objects) }) who view (listed objects rule.releasing) it
    (subst (λ (by : ℕ). seen.Fits w.definitions bodies w.history (given_up w.owners by (unstaged_in view objects)) (rule.released view objects)) it.number fit)
    (λ at one is good. good-if (names objects at) (rule.releasing one) one (λ named. good-releasing one good) good)

-- ---- COMMIT

-- of the owned objects those that pass the test are the leaving ones, since no other is leaving
left-are : (test : ℕ → Bool) (at : ℕ) (objects : List (Option ObjectView)) → ((k object : ℕ) → at + k ≡ object → IfSome (object_in objects k) (λ one. (test object ≡ one.leaving) × (one.owned ≡ false → one.leaving ≡ false))) → filter test (numbers_from is_owned at objects) ≡ numbers_from (λ (one : ObjectView). one.leaving) at objects
left-are test at [] each = refl
left-are test at (None ∷ objects) each = left-are test (at + 1) objects (λ k object is. each (suc k) object (omega (arith, is)))
left-are test at (Some one ∷ objects) each =
    let here = each zero at (omega arith) in
    by_owned one.owned refl here.1
    ∙ ap (λ (b : Bool). cond b (at ∷ filter test (numbers_from is_owned (at + 1) objects)) (filter test (numbers_from is_owned (at + 1) objects))) here.0
    ∙ ap (λ (rest : List ℕ). cond one.leaving (at ∷ rest) rest) (left-are test (at + 1) objects (λ k object is. each (suc k) object (omega (arith, is))))
  where
    rest : List ℕ
    rest = numbers_from is_owned (at + 1) objects

    by_owned : (owned : Bool) → one.owned ≡ owned → (one.owned ≡ false → one.leaving ≡ false) → filter test (cond one.owned (at ∷ rest) rest) ≡ cond (test at) (at ∷ filter test rest) (filter test rest)
    by_owned true is staying = ap (λ (b : Bool). filter test (cond b (at ∷ rest) rest)) is
    by_owned false is staying =
        ap (λ (b : Bool). filter test (cond b (at ∷ rest) rest)) is ∙ sym (ap (λ (b : Bool). cond b (at ∷ filter test rest) (filter test rest)) ((each zero at (omega arith)).0 ∙ staying is))

pub leaving-are : (w : Workspace) (who : ℕ) (view : ViewState) → ViewFits w who view → leaving view ≡ leaving_objects view
leaving-are w who view it =
    left-are (λ object. passes is_leaving (object_of view object)) 0 view.objects (λ k object is.
    each-some (λ (one : ObjectView). (passes is_leaving (object_of view object) ≡ one.leaving) × (one.owned ≡ false → one.leaving ≡ false)) (object_in view.objects k) (λ one there.
    let same : k ≡ object = omega (arith, is) in (
      sym (ap (λ (at : ℕ). passes is_leaving (object_of view at)) same) ∙ ap (passes is_leaving) there,
      (if-some (seen.ObjectFits (bodies_of w.definitions) w.history w.owners view.who k) (object_of view k) one there (it.fits.each k)).staying,
    )))

pub view-committed : (w after : Workspace) (who : ℕ) (view : ViewState) → after.definitions ≡ w.definitions → after.history ≡ grown w.history (rule.changes view) → after.owners ≡ given_up w.owners who (leaving view) → ViewFits w who view → CanRise view → ViewFits after who (rule.committed view)
view-committed w after who view same_definitions grows gives it rise =
    let bodies = bodies_of w.definitions in
    let fit = committing w.definitions (λ object. 1) (first_of w.definitions) gives_newer w.history w.owners view it.forms rise it.fits in
    let with_owners = subst (λ (those : Owners). seen.Fits w.definitions bodies (grown w.history (rule.changes view)) those (rule.committed view)) (ap (λ (by : ℕ). given_up w.owners by (leaving_objects view)) it.number ∙ ap (given_up w.owners who) (sym (leaving-are w who view it)) ∙ sym gives) fit in
    let with_history = subst (λ (history : List (List Change)). seen.Fits w.definitions bodies history after.owners (rule.committed view)) (sym grows) with_owners in
    view-changed w after who view (λ at one. rule.after_commit one) it
    (subst (λ (definitions : List Def). seen.Fits definitions (bodies_of definitions) after.history after.owners (rule.committed view)) (sym same_definitions) with_history)
    (λ at one is good. good-committed one (if-some (seen.ObjectFits bodies w.history w.owners view.who at) (object_of view at) one is (it.fits.each at)).dimension good)

-- ---- AW ATTACH

module _ (w : Workspace) where
  abbrev bodies : Bodies Body Change
  bodies = bodies_of w.definitions

  -- each kept object is handed over once, in order of definition
  handed : (at : ℕ) (definitions : List Def) → rule.objects_of (latest_from at (standing_from bodies w at definitions)) ≡ numbers_from (λ (kind : DefKind). true) at (kept_kinds definitions)
  handed at [] = refl
  handed at (def ∷ definitions) = by_kept (is_kept def.kind) (handed (at + 1) definitions)
    where
      by_kept : (kept : Bool) → rule.objects_of (latest_from (at + 1) (standing_from bodies w (at + 1) definitions)) ≡ numbers_from (λ (kind : DefKind). true) (at + 1) (kept_kinds definitions) →
          rule.objects_of (latest_from at ((if kept then Some (object_kept bodies w at) else None) ∷ standing_from bodies w (at + 1) definitions)) ≡ numbers_from (λ (kind : DefKind). true) at (cond kept (Some def.kind) None ∷ kept_kinds definitions)
      by_kept true rest = ap (λ (those : List ℕ). at ∷ those) rest
      by_kept false rest = rest

  are_latest : (at : ℕ) (definitions : List Def) → AreLatest bodies w.history (latest_from at (standing_from bodies w at definitions))
  are_latest at [] = tt
  are_latest at (def ∷ definitions) = by_kept (is_kept def.kind) (are_latest (at + 1) definitions)
    where
      by_kept : (kept : Bool) → AreLatest bodies w.history (latest_from (at + 1) (standing_from bodies w (at + 1) definitions)) →
          AreLatest bodies w.history (latest_from at ((if kept then Some (object_kept bodies w at) else None) ∷ standing_from bodies w (at + 1) definitions))
      by_kept true rest = (refl, refl, rest)
      by_kept false rest = rest

  abbrev pub given : List Fresh
  given = latest_from 0 (standing bodies w)

  pub record IsSeenFirst (object : ℕ) (found : ObjectView) : Type 0 where
    pub kind : DefKind
    pub one : Fresh
    pub handed_over : rule.latest_of given object ≡ Some one
    pub is : found ≡ rule.seen kind one

  seen-there : (at k n : ℕ) (definitions : List Def) (found : ObjectView) → at + k ≡ n → object_in (rule.seen_from at definitions given) k ≡ Some found → IsSeenFirst n found
  seen-there at k n [] found is there = cc
  seen-there at zero n (def ∷ definitions) found is there =
      subst (λ (m : ℕ). IsSeenFirst m found) (let e : at ≡ n = omega (arith, is) in e) (by_one (rule.latest_of given at) refl there)
    where
      by_one : (latest : Option Fresh) → rule.latest_of given at ≡ latest → option_map (rule.seen def.kind) latest ≡ Some found → IsSeenFirst at found
      by_one None none there = cc
      by_one (Some one) handed there = record { kind = def.kind; one = one; handed_over = handed; is = sym (same_Some (rule.seen def.kind one) found there) }
  seen-there at (suc k) n (def ∷ definitions) found is there = seen-there (at + 1) k n definitions found (omega (arith, is)) there

  pub seen-latest : (who object : ℕ) (found : ObjectView) → object_of (rule.attached who w.definitions given) object ≡ Some found → (kind : DefKind) × (found ≡ record { kind = kind; number = latest_number bodies w.history object; base = latest_body bodies w.history object; staged = latest_body bodies w.history object; private = latest_body bodies w.history object; owned = false; leaving = false })
  seen-latest who object found there =
      let it = seen-there 0 object object w.definitions found (omega arith) there in
      let latest = latest-found bodies w.history given object it.one (are_latest 0 w.definitions) it.handed_over in
      (it.kind, it.is ∙ ap₂ (λ (number : ℕ) (body : Body). let o : ObjectView = record { kind = it.kind; number = number; base = body; staged = body; private = body; owned = false; leaving = false } in o) latest.0 latest.1)

  pub attached-fits : (who : ℕ) → ((object : ℕ) → owner_of w.owners object ≢ Some who) → seen.Fits w.definitions bodies w.history w.owners (rule.attached who w.definitions given)
  attached-fits who nobody = attaching bodies w.definitions w.history w.owners who given (handed 0 w.definitions) (are_latest 0 w.definitions) nobody

  -- the view is of the definitions, whoever owns what
  pub attached-kinds : (who : ℕ) → kinds_of (rule.attached who w.definitions given) ≡ kept_kinds w.definitions
  attached-kinds who = (attaching bodies w.definitions w.history [] who given (handed 0 w.definitions) (are_latest 0 w.definitions) (λ object own. none-some who own)).kinds

  pub view-attached : (who : ℕ) → KeptBodies w.definitions w.history → ((object : ℕ) → owner_of w.owners object ≢ Some who) → ViewFits w who (rule.attached who w.definitions given)
  view-attached who kept nobody =
      view-fits w who (rule.attached who w.definitions given) refl (attached-fits who nobody)
      (λ object. each-some IsGood (object_of (rule.attached who w.definitions given) object) (λ found there.
      let it = seen-latest who object found there in
      let kind = seen-kept w.definitions (rule.attached who w.definitions given) object found (attached-fits who nobody).kinds there in
      let its : IsKeptOf found.kind (latest_body bodies w.history object) = if-some (λ kind. IsKeptOf kind (latest_body bodies w.history object)) (object_in (kept_kinds w.definitions) object) found.kind kind (kept object) in
      subst IsGood (sym it.1) (good-seen it.0 (latest_number bodies w.history object) (latest_body bodies w.history object) (subst (λ (kind : DefKind). IsKeptOf kind (latest_body bodies w.history object)) (ap (λ (o : ObjectView). o.kind) it.1) its))))

-- ---- what another session does

-- taking objects of which none is another session's leaves what that one owns
pub taken-other : (owners : Owners) (who other : ℕ) (objects : List ℕ) (at : ℕ) → other ≢ who → (names objects at ≡ true → owner_of owners at ≢ Some other) → (owner_of (taken owners who objects) at ≡ Some other) ↔ (owner_of owners at ≡ Some other)
taken-other owners who other objects at differs foreign = by_test (names objects at) refl
  where
    after : (test : Bool) → names objects at ≡ test → owner_of (taken owners who objects) at ≡ cond test (Some who) (owner_of owners at)
    after test is = owner_of-taken owners who objects at ∙ ap (λ (b : Bool). cond b (Some who) (owner_of owners at)) is

    by_test : (test : Bool) → names objects at ≡ test → (owner_of (taken owners who objects) at ≡ Some other) ↔ (owner_of owners at ≡ Some other)
    by_test true is = (
      (λ owned. absurd (differs (same_Some other who (sym owned ∙ after true is)))),
      λ owned. absurd (foreign is owned),
    )
    by_test false is = ((λ owned. sym (after false is) ∙ owned), λ owned. after false is ∙ owned)

-- giving up, of which another session's aren't
left-other : (owners : Owners) (who other at : ℕ) (listed : Bool) (left : Option ℕ) → other ≢ who → left ≡ cond (not (is_own owners who at && listed)) (owner_of owners at) None → (left ≡ Some other) ↔ (owner_of owners at ≡ Some other)
left-other owners who other at listed left differs is = ((λ gone. by_stays (not (is_own owners who at && listed)) (sym is ∙ gone)), λ owned. is ∙ ap (λ (own : Bool). cond (not (own && listed)) (owner_of owners at) None) (foreign owned) ∙ owned)
  where
    by_stays : (stays : Bool) → cond stays (owner_of owners at) None ≡ Some other → owner_of owners at ≡ Some other
    by_stays true owned = owned
    by_stays false owned = absurd (none-some other owned)

    foreign : owner_of owners at ≡ Some other → is_own owners who at ≡ false
    foreign owned = ap (λ (owner : Option ℕ). elim owner as (λ _. Bool) [ None ↦ false | Some one ↦ one == who ]) owned ∙ ne_eqb other who differs

pub given-other : (owners : Owners) (who other : ℕ) (objects : List ℕ) (at : ℕ) → other ≢ who → (owner_of (given_up owners who objects) at ≡ Some other) ↔ (owner_of owners at ≡ Some other)
given-other owners who other objects at differs =
    left-other owners who other at (names objects at) (owner_of (given_up owners who objects) at) differs (owner_of-given_up owners who objects at)

pub all-given-other : (owners : Owners) (who other at : ℕ) → other ≢ who → (owner_of (all_given_up owners who) at ≡ Some other) ↔ (owner_of owners at ≡ Some other)
all-given-other owners who other at differs =
    left-other owners who other at true (owner_of (all_given_up owners who) at) differs (owner_of-all_given_up owners who at ∙ ap (λ (b : Bool). cond (not b) (owner_of owners at) None) (sym (and-true (is_own owners who at))))

-- who owns an object after some are given up owned it before
pub left-owned : (stays : Bool) (owner : Option ℕ) (by : ℕ) → cond stays owner None ≡ Some by → owner ≡ Some by
left-owned true owner by owned = owned
left-owned false owner by owned = absurd (none-some by owned)

pub given-owned : (owners : Owners) (who : ℕ) (objects : List ℕ) (at by : ℕ) → owner_of (given_up owners who objects) at ≡ Some by → owner_of owners at ≡ Some by
given-owned owners who objects at by owned =
    left-owned (not (is_own owners who at && names objects at)) (owner_of owners at) by (sym (owner_of-given_up owners who objects at) ∙ owned)

pub all-given-owned : (owners : Owners) (who at by : ℕ) → owner_of (all_given_up owners who) at ≡ Some by → owner_of owners at ≡ Some by
all-given-owned owners who at by owned =
    left-owned (not (is_own owners who at)) (owner_of owners at) by (sym (owner_of-all_given_up owners who at) ∙ owned)

-- nothing is given up
pub owner_of-none_given : (owners : Owners) (who object : ℕ) → owner_of (given_up owners who []) object ≡ owner_of owners object
owner_of-none_given owners who object =
    owner_of-given_up owners who [] object ∙ ap (λ b. cond (not b) (owner_of owners object) None) (and-false (is_own owners who object))

-- a session that gives up all owns nothing
pub none-left : (owners : Owners) (who at : ℕ) → owner_of (all_given_up owners who) at ≢ Some who
none-left owners who at owned =
    let before = all-given-owned owners who at who owned in
    let own : is_own owners who at ≡ true = ap (λ (owner : Option ℕ). elim owner as (λ _. Bool) [ None ↦ false | Some one ↦ one == who ]) before ∙ eq-eqb who who refl in
    none-some who (sym (ap (λ (b : Bool). cond (not b) (owner_of owners at) None) own) ∙ sym (owner_of-all_given_up owners who at) ∙ owned)

module _ (w after : Workspace) (other : ℕ) (view : ViewState) (it : ViewFits w other view) where
  -- a commit that changes nothing of the session's own, and owners that stay
  pub view-stays : (commit : List Change) → after.definitions ≡ w.definitions → after.history ≡ grown w.history commit → ((object : ℕ) → owner_of w.owners object ≡ Some other → change_of (bodies_of w.definitions) object commit ≡ None) → ((object : ℕ) → (owner_of after.owners object ≡ Some other) ↔ (owner_of w.owners object ≡ Some other)) → ViewFits after other view
  view-stays commit same_definitions grows mine same =
      let bodies = bodies_of w.definitions in
      let fit = others-fit bodies w.definitions w.history w.owners after.owners commit view
      (λ object own. mine object (own ∙ ap Some it.number))
      (λ object. subst (λ (by : ℕ). (owner_of after.owners object ≡ Some by) ↔ (owner_of w.owners object ≡ Some by)) (sym it.number) (same object)) it.fits in
      let with_history = subst (λ (history : List (List Change)). seen.Fits w.definitions bodies history after.owners view) (sym grows) fit in
      view-fits after other view it.number (subst (λ (definitions : List Def). seen.Fits definitions (bodies_of definitions) after.history after.owners view) (sym same_definitions) with_history) (goods w other view it)
