-- The changes that a session commits are its own, fit the latest bodies, and can be written.
use Rattle.std.specs.Prelude.{◌≡◌, ◌<◌, ◌≤◌, ◌+◌, ◌^◌, ◌==◌, ◌&&◌, ℕ, zero, suc, Bool, true, false, cond, List, [], ◌∷◌, find, length, All, Option, Some, None, IfSome, IsTrue, is_some, if◌then◌else◌, refl, nat_eq}
use Rattle.std.specs.List.{list_all, sum_by, cons_option}
use Rattle.std.specs.Option.{option_map, option_and_then}
use Rattle.std.specs.Cmp.Lexicographic.{pointwise}
use Rattle.std.proofs.Common.{◌∙◌, ap, sym, subst, arith, length-append}
use Rattle.std.proofs.lemmas.Bool.{and_from, eqb-true}
use Rattle.std.proofs.lemmas.List.Elements.{All-nil, All-cons}
use Rattle.std.proofs.lemmas.List.Sums.{sum_by-cons}
use Rattle.std.proofs.lemmas.Option.{same_Some}
use Rattle.aw_schema.specs.declared.definition.Def.{Def}
use Rattle.aw_dim.specs.SameValues.{same_values}
use Rattle.aw_dim.specs.DimensionState.{DimensionState as DimensionValues}
use Rattle.aw_var.specs.CellMap.{Cells, KeyedCell}
use Rattle.aw_var.specs.CellPatch as cells
use Rattle.aw_body.specs.declared.body.Body.{Body}
use Rattle.aw_body.specs.declared.body.Body.TheVariants.{Dim, Rel, Set, Var}
use Rattle.aw_body.specs.declared.change.Change.{Change}
use Rattle.aw_body.specs.declared.patch.BodyPatch.{BodyPatch}
use Rattle.aw_body.specs.declared.patch.BodyPatch.TheVariants.{Values, Slots, Cells as CellPatch}
use Rattle.aw_body.specs.Bodies.{IsBody}
use Rattle.aw_body.specs.BodyPatches.{difference, some_cells}
use Rattle.aw_body.specs.Generations.{change_of}
use Rattle.aw_body.specs.KeptBodies.{bodies_of, first_of}
use Rattle.aw_body.specs.Owners.{owner_of}
use Rattle.aw_codec.specs.declared.record.Decoded.TheVariants.{Definitions, Commit}
use Rattle.aw_codec.specs.Records.{is_recordable, IsSpelled, IsKeyedCell, IsPatch, IsChange}
use Rattle.aw_codec.specs.Spellings as spelling
use Rattle.aw_codec.proofs.CallerLemmas.{recordable_fits}
use Rattle.aw_codec.proofs.callers.Lengths.{keyed_cell_length, cells_length, commit_length, cell_some}
use Rattle.mv_core.specs.Workspace.{Workspace}
use Rattle.aw_store.specs.StoredRecords.{are_replayed, are_accepted_after, fits_latest}
use Rattle.aw_store.proofs.callers.Commits.{few-definitions}
use Rattle.mv_view.specs.Each.{object_in, gathered_from}
use Rattle.mv_view.specs.Laws.{MayCommit}
use Rattle.mv_view.specs.Recording.{CanBeRecorded, AreRecordable}
use Rattle.mv_view.specs.Rules as rule
use Rattle.mv_view.specs.ViewState.{ObjectView, ViewState, object_of}
use Rattle.mv_view.proofs.callers.Changes.{may-commit}
use Rattle.mv_view.proofs.callers.Committing.{change-found}
use Rattle.mv_view.proofs.callers.Recording.{fits-staged}
use Rattle.script_meaning.specs.Fit.{AreDefinable, CanBeWritten, ViewFits}
use Rattle.script_meaning.specs.Language.{bytes_of}
use Rattle.script_meaning.proofs.Differences.{gives_newer}
use Rattle.script_meaning.proofs.Fitting.{IsGood, goods}
use Rattle.script_meaning.proofs.KeptKinds.{if-some, each-some, seen-kept, kept-within}
use Rattle.script_meaning.proofs.Pairs.{IsKey, pairs-keyed, keyed-pairs, pairs-difference}

-- ---- how long a patch of cells is

cells-fewer : (pairs : Cells) → length pairs ≤ sum_by (λ (pair : KeyedCell). length (spelling.keyed_cell pair)) pairs
cells-fewer [] = omega arith
cells-fewer (pair ∷ pairs) =
    omega (arith, sum_by-cons (λ (pair : KeyedCell). length (spelling.keyed_cell pair)) pair pairs, keyed_cell_length pair, cell_some pair.1, cells-fewer pairs)

-- a patch with fewer than 2 ^ 32 cells
abbrev IsShort : BodyPatch → Type 0
IsShort (CellPatch pairs) = length pairs < 2 ^ 32
IsShort patch = Unit {0}

patch-short : (patch : BodyPatch) → length (spelling.patch patch) ≤ 67108864 → IsShort patch
patch-short (Values values) few = tt
patch-short (Slots slots) few = tt
patch-short (CellPatch pairs) few = omega (arith, cells_length pairs, cells-fewer pairs, few)

abbrev bytes_in : List Change → ℕ
bytes_in changes = sum_by (λ (c : Change). length (spelling.change c)) changes

changes-short : (changes : List Change) → bytes_in changes ≤ 67108864 → All (λ c. IsShort c.patch) changes
changes-short [] few = All-nil (λ (c : Change). IsShort c.patch)
changes-short (c ∷ changes) few =
    let parts = sum_by-cons (λ (c : Change). length (spelling.change c)) c changes in
    All-cons (λ (c : Change). IsShort c.patch) c changes (patch-short c.patch (omega (arith, parts, few, length-append (spelling.short c.object) (spelling.patch c.patch)))) (changes-short changes (omega (arith, parts, few)))

-- ---- what makes a staged body of its base can be written

some-patch : (P : BodyPatch → Type 0) (one patch : BodyPatch) → P one → Some one ≡ Some patch → P patch
some-patch P one patch holds is = subst P (same_Some one patch is) holds

abbrev Wants : BodyPatch → Type 0
Wants patch = IsTrue (is_recordable patch) → IsShort patch → IsPatch patch

from-values : (same : Bool) (newer : DimensionValues) (patch : BodyPatch) → IsBody (Dim newer) → (if same then None else Some (Values newer)) ≡ Some patch → Wants patch
from-values true newer patch valid is = cc
from-values false newer patch valid is = some-patch Wants (Values newer) patch (λ recordable short. valid) is

from-slots : (same : Bool) (newer : List ℕ) (patch : BodyPatch) → CanBeWritten (Set newer) → (if same then None else Some (Slots newer)) ≡ Some patch → Wants patch
from-slots true newer patch can is = cc
from-slots false newer patch can is = some-patch Wants (Slots newer) patch (λ recordable short. can) is

from-cells : (found : Cells) (patch : BodyPatch) → All IsKeyedCell found → some_cells found ≡ Some patch → Wants patch
from-cells [] patch all is = cc
from-cells (pair ∷ pairs) patch all is = some-patch Wants (CellPatch (pair ∷ pairs)) patch (λ recordable short. (recordable, short, all)) is

difference-keyed : (older newer : Cells) → All IsKeyedCell older → All IsKeyedCell newer → All IsKeyedCell (cells.difference older newer)
difference-keyed older newer all more =
    keyed-pairs (cells.difference older newer) (pairs-difference IsKey IsSpelled tt older newer (pairs-keyed older all) (pairs-keyed newer more))

patch-written : (base staged : Body) (patch : BodyPatch) → IsBody staged → CanBeWritten base → CanBeWritten staged → difference base staged ≡ Some patch → Wants patch
patch-written (Dim older) (Dim newer) patch valid base can is = from-values (same_values older newer) newer patch valid is
patch-written (Set older) (Set newer) patch valid base can is = from-slots (pointwise nat_eq older newer) newer patch can is
patch-written (Rel older) (Rel newer) patch valid base can is = from-cells (cells.difference older.cells newer.cells) patch (difference-keyed older.cells newer.cells base can) is
patch-written (Var older) (Var newer) patch valid base can is = from-cells (cells.difference older.cells newer.cells) patch (difference-keyed older.cells newer.cells base can) is
patch-written (Dim older) (Rel newer) patch valid base can is = cc
patch-written (Dim older) (Set newer) patch valid base can is = cc
patch-written (Dim older) (Var newer) patch valid base can is = cc
patch-written (Set older) (Dim newer) patch valid base can is = cc
patch-written (Set older) (Rel newer) patch valid base can is = cc
patch-written (Set older) (Var newer) patch valid base can is = cc
patch-written (Rel older) (Dim newer) patch valid base can is = cc
patch-written (Rel older) (Set newer) patch valid base can is = cc
patch-written (Rel older) (Var newer) patch valid base can is = cc
patch-written (Var older) (Dim newer) patch valid base can is = cc
patch-written (Var older) (Set newer) patch valid base can is = cc
patch-written (Var older) (Rel newer) patch valid base can is = cc

-- ---- all changes

pub gathered-all : (P : Change → Type 0) (at : ℕ) (objects : List (Option ObjectView)) → ((k object : ℕ) → at + k ≡ object → IfSome (object_in objects k) (λ found. (c : Change) → rule.change_of object found ≡ Some c → P c)) → All P (gathered_from rule.change_of at objects)
gathered-all P at [] own = All-nil P
gathered-all P at (None ∷ objects) own = gathered-all P (at + 1) objects (λ k object is. own (suc k) object (omega (arith, is)))
gathered-all P at (Some found ∷ objects) own =
    with_first (rule.change_of at found) (own zero at (omega arith)) (gathered-all P (at + 1) objects (λ k object is. own (suc k) object (omega (arith, is))))
  where
    with_first : (made : Option Change) → ((c : Change) → made ≡ Some c → P c) → All P (gathered_from rule.change_of (at + 1) objects) → All P (cons_option made (gathered_from rule.change_of (at + 1) objects))
    with_first None own rest = rest
    with_first (Some c) own rest = All-cons P c (gathered_from rule.change_of (at + 1) objects) (own c refl) rest

-- a change of an object is of an owned one, and makes its staged body
pub record IsChangeOf (object : ℕ) (found : ObjectView) (c : Change) : Type 0 where
  pub owned : found.owned ≡ true
  pub place : c.object ≡ object
  pub makes : difference found.base found.staged ≡ Some c.patch

pub change-is : (object : ℕ) (found : ObjectView) (c : Change) → rule.change_of object found ≡ Some c → IsChangeOf object found c
change-is object found c is = by_owned found.owned refl (rule.staged_patch found) refl is
  where
    by_owned : (owned : Bool) → found.owned ≡ owned → (patch : Option BodyPatch) → rule.staged_patch found ≡ patch → cond owned (option_map (λ (patch : BodyPatch). let c : Change = record { object = object; patch = patch } in c) patch) None ≡ Some c → IsChangeOf object found c
    by_owned false own patch made is = cc
    by_owned true own None made is = cc
    by_owned true own (Some patch) made is =
        let this : Change = record { object = object; patch = patch } in
        let same : this ≡ c = same_Some this c is in
        record { owned = own; place = sym (ap (λ (one : Change). one.object) same); makes = made ∙ ap (λ (one : Change). Some one.patch) same }

pub definitions-few : (definitions : List Def) → AreDefinable definitions → length definitions ≤ 4096
definitions-few definitions it =
    few-definitions (Definitions definitions ∷ []) (and_from (are_replayed definitions) (are_accepted_after [] definitions && true) it.replayed (and_from (are_accepted_after [] definitions) true it.accepted refl))

module _ (w : Workspace) (who : ℕ) (view : ViewState) (it : ViewFits w who view) where
  recordable : AreRecordable view
  recordable object = each-some (λ (found : ObjectView). CanBeRecorded found.base found.staged) (object_of view object) (λ found is. (if-some IsGood (object_of view object) found is (goods w who view it object)).commits.staged.1)

  pub may : MayCommit (bodies_of w.definitions) w.history w.owners view.who 0 (rule.changes view)
  may = may-commit gives_newer w.definitions (λ object. 1) (first_of w.definitions) w.history w.owners view it.forms recordable it.fits

  -- each change can be written, where the record isn't too long
  pub are_changes : AreDefinable w.definitions → bytes_of (Commit (rule.changes view)) ≤ 67108864 → All IsChange (rule.changes view)
  are_changes definable few =
      let short = changes-short (rule.changes view) (omega (arith, commit_length (rule.changes view), few)) in
      let written = gathered-all (λ c. IsShort c.patch → IsChange c) 0 view.objects (λ k object is.
      subst (λ (at : ℕ). IfSome (object_in view.objects at) (λ found. (c : Change) → rule.change_of object found ≡ Some c → IsShort c.patch → IsChange c)) (let e : object ≡ k = omega (arith, is) in e)
      (each-some (λ (found : ObjectView). (c : Change) → rule.change_of object found ≡ Some c → IsShort c.patch → IsChange c) (object_of view object) (one object))) in
      λ k d within. written k d within (short k d within)
    where
      one : (object : ℕ) (found : ObjectView) → object_of view object ≡ Some found → (c : Change) → rule.change_of object found ≡ Some c → IsShort c.patch → IsChange c
      one object found there c is short =
          let made = change-is object found c is in
          let good = if-some IsGood (object_of view object) found there (goods w who view it object) in
          let fit = fits-staged gives_newer found.kind found.base found.staged c.patch good.forms.base good.forms.staged good.commits.staged.1 made.makes in
          let kept = seen-kept w.definitions view object found it.fits.kinds there in (
            omega (arith, made.place, kept-within w.definitions object found.kind kept, definitions-few w.definitions definable),
            patch-written found.base found.staged c.patch good.forms.staged.valid good.commits.base good.commits.staged.0 made.makes (recordable_fits c.patch found.kind found.base fit) short,
          )

  -- each fits the latest body of its object
  may-fit : (least : ℕ) (changes : List Change) → MayCommit (bodies_of w.definitions) w.history w.owners view.who least changes → list_all (fits_latest w.definitions w.history) changes ≡ true
  may-fit least [] those = refl
  may-fit least (c ∷ changes) those =
      and_from (fits_latest w.definitions w.history c) (list_all (fits_latest w.definitions w.history) changes) those.2 (may-fit (c.object + 1) changes those.3)

  pub changes_fit : list_all (fits_latest w.definitions w.history) (rule.changes view) ≡ true
  changes_fit = may-fit 0 (rule.changes view) may

  -- what is changed is the session's own
  may-own : (least object : ℕ) (changes : List Change) (c : Change) → MayCommit (bodies_of w.definitions) w.history w.owners view.who least changes → find (λ (one : Change). one.object == object) changes ≡ Some c → owner_of w.owners object ≡ Some view.who
  may-own least object [] c those is = cc
  may-own least object (first ∷ changes) c those is = by_first (first.object == object) refl is (may-own (first.object + 1) object changes c those.3)
    where
      by_first : (test : Bool) → (first.object == object) ≡ test → cond test (Some first) (find (λ (one : Change). one.object == object) changes) ≡ Some c → (find (λ (one : Change). one.object == object) changes ≡ Some c → owner_of w.owners object ≡ Some view.who) → owner_of w.owners object ≡ Some view.who
      by_first true same is later = ap (owner_of w.owners) (sym (eqb-true first.object object same)) ∙ those.1
      by_first false other is later = later is

  pub changed-own : (object : ℕ) (c : Change) → change_of (bodies_of w.definitions) object (rule.changes view) ≡ Some c → owner_of w.owners object ≡ Some who
  changed-own object c is = may-own 0 object (rule.changes view) c may is ∙ ap Some it.number

  -- the change of an object that is seen
  pub change-seen : (object : ℕ) (found : ObjectView) → object_of view object ≡ Some found → change_of (bodies_of w.definitions) object (rule.changes view) ≡ rule.change_of object found
  change-seen object found there =
      change-found w.definitions (λ object. 1) (first_of w.definitions) view object ∙ ap (option_and_then (rule.change_of object)) there

  -- an owned object of which something is staged is changed
  pub staged-changed : (object : ℕ) (found : ObjectView) → object_of view object ≡ Some found → found.owned ≡ true → rule.is_staged found ≡ true → (c : Change) × (change_of (bodies_of w.definitions) object (rule.changes view) ≡ Some c)
  staged-changed object found there own staged = by_patch (rule.staged_patch found) refl staged
    where
      by_patch : (patch : Option BodyPatch) → rule.staged_patch found ≡ patch → is_some patch ≡ true → (c : Change) × (change_of (bodies_of w.definitions) object (rule.changes view) ≡ Some c)
      by_patch None is none = cc
      by_patch (Some patch) is some =
          let c : Change = record { object = object; patch = patch } in (
            c,
            change-seen object found there
                ∙ ap (λ (owned : Bool). cond owned (option_map (λ (patch : BodyPatch). let c : Change = record { object = object; patch = patch } in c) (rule.staged_patch found)) None) own
                ∙ ap (option_map (λ (patch : BodyPatch). let c : Change = record { object = object; patch = patch } in c)) is,
          )
