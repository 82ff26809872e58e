-- Each latest body has the form of its definition and can be written, from the records on.
use Rattle.std.specs.Prelude.{◌≡◌, ◌==◌, ◌≤◌, ◌++◌, ℕ, zero, suc, Bool, true, false, cond, List, [], ◌∷◌, length, find, Option, Some, None, IfSome, All, unwrap_or, slice_get, nat_lt, refl}
use Rattle.std.specs.List.{list_all}
use Rattle.std.specs.Option.{option_and_then}
use Rattle.std.proofs.Common.{◌∙◌, ap, sym, subst, arith, append_assoc, append-nil}
use Rattle.std.proofs.lemmas.Bool.{and_parts, and_from, eqb-true}
use Rattle.std.proofs.lemmas.List.Elements.{All-nil, All-head, All-tail}
use Rattle.aw_cell.specs.declared.cell.Kind.{Kind}
use Rattle.aw_page.specs.Fitting.{is_of_kind}
use Rattle.aw_schema.specs.declared.definition.Def.{Def}
use Rattle.aw_schema.specs.declared.definition.DefKind.{DefKind}
use Rattle.aw_schema.specs.declared.definition.DefKind.TheVariants.{Dimension, Relation, Valueset, Variable, Formula, Program, Aggmap}
use Rattle.aw_schema.specs.Definitions.{is_kept}
use Rattle.aw_var.specs.CellMap.{Cells}
use Rattle.aw_var.specs.CellPatch as cells
use Rattle.aw_var.specs.Variable.{Contents, IsVariable}
use Rattle.aw_body.specs.declared.body.Body.{Body}
use Rattle.aw_body.specs.declared.body.Body.TheVariants.{Dim, Rel, Set, Var}
use Rattle.aw_body.specs.declared.change.Change.{Change}
use Rattle.aw_body.specs.declared.patch.BodyPatch.{BodyPatch}
use Rattle.aw_body.specs.declared.patch.BodyPatch.TheVariants.{Values, Slots, Cells as CellPatch}
use Rattle.aw_body.specs.Bodies.{first_body, IsBody}
use Rattle.aw_body.specs.BodyPatches.{applied, is_change_of, AreChangesOf, CanTake}
use Rattle.aw_body.specs.Fitting.{fits}
use Rattle.aw_body.specs.Generations.{change_of, latest_body}
use Rattle.aw_body.specs.GenerationLaws.{latest_body-changed, latest_body-unchanged}
use Rattle.aw_body.specs.KeptBodies.{fits_definition, bodies_of, first_of}
use Rattle.aw_body.proofs.CallerLemmas.{CanTake-fits, IsBodyOf-applied}
use Rattle.aw_codec.specs.declared.record.Decoded.{Decoded}
use Rattle.aw_codec.specs.declared.record.Decoded.TheVariants.{Definitions, Commit}
use Rattle.aw_codec.specs.Records.{AreInRange, IsDefinition, IsSpelled, IsKeyedCell, IsPatch, IsChange}
use Rattle.aw_store.specs.StoredRecords.{IsStored, AreRecords, fits_latest, are_commits_after, commits_of}
use Rattle.mv_view.specs.Each.{object_in}
use Rattle.mv_view.specs.ViewState.{kept_kinds}
use Rattle.script_meaning.specs.Fit.{CanBeWritten, IsKeptOf}
use Rattle.script_meaning.proofs.Differences.{overwritten_map}
use Rattle.script_meaning.proofs.KeptKinds.{for-kept, kept-here, if-and}
use Rattle.script_meaning.proofs.Pairs.{ArePairs, IsKey, IsKeyOf, IsCellOf, pairs-overwritten, pairs-keyed, keyed-pairs, pairs-variable, variable-pairs}
use Rattle.aw_var.proofs.callers.FiniteMaps.{slots_all}

-- ---- elements

pub all-at : {X : Type 0} (P : X → Type 0) (xs : List X) (k : ℕ) (x : X) → All P xs → slice_get xs k ≡ Some x → P x
all-at P [] k x all is = cc
all-at {X} P (y ∷ xs) zero x all is =
    let same : y ≡ x = cc in
    subst P same (All-head P y xs all)
all-at P (y ∷ xs) (suc k) x all is = all-at P xs k x (All-tail P y xs all) is

-- what is found in a list whose elements all pass one test, or have one property
pub found-all : {X : Type 0} (p test : X → Bool) (P : X → Type 0) (xs : List X) (x : X) → find p xs ≡ Some x → list_all test xs ≡ true → All P xs → (p x ≡ true) × (test x ≡ true) × P x
found-all p test P [] x is tests all = cc
found-all {X} p test P (y ∷ xs) x is tests all = step (p y) refl is (λ found. found-all p test P xs x found parts.1 (All-tail P y xs all))
  where
    parts : (test y ≡ true) × (list_all test xs ≡ true)
    parts = and_parts (test y) (list_all test xs) tests

    step : (first : Bool) → p y ≡ first → cond first (Some y) (find p xs) ≡ Some x → (find p xs ≡ Some x → (p x ≡ true) × (test x ≡ true) × P x) → (p x ≡ true) × (test x ≡ true) × P x
    step true e found later =
        let same : y ≡ x = cc in
        (sym (ap p same) ∙ e, sym (ap test same) ∙ parts.0, subst P same (All-head P y xs all))
    step false e found later = later found

-- ---- a patch

changes-pairs : (slots : ℕ) (kind : Kind) (changes : Cells) → list_all (is_change_of slots kind) changes ≡ true → All IsKeyedCell changes → ArePairs (IsKeyOf slots) (IsCellOf kind) changes
changes-pairs slots kind [] are all = tt
changes-pairs slots kind (change ∷ changes) are all =
    let parts = and_parts (is_change_of slots kind change) (list_all (is_change_of slots kind) changes) are in
    let shape = and_parts (length change.0 == slots) (is_of_kind kind change.1) parts.0 in
    let first = All-head IsKeyedCell change changes all in
    ((and_from (length change.0 == slots) (list_all (λ slot. nat_lt slot 65536) change.0) shape.0 (slots_all change.0 first.0), shape.1), changes-pairs slots kind changes parts.1 (All-tail IsKeyedCell change changes all))

pub variable-overwritten : (contents : Contents) (changes : Cells) → IsVariable contents → AreChangesOf contents changes → All IsKeyedCell changes → IsVariable (record contents { cells = cells.overwritten contents.cells changes })
variable-overwritten contents changes valid take all = record {
  few = valid.few;
  map = overwritten_map contents.cells changes valid.map;
  pairs = variable-pairs contents.slots contents.kind (cells.overwritten contents.cells changes)
      (pairs-overwritten (IsKeyOf contents.slots) (IsCellOf contents.kind) contents.cells changes (pairs-variable contents.slots contents.kind contents.cells valid.pairs) (changes-pairs contents.slots contents.kind changes take all));
}

pub keyed-overwritten : (contents changes : Cells) → All IsKeyedCell contents → All IsKeyedCell changes → All IsKeyedCell (cells.overwritten contents changes)
keyed-overwritten contents changes all more =
    keyed-pairs (cells.overwritten contents changes) (pairs-overwritten IsKey IsSpelled contents changes (pairs-keyed contents all) (pairs-keyed changes more))

valid-applied : (body : Body) (patch : BodyPatch) → IsBody body → CanTake body patch → IsPatch patch → IsBody (applied body patch)
valid-applied (Dim values) (Values newer) valid take is = is
valid-applied (Dim values) (Slots newer) valid take is = valid
valid-applied (Dim values) (CellPatch changes) valid take is = valid
valid-applied (Set slots) (Values newer) valid take is = tt
valid-applied (Set slots) (Slots newer) valid take is = tt
valid-applied (Set slots) (CellPatch changes) valid take is = tt
valid-applied (Rel contents) (Values newer) valid take is = valid
valid-applied (Rel contents) (Slots newer) valid take is = valid
valid-applied (Rel contents) (CellPatch changes) valid take is = variable-overwritten contents changes valid take is.2
valid-applied (Var contents) (Values newer) valid take is = valid
valid-applied (Var contents) (Slots newer) valid take is = valid
valid-applied (Var contents) (CellPatch changes) valid take is = variable-overwritten contents changes valid take is.2

written-applied : (body : Body) (patch : BodyPatch) → CanBeWritten body → IsPatch patch → CanBeWritten (applied body patch)
written-applied (Dim values) (Values newer) can is = tt
written-applied (Dim values) (Slots newer) can is = tt
written-applied (Dim values) (CellPatch changes) can is = tt
written-applied (Set slots) (Values newer) can is = can
written-applied (Set slots) (Slots newer) can is = is
written-applied (Set slots) (CellPatch changes) can is = can
written-applied (Rel contents) (Values newer) can is = can
written-applied (Rel contents) (Slots newer) can is = can
written-applied (Rel contents) (CellPatch changes) can is = keyed-overwritten contents.cells changes can is.2
written-applied (Var contents) (Values newer) can is = can
written-applied (Var contents) (Slots newer) can is = can
written-applied (Var contents) (CellPatch changes) can is = keyed-overwritten contents.cells changes can is.2

-- a patch that fits and that a record can hold keeps the form, and leaves a body that can be written
pub kept-applied : (kind : DefKind) (body : Body) (patch : BodyPatch) → IsKeptOf kind body → fits patch kind body ≡ true → IsPatch patch → IsKeptOf kind (applied body patch)
kept-applied kind body patch it fit is = record {
  form = record {
    form = IsBodyOf-applied kind body patch it.form.form;
    valid = valid-applied body patch it.form.valid (CanTake-fits patch kind body it.form.form fit) is;
  };
  written = written-applied body patch it.written is;
}

-- ---- first bodies

no-cells : (slots : ℕ) (kind : Kind) → slots ≤ 6 → IsVariable (record { slots = slots; kind = kind; cells = [] })
no-cells slots kind few = record { few = few; map = record { rising = refl; present = refl }; pairs = refl }

kept-first : (kind : DefKind) → AreInRange kind → is_kept kind ≡ true → IsKeptOf kind (unwrap_or (first_body kind) (Set []))
kept-first Dimension range kept = record {
  form = record {
    form = tt;
    valid = record {
      slots_differ = λ i j d below within. absurd (omega arith);
      names_differ = λ i j d below within. absurd (omega arith);
      slots_below = λ k d within. absurd (omega arith);
      names_are_texts = λ k d within. absurd (omega arith);
      next_most = omega arith;
    };
  };
  written = tt;
}
kept-first (Relation target base) range kept = record { form = record { form = (refl, refl); valid = no-cells 1 _ (omega arith) }; written = All-nil IsKeyedCell }
kept-first (Valueset dimension) range kept = record { form = record { form = tt; valid = tt }; written = (refl, All-nil _) }
kept-first (Variable type dimensions) range kept = record { form = record { form = (refl, refl); valid = no-cells (length dimensions) type range.1 }; written = All-nil IsKeyedCell }
kept-first (Formula text) range kept = cc
kept-first (Program text) range kept = cc
kept-first (Aggmap text) range kept = cc

-- ---- latest bodies

-- each latest body behind these commits
abbrev pub KeptBodies : List Def → List (List Change) → Type 0
KeptBodies definitions history = (object : ℕ) → IfSome (object_in (kept_kinds definitions) object) (λ kind. IsKeptOf kind (latest_body (bodies_of definitions) history object))

pub first-kept : (definitions : List Def) → IsStored (Definitions definitions) → KeptBodies definitions []
first-kept definitions stored object =
    for-kept (λ kind. IsKeptOf kind (first_of definitions object)) definitions object (λ def there kept.
    let range = (all-at IsDefinition definitions object def stored.spelling.1 there).1 in
    subst (IsKeptOf def.kind) (sym (ap (λ (found : Option Def). unwrap_or (option_and_then (λ (one : Def). first_body one.kind) found) (Set [])) there)) (kept-first def.kind range kept))

pub committed-kept : (definitions : List Def) (history : List (List Change)) (commit : List Change) → KeptBodies definitions history → ((object : ℕ) (c : Change) → change_of (bodies_of definitions) object commit ≡ Some c → (c.object ≡ object) × (fits_latest definitions history c ≡ true) × IsPatch c.patch) → KeptBodies definitions (history ++ commit ∷ [])
committed-kept definitions history commit kept each object = by_change (change_of (bodies_of definitions) object commit) refl
  where
    Kept : Body → Type 0
    Kept body = IfSome (object_in (kept_kinds definitions) object) (λ kind. IsKeptOf kind body)

    by_change : (found : Option Change) → change_of (bodies_of definitions) object commit ≡ found → Kept (latest_body (bodies_of definitions) (history ++ commit ∷ []) object)
    by_change None is = subst Kept (sym (latest_body-unchanged (bodies_of definitions) history commit object is)) (kept object)
    by_change (Some c) is =
        let own = each object c is in
        let latest = latest_body (bodies_of definitions) history object in
        subst Kept (sym (latest_body-changed (bodies_of definitions) history commit object c is))
        (if-and (λ kind. IsKeptOf kind latest) (λ kind. IsKeptOf kind (applied latest c.patch)) (object_in (kept_kinds definitions) object) (λ kind there it.
        let def = kept-here definitions object kind there in
        let fit : fits c.patch kind latest ≡ true =
        sym (ap (λ (at : ℕ). fits_definition (slice_get definitions at) (latest_body (bodies_of definitions) history at) c) own.0 ∙ ap (λ (found : Option Def). fits_definition found latest c) def.there ∙ ap (λ (k : DefKind). fits c.patch k latest) def.kind_is) ∙ own.1 in
        kept-applied kind latest c.patch it fit own.2) (kept object))

pub stored-kept : (definitions : List Def) (records : List Decoded) (history : List (List Change)) → AreRecords records → are_commits_after definitions history records ≡ true → KeptBodies definitions history → KeptBodies definitions (history ++ commits_of records)
stored-kept definitions [] history are can kept = subst (KeptBodies definitions) (sym (append-nil history)) kept
stored-kept definitions (Definitions others ∷ records) history are can kept = cc
stored-kept definitions (Commit changes ∷ records) history are can kept =
    let parts = and_parts (list_all (fits_latest definitions history) changes) (are_commits_after definitions (history ++ changes ∷ []) records) can in
    subst (KeptBodies definitions) (append_assoc history (changes ∷ []) (commits_of records))
    (stored-kept definitions records (history ++ changes ∷ []) are.1 parts.1 (committed-kept definitions history changes kept (λ object c is.
    let found = found-all (λ (c : Change). c.object == object) (fits_latest definitions history) IsChange changes c is parts.0 are.0.spelling.3 in
    (eqb-true c.object object found.0, found.1, found.2.1))))
