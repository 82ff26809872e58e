-- What a commit of a view has fits its objects, so that it is never refused as a stranger's.
use Rattle.std.specs.Prelude.{ℕ, ◌≡◌, ◌==◌, ◌≤◌, ◌&&◌, Bool, true, false, not, cond, nat_eq, List, [], ◌∷◌, map, length, Option, Some, None, MatchOption}
use Rattle.std.specs.List.{list_all}
use Rattle.std.specs.Ordering.{is_lt}
use Rattle.std.specs.Cmp.Lexicographic.{pointwise}
use Rattle.std.specs.FinMap.{put, is_sorted}
use Rattle.std.specs.FinMap.Entries.{by_order, where_key, below_all}
use Rattle.std.specs.declared.cmp.Ordering.TheVariants.{Less, Equal, Greater}
use Rattle.std.proofs.Common.{ap, refl, subst, arith, ne_eqb}
use Rattle.std.proofs.lemmas.Bool.{and_parts, and_from, le-leb}
use Rattle.aw_cell.specs.declared.cell.Cell.{Cell}
use Rattle.aw_cell.specs.declared.cell.Cell.TheVariants.{Na}
use Rattle.aw_cell.specs.declared.cell.Kind.{Kind}
use Rattle.aw_cell.specs.declared.cell.Kind.TheVariants.{Slot}
use Rattle.aw_dim.specs.DimensionState.{DimensionState}
use Rattle.aw_dim.specs.SameValues.{same_values}
use Rattle.aw_schema.specs.declared.definition.DefKind.{DefKind}
use Rattle.aw_schema.specs.declared.definition.DefKind.TheVariants.{Dimension, Relation, Valueset, Variable, Formula, Program, Aggmap}
use Rattle.aw_page.specs.Fitting.{is_na}
use Rattle.aw_var.specs.CellMap.{Cells, by_slots, cell_by}
use Rattle.aw_var.specs.CellPatch as cells
use Rattle.aw_var.specs.Laws.{IsRising}
use Rattle.aw_var.specs.Variable.{Contents}
use Rattle.aw_body.specs.declared.body.Body.{Body}
use Rattle.aw_body.specs.declared.body.Body.TheVariants.{Dim, Rel, Set, Var}
use Rattle.aw_body.specs.declared.patch.BodyPatch.{BodyPatch}
use Rattle.aw_body.specs.declared.patch.BodyPatch.TheVariants.{Values as ValuesPatch, Slots as SlotsPatch, Cells as CellPatch}
use Rattle.aw_body.specs.Bodies.{IsBodyOf}
use Rattle.aw_body.specs.BodyPatches.{difference, some_cells, is_change_of, AreChangesOf}
use Rattle.aw_body.specs.Fitting.{is_recorded, is_recorded_change, rise, rise_from, are_changes, are_distinct, fits}
use Rattle.aw_body.specs.Laws.{DifferenceGivesNewer, MakesNewer}
use Rattle.mv_view.specs.ViewState.{IsOf}
use Rattle.mv_view.specs.Recording.{CanBeRecorded, are_recorded}
use Rattle.mv_view.proofs.callers.Forms.{alike}

-- ---- cells of a difference can be recorded

abbrev Pair : Type 0
Pair = List ℕ × Cell

one-more : (pair : Pair) (pairs : Cells) → is_recorded pair.1 ≡ true → are_recorded pairs ≡ true → are_recorded (pair ∷ pairs) ≡ true
one-more pair pairs one all = and_from (is_recorded pair.1) (are_recorded pairs) one all

recorded-put : (key : List ℕ) (cell : Cell) (pairs : Cells) → is_recorded cell ≡ true → are_recorded pairs ≡ true → are_recorded (put by_slots key cell pairs) ≡ true
recorded-put key cell [] one all = one-more (key, cell) [] one refl
recorded-put key cell (first ∷ pairs) one all =
    let parts = and_parts (is_recorded first.1) (are_recorded pairs) all in
    elim (by_slots key first.0) as (λ order. are_recorded (by_order order ((key, cell) ∷ first ∷ pairs) ((first.0, cell) ∷ pairs) (first ∷ put by_slots key cell pairs)) ≡ true) [
      | Less ↦ one-more (key, cell) (first ∷ pairs) one all
      | Equal ↦ one-more (first.0, cell) pairs one parts.1
      | Greater ↦ one-more first (put by_slots key cell pairs) parts.0 (recorded-put key cell pairs one parts.1)
    ]

recorded-composed : (first second : Cells) → are_recorded first ≡ true → are_recorded second ≡ true → are_recorded (cells.composed first second) ≡ true
recorded-composed first [] all others = all
recorded-composed first (pair ∷ second) all others =
    let parts = and_parts (is_recorded pair.1) (are_recorded second) others in
    recorded-composed (put by_slots pair.0 pair.1 first) second (recorded-put pair.0 pair.1 first parts.0 all) parts.1

recorded-where : (test : List ℕ → Bool) (pairs : Cells) → are_recorded pairs ≡ true → are_recorded (where_key by_slots test pairs) ≡ true
recorded-where test [] all = refl
recorded-where test (pair ∷ pairs) all =
    let parts = and_parts (is_recorded pair.1) (are_recorded pairs) all in
    let rest = recorded-where test pairs parts.1 in
    elim (test pair.0) as (λ b. are_recorded (cond b (pair ∷ where_key by_slots test pairs) (where_key by_slots test pairs)) ≡ true) [
      | true ↦ one-more pair (where_key by_slots test pairs) parts.0 rest
      | false ↦ rest
    ]

recorded-away : (pairs : Cells) → are_recorded (map (λ (pair : Pair). (pair.0, Na)) pairs) ≡ true
recorded-away [] = refl
recorded-away (pair ∷ pairs) = one-more (pair.0, Na) (map (λ (pair : Pair). (pair.0, Na)) pairs) refl (recorded-away pairs)

recorded-difference : (older newer : Cells) → are_recorded newer ≡ true → are_recorded (cells.difference older newer) ≡ true
recorded-difference older newer all =
    recorded-composed (cells.taken_away_by by_slots older newer) (where_key by_slots (cells.differ_by by_slots older newer) newer) (recorded-away (where_key by_slots (λ key. is_na (cell_by by_slots newer key)) older)) (recorded-where (cells.differ_by by_slots older newer) newer all)

both-pass : (one other : Pair → Bool) (pairs : Cells) → list_all one pairs ≡ true → list_all other pairs ≡ true → list_all (λ pair. one pair && other pair) pairs ≡ true
both-pass one other [] one_all other_all = refl
both-pass one other (pair ∷ pairs) one_all other_all =
    let one_is = and_parts (one pair) (list_all one pairs) one_all in
    let other_is = and_parts (other pair) (list_all other pairs) other_all in
    and_from (one pair && other pair) (list_all (λ pair. one pair && other pair) pairs) (and_from (one pair) (other pair) one_is.0 other_is.0) (both-pass one other pairs one_is.1 other_is.1)

rise-sorted : (key : List ℕ) (pairs : Cells) → below_all by_slots key pairs ≡ true → is_sorted by_slots pairs ≡ true → rise_from key pairs ≡ true
rise-sorted key [] below sorted = refl
rise-sorted key (pair ∷ pairs) below sorted =
    let first = and_parts (is_lt (by_slots key pair.0)) (below_all by_slots key pairs) below in
    let rest = and_parts (below_all by_slots pair.0 pairs) (is_sorted by_slots pairs) sorted in
    and_from (is_lt (by_slots key pair.0)) (rise_from pair.0 pairs) first.0 (rise-sorted pair.0 pairs rest.0 rest.1)

fitting-changes : (slots : ℕ) (kind : Kind) (contents : Contents) (pair : Pair) (pairs : Cells) → (contents.slots ≡ slots) × (contents.kind ≡ kind) → AreChangesOf contents (pair ∷ pairs) → are_recorded (pair ∷ pairs) ≡ true → IsRising (pair ∷ pairs) → are_changes slots kind (pair ∷ pairs) ≡ true
fitting-changes slots kind contents pair pairs form are recorded rising =
    let changes : Cells = pair ∷ pairs in
    let of_kind : list_all (is_change_of slots kind) changes ≡ true =
    subst (λ (n : ℕ). list_all (is_change_of n kind) changes ≡ true) form.0 (subst (λ (k : Kind). list_all (is_change_of contents.slots k) changes ≡ true) form.1 are) in
    let sorted = and_parts (below_all by_slots pair.0 pairs) (is_sorted by_slots pairs) rising in
    let some : not (length changes == 0) ≡ true = ap not (ne_eqb (length changes) 0 (λ e. absurd (omega arith))) in
    and_from (not (length changes == 0) && list_all (is_recorded_change slots kind) changes) (rise changes)
    (and_from (not (length changes == 0)) (list_all (is_recorded_change slots kind) changes) some (both-pass (is_change_of slots kind) (λ pair. is_recorded pair.1) changes of_kind recorded))
    (rise-sorted pair.0 pairs sorted.0 sorted.1)

-- ---- the patch of a staged body

same-patch : (one other : BodyPatch) → Some one ≡ Some other → one ≡ other
same-patch one other e = cc

fits-values : (same : Bool) (older newer : DimensionState) (patch : BodyPatch) → older.next ≤ newer.next → cond same None (Some (ValuesPatch newer)) ≡ Some patch → fits patch Dimension (Dim older) ≡ true
fits-values true older newer patch least is = cc
fits-values false older newer patch least is =
    subst (λ (p : BodyPatch). fits p Dimension (Dim older) ≡ true) (same-patch (ValuesPatch newer) patch is) (le-leb older.next newer.next least)

fits-slots : (dimension : ℕ) (same : Bool) (base : Body) (newer : List ℕ) (patch : BodyPatch) → are_distinct newer ≡ true → cond same None (Some (SlotsPatch newer)) ≡ Some patch → fits patch (Valueset dimension) base ≡ true
fits-slots dimension true base newer patch distinct is = cc
fits-slots dimension false base newer patch distinct is =
    subst (λ (p : BodyPatch). fits p (Valueset dimension) base ≡ true) (same-patch (SlotsPatch newer) patch is) distinct

some-cells : (found : Cells) (patch : BodyPatch) (P : BodyPatch → Type 0) → ((pair : Pair) (pairs : Cells) → found ≡ pair ∷ pairs → P (CellPatch (pair ∷ pairs))) → some_cells found ≡ Some patch → P patch
some-cells [] patch P holds is = cc
some-cells (pair ∷ pairs) patch P holds is = subst P (same-patch (CellPatch (pair ∷ pairs)) patch is) (holds pair pairs refl)

newer-of : (found : Option BodyPatch) (older newer : Body) (patch : BodyPatch) → MatchOption found (older ≡ newer) (MakesNewer older newer) → found ≡ Some patch → MakesNewer older newer patch
newer-of None older newer patch same is = cc
newer-of (Some one) older newer patch makes is = subst (MakesNewer older newer) (same-patch one patch is) makes

fits-rel : (target base : ℕ) (older newer : Contents) (patch : BodyPatch) → (older.slots ≡ 1) × (older.kind ≡ Slot) → MakesNewer (Rel older) (Rel newer) patch → are_recorded newer.cells ≡ true → some_cells (cells.difference older.cells newer.cells) ≡ Some patch → fits patch (Relation target base) (Rel older) ≡ true
fits-rel target base older newer patch form makes recorded is =
    some-cells (cells.difference older.cells newer.cells) patch (λ (p : BodyPatch). MakesNewer (Rel older) (Rel newer) p → fits p (Relation target base) (Rel older) ≡ true)
    (λ pair pairs found newer_is. fitting-changes 1 Slot older pair pairs form newer_is.fits (subst (λ (those : Cells). are_recorded those ≡ true) found (recorded-difference older.cells newer.cells recorded)) newer_is.form) is makes

fits-var : (kind : Kind) (dimensions : List ℕ) (older newer : Contents) (patch : BodyPatch) → (older.slots ≡ (length dimensions)) × (older.kind ≡ kind) → MakesNewer (Var older) (Var newer) patch → are_recorded newer.cells ≡ true → some_cells (cells.difference older.cells newer.cells) ≡ Some patch → fits patch (Variable kind dimensions) (Var older) ≡ true
fits-var kind dimensions older newer patch form makes recorded is =
    some-cells (cells.difference older.cells newer.cells) patch (λ (p : BodyPatch). MakesNewer (Var older) (Var newer) p → fits p (Variable kind dimensions) (Var older) ≡ true)
    (λ pair pairs found newer_is. fitting-changes (length dimensions) kind older pair pairs form newer_is.fits (subst (λ (those : Cells). are_recorded those ≡ true) found (recorded-difference older.cells newer.cells recorded)) newer_is.form) is makes

fits-forms : (kind : DefKind) (base staged : Body) (patch : BodyPatch) → IsBodyOf kind base → IsBodyOf kind staged → CanBeRecorded base staged → MakesNewer base staged patch → difference base staged ≡ Some patch → fits patch kind base ≡ true
fits-forms Dimension (Dim older) (Dim newer) patch base_is staged_is can makes is = fits-values (same_values older newer) older newer patch can is
fits-forms Dimension (Dim older) (Rel newer) patch base_is staged_is can makes is = absurd staged_is
fits-forms Dimension (Dim older) (Set newer) patch base_is staged_is can makes is = absurd staged_is
fits-forms Dimension (Dim older) (Var newer) patch base_is staged_is can makes is = absurd staged_is
fits-forms Dimension (Rel older) staged patch base_is staged_is can makes is = absurd base_is
fits-forms Dimension (Set older) staged patch base_is staged_is can makes is = absurd base_is
fits-forms Dimension (Var older) staged patch base_is staged_is can makes is = absurd base_is
fits-forms (Relation target of) (Dim older) staged patch base_is staged_is can makes is = absurd base_is
fits-forms (Relation target of) (Rel older) (Dim newer) patch base_is staged_is can makes is = absurd staged_is
fits-forms (Relation target of) (Rel older) (Rel newer) patch base_is staged_is can makes is = fits-rel target of older newer patch base_is makes can is
fits-forms (Relation target of) (Rel older) (Set newer) patch base_is staged_is can makes is = absurd staged_is
fits-forms (Relation target of) (Rel older) (Var newer) patch base_is staged_is can makes is = absurd staged_is
fits-forms (Relation target of) (Set older) staged patch base_is staged_is can makes is = absurd base_is
fits-forms (Relation target of) (Var older) staged patch base_is staged_is can makes is = absurd base_is
fits-forms (Valueset dimension) (Dim older) staged patch base_is staged_is can makes is = absurd base_is
fits-forms (Valueset dimension) (Rel older) staged patch base_is staged_is can makes is = absurd base_is
fits-forms (Valueset dimension) (Set older) (Dim newer) patch base_is staged_is can makes is = absurd staged_is
fits-forms (Valueset dimension) (Set older) (Rel newer) patch base_is staged_is can makes is = absurd staged_is
fits-forms (Valueset dimension) (Set older) (Set newer) patch base_is staged_is can makes is = fits-slots dimension (pointwise nat_eq older newer) (Set older) newer patch can is
fits-forms (Valueset dimension) (Set older) (Var newer) patch base_is staged_is can makes is = absurd staged_is
fits-forms (Valueset dimension) (Var older) staged patch base_is staged_is can makes is = absurd base_is
fits-forms (Variable cell dimensions) (Dim older) staged patch base_is staged_is can makes is = absurd base_is
fits-forms (Variable cell dimensions) (Rel older) staged patch base_is staged_is can makes is = absurd base_is
fits-forms (Variable cell dimensions) (Set older) staged patch base_is staged_is can makes is = absurd base_is
fits-forms (Variable cell dimensions) (Var older) (Dim newer) patch base_is staged_is can makes is = absurd staged_is
fits-forms (Variable cell dimensions) (Var older) (Rel newer) patch base_is staged_is can makes is = absurd staged_is
fits-forms (Variable cell dimensions) (Var older) (Set newer) patch base_is staged_is can makes is = absurd staged_is
fits-forms (Variable cell dimensions) (Var older) (Var newer) patch base_is staged_is can makes is = fits-var cell dimensions older newer patch base_is makes can is
fits-forms (Formula text) (Dim older) staged patch base_is staged_is can makes is = absurd base_is
fits-forms (Formula text) (Rel older) staged patch base_is staged_is can makes is = absurd base_is
fits-forms (Formula text) (Set older) staged patch base_is staged_is can makes is = absurd base_is
fits-forms (Formula text) (Var older) staged patch base_is staged_is can makes is = absurd base_is
fits-forms (Program text) (Dim older) staged patch base_is staged_is can makes is = absurd base_is
fits-forms (Program text) (Rel older) staged patch base_is staged_is can makes is = absurd base_is
fits-forms (Program text) (Set older) staged patch base_is staged_is can makes is = absurd base_is
fits-forms (Program text) (Var older) staged patch base_is staged_is can makes is = absurd base_is
fits-forms (Aggmap text) (Dim older) staged patch base_is staged_is can makes is = absurd base_is
fits-forms (Aggmap text) (Rel older) staged patch base_is staged_is can makes is = absurd base_is
fits-forms (Aggmap text) (Set older) staged patch base_is staged_is can makes is = absurd base_is
fits-forms (Aggmap text) (Var older) staged patch base_is staged_is can makes is = absurd base_is

-- the patch that makes a staged body of the base fits, where the staged body can be recorded
pub fits-staged : DifferenceGivesNewer → (kind : DefKind) (base staged : Body) (patch : BodyPatch) → IsOf kind base → IsOf kind staged → CanBeRecorded base staged → difference base staged ≡ Some patch → fits patch kind base ≡ true
fits-staged law kind base staged patch base_is staged_is can is =
    fits-forms kind base staged patch base_is.form staged_is.form can (newer-of (difference base staged) base staged patch (law base staged base_is.valid staged_is.valid (alike kind base staged base_is.form staged_is.form)) is) is
