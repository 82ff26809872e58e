-- What is read of cells after some are written.
use Rattle.std.specs.Prelude.{ℕ, ◌≡◌, ◌≢◌, Bool as Truth, true, false, not, cond, List, [], ◌∷◌, Option, Some, None, unwrap_or}
use Rattle.std.specs.Option.{option_map, IsSomeAnd}
use Rattle.std.specs.Ordering.{eq_by_cmp}
use Rattle.std.specs.Cmp.{Equal-is, both_ways, tied_itself}
use Rattle.std.specs.Cmp.Lexicographic.{nat_list_cmp_total}
use Rattle.std.specs.FinMap.{find, put}
use Rattle.std.specs.FinMap.Entries.{where_key, find-put, find-where_key}
use Rattle.std.specs.declared.cmp.Ordering.TheVariants.{Equal}
use Rattle.std.proofs.Common.{◌∙◌, ap, sym, refl, subst, arith}
use Rattle.aw_cell.specs.declared.cell.Cell.{Cell}
use Rattle.aw_cell.specs.declared.cell.Cell.TheVariants.{Na, Num, Int, Text, Bool, Slot}
use Rattle.aw_schema.specs.declared.definition.DefKind.{DefKind}
use Rattle.aw_schema.specs.declared.definition.DefKind.TheVariants.{Dimension, Relation, Valueset, Variable, Formula, Program, Aggmap}
use Rattle.aw_page.specs.Fitting.{is_na}
use Rattle.aw_var.specs.CellMap.{Cells, by_slots, cell_at, set_at}
use Rattle.aw_var.specs.CellPatch.{overwritten}
use Rattle.aw_body.specs.declared.body.Body.{Body}
use Rattle.aw_body.specs.declared.body.Body.TheVariants.{Dim, Rel, Set, Var}
use Rattle.aw_body.specs.declared.patch.BodyPatch.TheVariants.{Cells as CellPatch}
use Rattle.aw_body.specs.Bodies.{IsBodyOf}
use Rattle.aw_body.specs.BodyPatches.{applied}
use Rattle.mv_view.specs.Each.{only}
use Rattle.mv_view.specs.ViewState.{ObjectView, ViewState, object_of, AreSeen, IsSeen, AreCellsOf}
use Rattle.mv_view.specs.Rules as rule
use Rattle.mv_view.specs.Laws.{last_at, WritesCells}
use Rattle.mv_view.proofs.callers.Each.{object_in-each, only-itself, only-other}
use Rattle.mv_view.proofs.callers.Committing.{some-seen}
use Rattle.mv_view.proofs.Setting.{same-key}

ties-back : (one other : List ℕ) → eq_by_cmp by_slots one other ≡ true → eq_by_cmp by_slots other one ≡ true
ties-back one other tied =
    (Equal-is (by_slots other one)).1 (subst (λ key. by_slots key one ≡ Equal) (same-key one other ((Equal-is (by_slots one other)).0 tied)) (tied_itself nat_list_cmp_total one))

ties : (one other : List ℕ) → eq_by_cmp by_slots one other ≡ eq_by_cmp by_slots other one
ties one other = both_ways (eq_by_cmp by_slots one other) (eq_by_cmp by_slots other one) (ties-back one other) (ties-back other one)

na-is : (cell : Cell) → is_na cell ≡ true → cell ≡ Na
na-is Na e = refl
na-is (Num a) e = cc
na-is (Int a) e = cc
na-is (Text a) e = cc
na-is (Bool a) e = cc
na-is (Slot a) e = cc

-- ---- one cell

put-read : (tied : Truth) (cell : Cell) (found : Option Cell) → unwrap_or (cond tied (Some cell) found) Na ≡ cond tied cell (unwrap_or found Na)
put-read true cell found = refl
put-read false cell found = refl

away-read : (tied : Truth) (cell : Cell) (found : Option Cell) → cell ≡ Na → unwrap_or (cond (not tied) found None) Na ≡ cond tied cell (unwrap_or found Na)
away-read true cell found na = sym na
away-read false cell found na = refl

set-read : (cells : Cells) (key : List ℕ) (cell : Cell) (query : List ℕ) (na : Truth) → is_na cell ≡ na → cell_at (set_at cells key cell) query ≡ cond (eq_by_cmp by_slots query key) cell (cell_at cells query)
set-read cells key cell query true na =
    let stays : List ℕ → Truth = λ other. not (eq_by_cmp by_slots key other) in
    ap (λ b. cell_at (cond b (where_key by_slots stays cells) (put by_slots key cell cells)) query) na
    ∙ ap (λ (found : Option Cell). unwrap_or found Na) (find-where_key by_slots stays query (λ other tied. ap stays (sym (same-key query other tied))) cells)
    ∙ ap (λ b. unwrap_or (cond (not b) (find by_slots query cells) None) Na) (ties key query)
    ∙ away-read (eq_by_cmp by_slots query key) cell (find by_slots query cells) (na-is cell na)
set-read cells key cell query false na =
    ap (λ b. cell_at (cond b (where_key by_slots (λ other. not (eq_by_cmp by_slots key other)) cells) (put by_slots key cell cells)) query) na
    ∙ ap (λ (found : Option Cell). unwrap_or found Na) (find-put by_slots nat_list_cmp_total query key cell cells)
    ∙ put-read (eq_by_cmp by_slots query key) cell (find by_slots query cells)

-- ---- one cell after another

last-read : (later : Option Cell) (tied : Truth) (cell before : Cell) → unwrap_or later (cond tied cell before) ≡ unwrap_or (elim later [ None ↦ cond tied (Some cell) None | Some last ↦ Some last ]) before
last-read None true cell before = refl
last-read None false cell before = refl
last-read (Some last) tied cell before = refl

pub overwritten-read : (cells patch : Cells) (query : List ℕ) → cell_at (overwritten cells patch) query ≡ unwrap_or (last_at patch query) (cell_at cells query)
overwritten-read cells [] query = refl
overwritten-read cells (pair ∷ patch) query =
    overwritten-read (set_at cells pair.0 pair.1) patch query
    ∙ ap (λ (c : Cell). unwrap_or (last_at patch query) c) (set-read cells pair.0 pair.1 query (is_na pair.1) refl)
    ∙ last-read (last_at patch query) (eq_by_cmp by_slots query pair.0) pair.1 (cell_at cells query)

-- ---- a body

body-read : (kind : DefKind) (body : Body) (cells : Cells) (query : List ℕ) → IsBodyOf kind body → AreCellsOf kind cells → rule.cell_in (applied body (CellPatch cells)) query ≡ unwrap_or (last_at cells query) (rule.cell_in body query)
body-read kind (Rel contents) cells query form are = overwritten-read contents.cells cells query
body-read kind (Var contents) cells query form are = overwritten-read contents.cells cells query
body-read Dimension (Dim values) cells query form are = absurd are
body-read (Relation target base) (Dim values) cells query form are = absurd form
body-read (Valueset dimension) (Dim values) cells query form are = absurd are
body-read (Variable kind dimensions) (Dim values) cells query form are = absurd form
body-read (Formula text) (Dim values) cells query form are = absurd are
body-read (Program text) (Dim values) cells query form are = absurd are
body-read (Aggmap text) (Dim values) cells query form are = absurd are
body-read Dimension (Set slots) cells query form are = absurd are
body-read (Relation target base) (Set slots) cells query form are = absurd form
body-read (Valueset dimension) (Set slots) cells query form are = absurd are
body-read (Variable kind dimensions) (Set slots) cells query form are = absurd form
body-read (Formula text) (Set slots) cells query form are = absurd are
body-read (Program text) (Set slots) cells query form are = absurd are
body-read (Aggmap text) (Set slots) cells query form are = absurd are

pub writes-cells : (view : ViewState) (object : ℕ) (cells : Cells) → AreSeen view.objects → IsSomeAnd (object_of view object) (λ found. AreCellsOf found.kind cells) → WritesCells view object cells
writes-cells view object cells seen are = record {
  private = λ query. some query (object_of view object) refl are;
  others = λ other differ. object_in-each 0 (only object (rule.with_cells cells)) view.objects other other (omega arith) ∙ same other differ (object_of view other);
}
  where
    same : (other : ℕ) → other ≢ object → (found : Option ObjectView) → option_map (only object (rule.with_cells cells) other) found ≡ found
    same other differ None = refl
    same other differ (Some one) = ap (λ (o : ObjectView). Some o) (only-other object other (rule.with_cells cells) one differ)

    some : (query : List ℕ) (found : Option ObjectView) → object_of view object ≡ found → IsSomeAnd found (λ one. AreCellsOf one.kind cells) → rule.private_cell (rule.written view object cells) object query ≡ unwrap_or (last_at cells query) (rule.private_cell view object query)
    some query None is are = absurd are
    some query (Some one) is are =
        let whole = some-seen IsSeen (object_of view object) one is (seen.each object) in
        ap (λ (found : Option ObjectView). rule.cell_of found query) (object_in-each 0 (only object (rule.with_cells cells)) view.objects object object (omega arith) ∙ ap (option_map (only object (rule.with_cells cells) object)) is ∙ ap (λ (o : ObjectView). Some o) (only-itself object object (rule.with_cells cells) one refl))
        ∙ body-read one.kind one.private cells query whole.private.form are
        ∙ ap (λ (found : Option ObjectView). unwrap_or (last_at cells query) (rule.cell_of found query)) (sym is)
