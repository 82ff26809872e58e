-- A cell that is set to what it is leaves a variable as it is.
use Rattle.std.specs.Prelude.{ℕ, ◌≡◌, ◌==◌, ◌&&◌, Bool as Truth, true, false, not, cond, IsTrue, T, List, [], ◌∷◌, length, nat_lt, Option, Some, None, unwrap_or}
use Rattle.std.specs.List.{list_all}
use Rattle.std.specs.Ordering.{eq_by_cmp}
use Rattle.std.specs.Cmp.{Equal-is}
use Rattle.std.specs.Cmp.Lexicographic.{nat_list_cmp_total}
use Rattle.std.specs.FinMap.{find, put, nat_cmp-IsAntisymmetric, slice_cmp-IsAntisymmetric}
use Rattle.std.specs.FinMap.Entries.{where_key, find-put, find-where_key, is_sorted-put, is_sorted-where_key, same_entries}
use Rattle.std.specs.declared.cmp.Ordering.TheVariants.{Equal}
use Rattle.std.proofs.Common.{◌∙◌, ap, sym, refl, subst}
use Rattle.std.proofs.lemmas.Bool.{and_parts}
use Rattle.aw_cell.specs.declared.cell.Cell.{Cell}
use Rattle.aw_cell.specs.declared.cell.Cell.TheVariants.{Na}
use Rattle.aw_cell.specs.declared.cell.Kind.{Kind}
use Rattle.aw_page.specs.Fitting.{is_na, is_of_kind}
use Rattle.aw_var.specs.CellMap.{Cells, by_slots, IsCellMap, cell_at, set_at}
use Rattle.aw_var.specs.Variable.{Contents, IsVariable, is_pair_of}

abbrev Pair : Type 0
Pair = List ℕ × Cell

-- ---- what is found in a map

some-is : {A : Type 0} (one other : A) → Some one ≡ Some other → one ≡ other
some-is one other e = cc

abbrev Passes : (Pair → Truth) → Cell → Type 0
Passes test cell = (key : List ℕ) × (test (key, cell) ≡ true)

passes-step : (test : Pair → Truth) (pair : Pair) (later : Option Cell) (cell : Cell) (tied : Truth) → test pair ≡ true → (later ≡ Some cell → Passes test cell) → cond tied (Some pair.1) later ≡ Some cell → Passes test cell
passes-step test pair later cell true here rest is = (pair.0, subst (λ (x : Cell). test (pair.0, x) ≡ true) (some-is pair.1 cell is) here)
passes-step test pair later cell false here rest is = rest is

found-passes : (test : Pair → Truth) (cells : Cells) (key : List ℕ) (cell : Cell) → list_all test cells ≡ true → find by_slots key cells ≡ Some cell → Passes test cell
found-passes test [] key cell all is = cc
found-passes test (pair ∷ cells) key cell all is =
    let parts = and_parts (test pair) (list_all test cells) all in
    passes-step test pair (find by_slots key cells) cell (eq_by_cmp by_slots key pair.0) parts.0 (found-passes test cells key cell parts.1) is

kind-found : (slots : ℕ) (kind : Kind) (cells : Cells) (key : List ℕ) (found : Option Cell) → IsTrue (list_all (is_pair_of slots kind) cells) → find by_slots key cells ≡ found → is_of_kind kind (unwrap_or found Na) ≡ true
kind-found slots kind cells key None all is = refl
kind-found slots kind cells key (Some cell) all is =
    let one = found-passes (is_pair_of slots kind) cells key cell all is in
    (and_parts ((length one.0 == slots) && list_all (λ slot. nat_lt slot 65536) one.0) (is_of_kind kind cell) one.1).1

-- what is read of a variable is NA or of its kind
pub cell_at-kind : (contents : Contents) (key : List ℕ) → IsVariable contents → IsTrue (is_of_kind contents.kind (cell_at contents.cells key))
cell_at-kind contents key valid = kind-found contents.slots contents.kind contents.cells key (find by_slots key contents.cells) valid.pairs refl

-- ---- setting

pub same-key : (one other : List ℕ) → by_slots one other ≡ Equal → one ≡ other
same-key = slice_cmp-IsAntisymmetric nat_cmp-IsAntisymmetric

not-false : (b : Truth) → not b ≡ true → b ≡ false
not-false true e = cc
not-false false e = refl

-- a key that isn't there is taken away, and nothing changes
away : (cells : Cells) (key : List ℕ) → IsCellMap cells → find by_slots key cells ≡ None → where_key by_slots (λ other. not (eq_by_cmp by_slots key other)) cells ≡ cells
away cells key map missing =
    let stays : List ℕ → Truth = λ other. not (eq_by_cmp by_slots key other) in
    same_entries by_slots nat_list_cmp_total same-key (where_key by_slots stays cells) cells (is_sorted-where_key by_slots stays cells (subst T (sym map.rising) tt)) (subst T (sym map.rising) tt)
    (λ query. find-where_key by_slots stays query (λ other tied. ap stays (sym (same-key query other tied))) cells ∙ same query (eq_by_cmp by_slots key query) refl)
  where
    same : (query : List ℕ) (tied : Truth) → eq_by_cmp by_slots key query ≡ tied → cond (not (eq_by_cmp by_slots key query)) (find by_slots query cells) None ≡ find by_slots query cells
    same query true is =
        ap (λ b. cond (not b) (find by_slots query cells) None) is
        ∙ sym missing ∙ ap (λ k. find by_slots k cells) (same-key key query ((Equal-is (by_slots key query)).0 is))
    same query false is = ap (λ b. cond (not b) (find by_slots query cells) None) is

-- a cell that is there is put in again, and nothing changes
again : (cells : Cells) (key : List ℕ) (cell : Cell) → IsCellMap cells → find by_slots key cells ≡ Some cell → put by_slots key cell cells ≡ cells
again cells key cell map found =
    same_entries by_slots nat_list_cmp_total same-key (put by_slots key cell cells) cells (is_sorted-put by_slots nat_list_cmp_total key cell cells (subst T (sym map.rising) tt)) (subst T (sym map.rising) tt)
    (λ query. find-put by_slots nat_list_cmp_total query key cell cells ∙ same query (eq_by_cmp by_slots query key) refl)
  where
    same : (query : List ℕ) (tied : Truth) → eq_by_cmp by_slots query key ≡ tied → cond (eq_by_cmp by_slots query key) (Some cell) (find by_slots query cells) ≡ find by_slots query cells
    same query true is =
        ap (λ b. cond b (Some cell) (find by_slots query cells)) is
        ∙ sym found ∙ ap (λ k. find by_slots k cells) (sym (same-key query key ((Equal-is (by_slots query key)).0 is)))
    same query false is = ap (λ b. cond b (Some cell) (find by_slots query cells)) is

set-found : (cells : Cells) (key : List ℕ) (found : Option Cell) → IsCellMap cells → find by_slots key cells ≡ found → set_at cells key (unwrap_or found Na) ≡ cells
set-found cells key None map is = away cells key map is
set-found cells key (Some cell) map is =
    let one = found-passes (λ pair. not (is_na pair.1)) cells key cell map.present is in
    ap (λ b. cond b (where_key by_slots (λ other. not (eq_by_cmp by_slots key other)) cells) (put by_slots key cell cells)) (not-false (is_na cell) one.1) ∙ again cells key cell map is

pub set_at-same : (cells : Cells) (key : List ℕ) → IsCellMap cells → set_at cells key (cell_at cells key) ≡ cells
set_at-same cells key map = set-found cells key (find by_slots key cells) map refl
