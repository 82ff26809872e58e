-- How many cells there are after one is changed.
use Rattle.std.proofs.Common.{◌≡◌, ℕ, suc, ◌+◌, ◌*◌, ◌/◌, ◌%◌, ◌≤◌, Bool, true, false, cond, not, List, [], ◌∷◌, length, Some, is_some, unwrap_or, refl, sym, ap, ◌∙◌, arith, length-append}
use Rattle.std.specs.List.{list_all}
use Rattle.std.specs.Ordering.{nat_cmp, is_eq, eq_by_cmp}
use Rattle.std.specs.Cmp.{nat_cmp_total}
use Rattle.std.specs.FinMap.{find, put}
use Rattle.std.specs.FinMap.Entries.{where_key, length-put, length_without}
use Rattle.aw_cell.specs.declared.cell.Cell.{Cell}
use Rattle.aw_cell.specs.declared.cell.Cell.TheVariants.{Na}
use Rattle.aw_cell.specs.declared.cell.Kind.{Kind}
use Rattle.aw_page.specs.Fitting.{is_na, is_of_kind}
use Rattle.aw_var.specs.CellMap.{IsMapBy}
use Rattle.aw_var.specs.inside.NumberedMap.{cell_of, set_of}
use Rattle.aw_var.specs.inside.Sheets.{Sheets, numbered, all_numbered, AreCounted, PutsCell, sheet_at, weight}
use Rattle.aw_var.specs.inside.Differences.{cell_on}
use Rattle.aw_var.proofs.callers.FiniteMaps.{both_true, to_T}
use Rattle.aw_var.proofs.Sheets.{EachSheet, EachSheet-AreSheets, IsMapBy-all, cell_of-all}
use Rattle.aw_var.proofs.Puts.{all_numbered-put, AreSheets-put}

-- a cell that was found counts one
weight-found : (q : ℕ) (es : List (ℕ × Cell)) → list_all (λ pair. not (is_na pair.1)) es ≡ true → weight (cell_of es q) ≡ cond (is_some (find nat_cmp q es)) 1 0
weight-found q [] present = refl
weight-found q (e ∷ es) present =
    let parts = both_true (not (is_na e.1)) (list_all (λ pair. not (is_na pair.1)) es) present in
    elim (is_eq (nat_cmp q e.0)) as (λ b. weight (unwrap_or (cond b (Some e.1) (find nat_cmp q es)) Na) ≡ cond (is_some (cond b (Some e.1) (find nat_cmp q es))) 1 0) [
      | true ↦ counts (is_na e.1) parts.0
      | false ↦ weight-found q es parts.1
    ]
  where
    counts : (b : Bool) → not b ≡ true → ◌≡◌ {A = ℕ} (cond b 0 1) 1
    counts true h = cc
    counts false h = refl

-- a cell that is changed
pub length-set : (q : ℕ) (c : Cell) (es : List (ℕ × Cell)) → IsMapBy nat_cmp es → length (set_of es q c) + weight (cell_of es q) ≡ length es + weight c
length-set q c es h =
    let found = weight-found q es h.present in
    elim (is_na c) as (λ b. length (cond b (where_key nat_cmp (λ other. not (eq_by_cmp nat_cmp q other)) es) (put nat_cmp q c es)) + weight (cell_of es q) ≡ length es + cond b 0 1) [
      | true ↦ let less = length_without nat_cmp nat_cmp_total q es (to_T _ h.rising) in omega (arith, less, found)
      | false ↦ ap (λ n. n + weight (cell_of es q)) (length-put nat_cmp nat_cmp_total q c es (to_T _ h.rising)) ∙ ap (λ n. cond (is_some (find nat_cmp q es)) (length es) (length es + 1) + n) found ∙ one (is_some (find nat_cmp q es)) (length es)
    ]
  where
    one : (b : Bool) (n : ℕ) → cond b n (n + 1) + cond b 1 0 ≡ n + 1
    one true n = refl
    one false n = omega arith

-- the cell that is changed is among those that are there
pub weight-most : (q : ℕ) (es : List (ℕ × Cell)) → IsMapBy nat_cmp es → weight (cell_of es q) ≤ length es
weight-most q es h =
    let less = length_without nat_cmp nat_cmp_total q es (to_T _ h.rising) in
    let found = weight-found q es h.present in omega (arith, less, found)

length-numbered : (from : ℕ) (cells : List Cell) → length (numbered from cells) ≤ length cells
length-numbered from [] = omega arith
length-numbered from (c ∷ cs) =
    let rest = length-numbered (from + 1) cs in
    elim (is_na c) as (λ b. length (cond b (numbered (from + 1) cs) ((from, c) ∷ numbered (from + 1) cs)) ≤ suc (length cs)) [
      | true ↦ omega (arith, rest)
      | false ↦ omega (arith, rest)
    ]

few_cells : (kind : Kind) (es : Sheets) → EachSheet kind es → length (all_numbered es) ≤ 64 * length es
few_cells kind [] each = omega arith
few_cells kind (e ∷ es) each =
    let here = length-numbered (64 * e.0) e.1.1 in
    let rest = few_cells kind es each.1 in
    omega (arith, here, rest, each.0.size, length-append (numbered (64 * e.0) e.1.1) (all_numbered es))

-- at most 64 cells a page
pub count_most : (kind : Kind) (es : Sheets) (count pages : ℕ) → AreCounted kind es count → pages ≡ length es → count ≤ 64 * pages
count_most kind es count pages h len =
    let few = few_cells kind es (EachSheet-AreSheets kind es h.sheets) in omega (arith, few, h.count, len)

pub before_most : (kind : Kind) (es : Sheets) (count n : ℕ) (before : Cell) → AreCounted kind es count → before ≡ cell_on (sheet_at es (n / 64)) (n % 64) → weight before ≤ count
before_most kind es count n before h is =
    let most = weight-most n (all_numbered es) (IsMapBy-all kind es h.sheets) in
    let same : weight before ≡ weight (cell_of (all_numbered es) n) = ap weight (is ∙ sym (cell_of-all kind n es h.sheets)) in
    omega (arith, most, same, h.count)

-- so the new count is right
pub AreCounted-put : (kind : Kind) (old new : Sheets) (count count' n : ℕ) (before cell : Cell) → AreCounted kind old count → is_of_kind kind cell ≡ true → PutsCell kind old new (n / 64) (n % 64) cell →
    before ≡ cell_on (sheet_at old (n / 64)) (n % 64) → count' + weight before ≡ count + weight cell → AreCounted kind new count'
AreCounted-put kind old new count count' n before cell h fits puts is counts =
    let same : weight before ≡ weight (cell_of (all_numbered old) n) = ap weight (is ∙ sym (cell_of-all kind n old h.sheets)) in
    let after : length (all_numbered new) ≡ length (set_of (all_numbered old) n cell) = ap (λ (l : List (ℕ × Cell)). length l) (all_numbered-put kind old new n cell h.sheets fits puts) in
    let set = length-set n cell (all_numbered old) (IsMapBy-all kind old h.sheets) in
    record { sheets = AreSheets-put kind old new (n / 64) (n % 64) cell h.sheets fits puts; count = omega (arith, same, after, set, counts, h.count) }
