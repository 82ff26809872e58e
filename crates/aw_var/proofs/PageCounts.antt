-- How many pages the cells of some sheets are on: as many as there are sheets.
use Rattle.std.proofs.Common.{◌≡◌, ℕ, ◌+◌, ◌-◌, ◌*◌, ◌/◌, ◌%◌, ◌<◌, ◌≤◌, Bool, true, false, cond, not, ◌&&◌, ◌||◌, ◌==◌, List, [], ◌∷◌, ◌++◌, length, replicate, slice_set, Option, Some, None, refl, sym, ap, subst, ◌∙◌, arith, Less, Equal, Greater}
use Rattle.std.specs.List.{list_all, list_any, AllByRecursion}
use Rattle.std.specs.List.Sorted.{IsStrictlySortedBy}
use Rattle.std.specs.Prelude.{nat_le}
use Rattle.std.specs.Map.{keys_of}
use Rattle.std.specs.Option.{is_some}
use Rattle.std.specs.BTreeMap.{is_at}
use Rattle.std.specs.Ordering.{nat_cmp, is_eq, is_lt, eq_by_cmp}
use Rattle.std.specs.Cmp.{nat_cmp_total, alike_right, eq_by_cmp_equiv}
use Rattle.std.specs.FinMap.{find, put, is_sorted}
use Rattle.std.specs.FinMap.Entries.{where_key, below_all, find-put, find-where_key, is_sorted-put, is_sorted-where_key, length-put, length_without}
use Rattle.std.proofs.lemmas.Bool.Decides.{Decides-eqb}
use Rattle.aw_cell.specs.declared.cell.Cell.{Cell}
use Rattle.aw_cell.specs.declared.cell.Cell.TheVariants.{Na}
use Rattle.aw_cell.specs.declared.cell.Kind.{Kind}
use Rattle.aw_page.specs.Fitting.{is_na, is_of_kind}
use Rattle.aw_var.specs.inside.NumberedMap.{set_of}
use Rattle.aw_var.specs.inside.Sheets.{SheetCells, Sheets, numbered, all_numbered, number_pages, AreSheets, sheet_at, sheet_with, PutsCell}
use Rattle.aw_var.proofs.callers.FiniteMaps.{both_true, to_T, from_T, turned}
use Rattle.aw_var.proofs.Numbers.{from_on, le_of}
use Rattle.aw_var.proofs.Sheets.{EachSheet, EachSheet-AreSheets, all_numbered-from, is_sorted_of, lookup-find}
use Rattle.aw_var.specs.inside.NumberedMap.{NumberedMap}
use Rattle.aw_var.proofs.Puts.{AreSheets-put, all_numbered-put, shown, with-is, with-none, used-set, present, list_all-set}

not_on : (n page : ℕ) → 64 * (page + 1) ≤ n → (n / 64 == page) ≡ false
not_on n page h = elim (n / 64 == page) as (λ b. (n / 64 == page) ≡ b → b ≡ false) [
  | true ↦ λ e. let same : n / 64 ≡ page = (Decides-eqb (n / 64) page).0 e in absurd (omega arith)
  | false ↦ λ _. refl
] refl

none_on : (page : ℕ) (rest : List (ℕ × Cell)) → from_on (64 * (page + 1)) rest ≡ true → list_any (λ other. other.0 / 64 == page) rest ≡ false
none_on page [] from = refl
none_on page (e ∷ es) from =
    let parts = both_true (nat_le (64 * (page + 1)) e.0) (from_on (64 * (page + 1)) es) from in
    (λ i. not_on e.0 page (le_of (64 * (page + 1)) e.0 parts.0) i || none_on page es parts.1 i)

any_on : (page from : ℕ) (cells : List Cell) (rest : List (ℕ × Cell)) → 64 * page ≤ from → from + length cells ≤ 64 * (page + 1) → from_on (64 * (page + 1)) rest ≡ true →
    list_any (λ other. other.0 / 64 == page) (numbered from cells ++ rest) ≡ not (list_all is_na cells)
any_on page from [] rest low high later = none_on page rest later
any_on page from (c ∷ cs) rest low high later =
    let more = any_on page (from + 1) cs rest (omega arith) (omega arith) later in
    let here : (from / 64 == page) ≡ true = (Decides-eqb (from / 64) page).1 (omega arith) in
    elim (is_na c) as (λ b. list_any (λ (other : ℕ × Cell). other.0 / 64 == page) (cond b (numbered (from + 1) cs) ((from, c) ∷ numbered (from + 1) cs) ++ rest) ≡ not (b && list_all is_na cs)) [
      | true ↦ more
      | false ↦ ap (λ b. b || list_any (λ (other : ℕ × Cell). other.0 / 64 == page) (numbered (from + 1) cs ++ rest)) here
    ]

one_page : (b : Bool) (n : ℕ) → cond (not b) 0 1 + (cond b 0 1 + n) ≡ 1 + n
one_page true n = omega arith
one_page false n = omega arith

pages-numbered : (page from : ℕ) (cells : List Cell) (rest : List (ℕ × Cell)) → 64 * page ≤ from → from + length cells ≤ 64 * (page + 1) → from_on (64 * (page + 1)) rest ≡ true →
    number_pages (numbered from cells ++ rest) ≡ cond (list_all is_na cells) 0 1 + number_pages rest
pages-numbered page from [] rest low high later = omega arith
pages-numbered page from (c ∷ cs) rest low high later =
    let more = pages-numbered page (from + 1) cs rest (omega arith) (omega arith) later in
    let same : from / 64 ≡ page = omega arith in
    elim (is_na c) as (λ b. number_pages (cond b (numbered (from + 1) cs) ((from, c) ∷ numbered (from + 1) cs) ++ rest) ≡ cond (b && list_all is_na cs) 0 1 + number_pages rest) [
      | true ↦ more
      | false ↦
          ap (λ p. cond (list_any (λ (other : ℕ × Cell). other.0 / 64 == p) (numbered (from + 1) cs ++ rest)) 0 1 + number_pages (numbered (from + 1) cs ++ rest)) same
          ∙ (λ i. cond (any_on page (from + 1) cs rest (omega arith) (omega arith) later i) 0 1 + more i)
          ∙ one_page (list_all is_na cs) (number_pages rest)
    ]

pages-all : (kind : Kind) (es : Sheets) → is_sorted nat_cmp es ≡ true → EachSheet kind es → number_pages (all_numbered es) ≡ length es
pages-all kind [] sorted each = refl
pages-all kind (e ∷ es) sorted each =
    let parts = both_true (below_all nat_cmp e.0 es) (is_sorted nat_cmp es) sorted in
    let size : length e.1.1 ≡ 64 = each.0.size in
    pages-numbered e.0 (64 * e.0) e.1.1 (all_numbered es) (omega arith) (omega arith) (all_numbered-from kind e.0 es parts.0)
    ∙ (λ i. cond (each.0.used i) 0 1 + pages-all kind es parts.1 each.1 i) ∙ omega arith

pub pages-sheets : (kind : Kind) (es : Sheets) → AreSheets kind es → number_pages (all_numbered es) ≡ length es
pages-sheets kind es h = pages-all kind es (is_sorted_of es h.ordered) (EachSheet-AreSheets kind es h)

below_to : {X : Type 0} (k : ℕ) (es : List (ℕ × X)) → below_all nat_cmp k es ≡ true → AllByRecursion (λ y. nat_cmp k y ≡ Less) (keys_of es)
below_to k [] h = tt
below_to k (e ∷ es) h =
    let parts = both_true (is_lt (nat_cmp k e.0)) (below_all nat_cmp k es) h in
    (elim (nat_cmp k e.0) as (λ r. is_lt r ≡ true → r ≡ Less) [ Less ↦ λ _. refl | Equal ↦ λ n. cc | Greater ↦ λ n. cc ] parts.0, below_to k es parts.1)

sorted_to : {X : Type 0} (es : List (ℕ × X)) → is_sorted nat_cmp es ≡ true → IsStrictlySortedBy nat_cmp (keys_of es)
unfolding IsStrictlySortedBy
sorted_to [] h = tt
sorted_to (e ∷ es) h = let parts = both_true (below_all nat_cmp e.0 es) (is_sorted nat_cmp es) h in (below_to e.0 es parts.0, sorted_to es parts.1)

-- the sheets after one cell is put
abbrev next_sheets : SheetCells → ℕ → Sheets → Sheets
next_sheets sheet page es = cond (list_all is_na sheet.1) (where_key nat_cmp (λ k. not (eq_by_cmp nat_cmp page k)) es) (put nat_cmp page sheet es)

sheets-without : (page other : ℕ) (es : Sheets) → sheet_at (where_key nat_cmp (λ k. not (eq_by_cmp nat_cmp page k)) es) other ≡ cond (is_at (nat_cmp page) other) None (sheet_at es other)
sheets-without page other es =
    lookup-find other (where_key nat_cmp (λ k. not (eq_by_cmp nat_cmp page k)) es)
    ∙ find-where_key nat_cmp (λ k. not (eq_by_cmp nat_cmp page k)) other (λ x t. ap (λ r. not (is_eq r)) (sym (alike_right nat_cmp_total other x page t))) es
    ∙ turned (eq_by_cmp nat_cmp page other) (find nat_cmp other es) None
    ∙ ap (λ r. cond (is_at (nat_cmp page) other) None r) (sym (lookup-find other es))

sheets-put : (page other : ℕ) (sheet : SheetCells) (es : Sheets) → sheet_at (put nat_cmp page sheet es) other ≡ cond (is_at (nat_cmp page) other) (Some sheet) (sheet_at es other)
sheets-put page other sheet es =
    lookup-find other (put nat_cmp page sheet es) ∙ find-put nat_cmp nat_cmp_total other page sheet es
    ∙ ap (λ b. cond b (Some sheet) (find nat_cmp other es)) ((eq_by_cmp_equiv nat_cmp_total).symm other page)
    ∙ ap (λ r. cond (is_at (nat_cmp page) other) (Some sheet) r) (sym (lookup-find other es))

PutsCell-next : (kind : Kind) (es : Sheets) (page place : ℕ) (cell : Cell) → AreSheets kind es →
    PutsCell kind es (next_sheets (sheet_with kind es page place cell) page es) page place cell
PutsCell-next kind es page place cell h =
    let sheet = sheet_with kind es page place cell in
    let sorted = is_sorted_of es h.ordered in
    elim (list_all is_na sheet.1) as (λ b. list_all is_na sheet.1 ≡ b → PutsCell kind es (cond b (where_key nat_cmp (λ k. not (eq_by_cmp nat_cmp page k)) es) (put nat_cmp page sheet es)) page place cell) [
      | true ↦ λ e. record {
        ordered = sorted_to (where_key nat_cmp (λ k. not (eq_by_cmp nat_cmp page k)) es) (from_T _ (is_sorted-where_key nat_cmp (λ k. not (eq_by_cmp nat_cmp page k)) es (to_T _ sorted)));
        sheets = λ other. sheets-without page other es ∙ ap (λ x. cond (is_at (nat_cmp page) other) x (sheet_at es other)) (ap (λ b. cond b None (Some sheet)) (sym e));
      }
      | false ↦ λ e. record {
        ordered = sorted_to (put nat_cmp page sheet es) (from_T _ (is_sorted-put nat_cmp nat_cmp_total page sheet es (to_T _ sorted)));
        sheets = λ other. sheets-put page other sheet es ∙ ap (λ x. cond (is_at (nat_cmp page) other) x (sheet_at es other)) (ap (λ b. cond b None (Some sheet)) (sym e));
      }
    ] refl

fewer : (b : Bool) (n m : ℕ) → cond b 1 0 + n ≡ m → n ≡ m - cond b 1 0
fewer true n m h = omega arith
fewer false n m h = omega arith

length-next : (es : Sheets) (page : ℕ) (sheet : SheetCells) → is_sorted nat_cmp es ≡ true →
    length (next_sheets sheet page es) ≡ cond (list_all is_na sheet.1) (length es - cond (is_some (sheet_at es page)) 1 0) (cond (is_some (sheet_at es page)) (length es) (length es + 1))
length-next es page sheet sorted =
    elim (list_all is_na sheet.1) as (λ b. length (cond b (where_key nat_cmp (λ k. not (eq_by_cmp nat_cmp page k)) es) (put nat_cmp page sheet es))
    ≡ cond b (length es - cond (is_some (sheet_at es page)) 1 0) (cond (is_some (sheet_at es page)) (length es) (length es + 1))) [
      | true ↦ fewer (is_some (find nat_cmp page es)) (length (where_key nat_cmp (λ k. not (eq_by_cmp nat_cmp page k)) es)) (length es) (length_without nat_cmp nat_cmp_total page es (to_T _ sorted))
          ∙ ap (λ (x : Option SheetCells). length es - cond (is_some x) 1 0) (sym (lookup-find page es))
      | false ↦ length-put nat_cmp nat_cmp_total page sheet es (to_T _ sorted)
          ∙ ap (λ (x : Option SheetCells). cond (is_some x) (length es) (length es + 1)) (sym (lookup-find page es))
    ]

-- how many pages there are after one cell is put
pub pages-with : (kind : Kind) (es : Sheets) (n : ℕ) (cell : Cell) → AreSheets kind es → is_of_kind kind cell ≡ true →
    number_pages (set_of (all_numbered es) n cell) ≡
    cond (list_all is_na (sheet_with kind es (n / 64) (n % 64) cell).1) (length es - cond (is_some (sheet_at es (n / 64))) 1 0) (cond (is_some (sheet_at es (n / 64))) (length es) (length es + 1))
pages-with kind es n cell h fits =
    let sheet = sheet_with kind es (n / 64) (n % 64) cell in
    let puts = PutsCell-next kind es (n / 64) (n % 64) cell h in
    ap number_pages (sym (all_numbered-put kind es (next_sheets sheet (n / 64) es) n cell h fits puts))
    ∙ pages-sheets kind (next_sheets sheet (n / 64) es) (AreSheets-put kind es (next_sheets sheet (n / 64) es) (n / 64) (n % 64) cell h fits puts)
    ∙ length-next es (n / 64) sheet (is_sorted_of es h.ordered)

-- at most one page more
pub pages-bound : (kind : Kind) (es : Sheets) (n : ℕ) (cell : Cell) → AreSheets kind es → is_of_kind kind cell ≡ true → number_pages (set_of (all_numbered es) n cell) ≤ length es + 1
pages-bound kind es n cell h fits =
    let count = length es in
    let bound : (a b : Bool) → cond a (count - cond b 1 0) (cond b count (count + 1)) ≤ count + 1 = λ a b.
    elim a as (λ a. cond a (count - cond b 1 0) (cond b count (count + 1)) ≤ count + 1) [
      | true ↦ omega arith
      | false ↦ elim b as (λ b. cond b count (count + 1) ≤ count + 1) [ true ↦ omega arith | false ↦ omega arith ]
    ] in
    subst (λ x. x ≤ count + 1) (sym (pages-with kind es n cell h fits)) (bound (list_all is_na (sheet_with kind es (n / 64) (n % 64) cell).1) (is_some (sheet_at es (n / 64))))

pages-is : (kind : Kind) (es : Sheets) (n : ℕ) (cell : Cell) (now : NumberedMap) → AreSheets kind es → shown kind es ≡ now → is_of_kind now.kind cell ≡ true →
    (blank_now there : Bool) → list_all is_na (sheet_with kind es (n / 64) (n % 64) cell).1 ≡ blank_now → is_some (sheet_at es (n / 64)) ≡ there →
    cond blank_now (length es - cond there 1 0) (cond there (length es) (length es + 1)) ≡ number_pages (set_of now.cells n cell)
pages-is kind es n cell now h is fits blank_now there e f =
    let fitting : is_of_kind kind cell ≡ true = ap (λ (m : NumberedMap). is_of_kind m.kind cell) is ∙ fits in
    (λ i. cond (sym e i) (length es - cond (sym f i) 1 0) (cond (sym f i) (length es) (length es + 1)))
    ∙ sym (pages-with kind es n cell h fitting) ∙ ap (λ (m : NumberedMap). number_pages (set_of m.cells n cell)) is

-- the last cell of a sheet is taken away
pub pages-blank : (kind : Kind) (es : Sheets) (n : ℕ) (cell : Cell) (now : NumberedMap) (sheet : SheetCells) → AreSheets kind es → shown kind es ≡ now → is_of_kind now.kind cell ≡ true →
    Some sheet ≡ sheet_at es (n / 64) → cell ≡ Na → list_all is_na (slice_set sheet.1 (n % 64) Na) ≡ true → length es - 1 ≡ number_pages (set_of now.cells n cell)
pages-blank kind es n cell now sheet h is fits at na blank_now =
    pages-is kind es n cell now h is fits true true
    (ap (λ (s : SheetCells). list_all is_na s.1) (with-is kind es (n / 64) (n % 64) cell sheet at) ∙ ap (λ x. list_all is_na (slice_set sheet.1 (n % 64) x)) na ∙ blank_now)
    (ap (λ (x : Option SheetCells). is_some x) (sym at))

-- a sheet keeps some cell
pub pages-kept : (kind : Kind) (es : Sheets) (n : ℕ) (cell : Cell) (now : NumberedMap) (sheet : SheetCells) → AreSheets kind es → shown kind es ≡ now → is_of_kind now.kind cell ≡ true →
    Some sheet ≡ sheet_at es (n / 64) → list_all is_na (slice_set sheet.1 (n % 64) cell) ≡ false → length es ≡ number_pages (set_of now.cells n cell)
pages-kept kind es n cell now sheet h is fits at used =
    pages-is kind es n cell now h is fits false true
    (ap (λ (s : SheetCells). list_all is_na s.1) (with-is kind es (n / 64) (n % 64) cell sheet at) ∙ used)
    (ap (λ (x : Option SheetCells). is_some x) (sym at))

pub pages-used : (kind : Kind) (es : Sheets) (n : ℕ) (cell : Cell) (now : NumberedMap) (sheet : SheetCells) → AreSheets kind es → shown kind es ≡ now → is_of_kind now.kind cell ≡ true →
    Some sheet ≡ sheet_at es (n / 64) → (cell ≡ Na → ⊥) → length es ≡ number_pages (set_of now.cells n cell)
pages-used kind es n cell now sheet h is fits at some =
    let size : length sheet.1 ≡ 64 = (h.each (n / 64) sheet (sym at)).size in
    pages-kept kind es n cell now sheet h is fits at (used-set sheet.1 (n % 64) cell (omega arith) (present cell some))

pub pages-none : (kind : Kind) (es : Sheets) (n : ℕ) (cell : Cell) (now : NumberedMap) → AreSheets kind es → shown kind es ≡ now → is_of_kind now.kind cell ≡ true →
    None ≡ sheet_at es (n / 64) → cell ≡ Na → length es ≡ number_pages (set_of now.cells n cell)
pages-none kind es n cell now h is fits at na =
    let whole : length es ≡ length es - 0 = omega arith in
    whole ∙ pages-is kind es n cell now h is fits true false
    (ap (λ (s : SheetCells). list_all is_na s.1) (with-none kind es (n / 64) (n % 64) cell at) ∙ ap (λ x. list_all is_na (slice_set (replicate 64 Na) (n % 64) x)) na ∙ list_all-set is_na (replicate 64 Na) (n % 64) Na refl refl)
    (ap (λ (x : Option SheetCells). is_some x) (sym at))

pub pages-new : (kind : Kind) (es : Sheets) (n : ℕ) (cell : Cell) (now : NumberedMap) → AreSheets kind es → shown kind es ≡ now → is_of_kind now.kind cell ≡ true →
    None ≡ sheet_at es (n / 64) → (cell ≡ Na → ⊥) → length es + 1 ≡ number_pages (set_of now.cells n cell)
pages-new kind es n cell now h is fits at some =
    pages-is kind es n cell now h is fits false false
    (ap (λ (s : SheetCells). list_all is_na s.1) (with-none kind es (n / 64) (n % 64) cell at) ∙ used-set (replicate 64 Na) (n % 64) cell (omega arith) (present cell some))
    (ap (λ (x : Option SheetCells). is_some x) (sym at))

pub pages-most : (kind : Kind) (es : Sheets) (n : ℕ) (cell : Cell) (now : NumberedMap) → AreSheets kind es → shown kind es ≡ now → is_of_kind now.kind cell ≡ true →
    number_pages (set_of now.cells n cell) ≤ length es + 1
pages-most kind es n cell now h is fits =
    let fitting : is_of_kind kind cell ≡ true = ap (λ (m : NumberedMap). is_of_kind m.kind cell) is ∙ fits in
    subst (λ (m : NumberedMap). number_pages (set_of m.cells n cell) ≤ length es + 1) is (pages-bound kind es n cell h fitting)

no_pages : (kind : Kind) (es : Sheets) → AreSheets kind es → all_numbered es ≡ [] → length es ≡ 0
no_pages kind es h e = sym (pages-sheets kind es h) ∙ ap number_pages e

no_length : (es : Sheets) → length es ≡ 0 → es ≡ []
no_length [] e = refl
no_length (x ∷ es) e = absurd (omega arith)

pub no_cells : (kind : Kind) (es : Sheets) (now : NumberedMap) (r : Bool) → AreSheets kind es → shown kind es ≡ now → (r ≡ true → length es ≡ 0) × (length es ≡ 0 → r ≡ true) → (r ≡ true → now.cells ≡ []) × (now.cells ≡ [] → r ≡ true)
no_cells kind es now r h is tells = (
  λ t. ap (λ (m : NumberedMap). m.cells) (sym is) ∙ ap all_numbered (no_length es (tells.0 t)),
  λ none. tells.1 (no_pages kind es h (ap (λ (m : NumberedMap). m.cells) is ∙ none)),
)

pub not_more : (most n count : ℕ) → count < most → n ≤ count + 1 → (nat_le most count ≡ true → most < n) × (most < n → nat_le most count ≡ true)
not_more most n count few h = (λ e. let le : most ≤ count = le_of most count e in absurd (omega arith), λ more. absurd (omega arith))
