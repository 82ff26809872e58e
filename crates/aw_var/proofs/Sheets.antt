-- What the sheets of a map hold: its cells by their numbers, in order.
use Rattle.std.proofs.Common.{◌≡◌, ℕ, zero, suc, ◌+◌, ◌-◌, ◌*◌, ◌/◌, ◌%◌, ◌<◌, ◌≤◌, true, false, cond, not, List, [], ◌∷◌, length, get_or, Option, Some, None, unwrap_or, refl, sym, ap, ◌∙◌, arith, Less, Equal, Greater}
use Rattle.std.proofs.Math.ListN.{get_or-eq_default}
use Rattle.std.specs.List.{list_all, AllByRecursion}
use Rattle.std.specs.List.Sorted.{IsStrictlySortedBy}
use Rattle.std.specs.Prelude.{nat_lt, nat_le}
use Rattle.std.specs.Map.{keys_of, lookup}
use Rattle.std.specs.BTreeMap.{is_at}
use Rattle.std.specs.Ordering.{nat_cmp, is_eq, is_lt, MatchOrdering}
use Rattle.std.specs.Cmp.{nat_cmp_is, ranked, nat_cmp_total}
use Rattle.std.specs.FinMap.{find, is_sorted, nat_cmp-IsAntisymmetric}
use Rattle.std.specs.FinMap.Entries.{below_all}
use Rattle.std.proofs.lemmas.Bool.Decides.{Decides-ltb}
use Rattle.aw_cell.specs.declared.cell.Cell.{Cell}
use Rattle.aw_cell.specs.declared.cell.Cell.TheVariants.{Na}
use Rattle.aw_cell.specs.declared.cell.Kind.{Kind}
use Rattle.aw_page.specs.Fitting.{is_na}
use Rattle.aw_var.specs.CellMap.{IsMapBy}
use Rattle.aw_var.specs.inside.NumberedMap.{cell_of}
use Rattle.aw_var.specs.inside.Sheets.{SheetCells, Sheets, numbered, all_numbered, IsSheet, AreSheets, sheet_at}
use Rattle.aw_var.specs.inside.Differences.{cell_on}
use Rattle.aw_var.proofs.callers.FiniteMaps.{both_true, and_true, kept, either, unwrap_or-kept, absent, equal_of}
use Rattle.aw_var.proofs.Numbers.{at_same, at_more, to_le, list_all-append, from_on, up_to, find-append, below-from, find-below, is_sorted-append}

pub numbered-from : (least from : ℕ) (cells : List Cell) → least ≤ from → from_on least (numbered from cells) ≡ true
numbered-from least from [] h = refl
numbered-from least from (c ∷ cs) h =
    let rest = numbered-from least (from + 1) cs (omega arith) in
    elim (is_na c) as (λ b. from_on least (cond b (numbered (from + 1) cs) ((from, c) ∷ numbered (from + 1) cs)) ≡ true) [
      | true ↦ rest
      | false ↦ and_true (nat_le least from) (from_on least (numbered (from + 1) cs)) (to_le least from h) rest
    ]

pub numbered-up_to : (end from : ℕ) (cells : List Cell) → from + length cells ≤ end → up_to end (numbered from cells) ≡ true
numbered-up_to end from [] h = refl
numbered-up_to end from (c ∷ cs) h =
    let rest = numbered-up_to end (from + 1) cs (omega arith) in
    elim (is_na c) as (λ b. up_to end (cond b (numbered (from + 1) cs) ((from, c) ∷ numbered (from + 1) cs)) ≡ true) [
      | true ↦ rest
      | false ↦ and_true (nat_lt from end) (up_to end (numbered (from + 1) cs)) ((Decides-ltb from end).1 (omega arith)) rest
    ]

pub find-numbered : (q from k : ℕ) (cells : List Cell) → q ≡ from + k → find nat_cmp q (numbered from cells) ≡ kept (get_or cells k Na)
find-numbered q from k [] e = refl
find-numbered q from zero (c ∷ cs) e =
    elim (is_na c) as (λ b. find nat_cmp q (cond b (numbered (from + 1) cs) ((from, c) ∷ numbered (from + 1) cs)) ≡ cond b None (Some c)) [
      | true ↦ find-below q (from + 1) (numbered (from + 1) cs) (omega arith) (numbered-from (from + 1) (from + 1) cs (omega arith))
      | false ↦ ap (λ b. cond b (Some c) (find nat_cmp q (numbered (from + 1) cs))) (at_same q from (omega arith))
    ]
find-numbered q from (suc k) (c ∷ cs) e =
    let rest = find-numbered q (from + 1) k cs (omega arith) in
    elim (is_na c) as (λ b. find nat_cmp q (cond b (numbered (from + 1) cs) ((from, c) ∷ numbered (from + 1) cs)) ≡ kept (get_or cs k Na)) [
      | true ↦ rest
      | false ↦ ap (λ b. cond b (Some c) (find nat_cmp q (numbered (from + 1) cs))) (at_more q from (omega arith)) ∙ rest
    ]

pub is_sorted-numbered : (from : ℕ) (cells : List Cell) → is_sorted nat_cmp (numbered from cells) ≡ true
is_sorted-numbered from [] = refl
is_sorted-numbered from (c ∷ cs) =
    let rest = is_sorted-numbered (from + 1) cs in
    elim (is_na c) as (λ b. is_sorted nat_cmp (cond b (numbered (from + 1) cs) ((from, c) ∷ numbered (from + 1) cs)) ≡ true) [
      | true ↦ rest
      | false ↦ and_true (below_all nat_cmp from (numbered (from + 1) cs)) (is_sorted nat_cmp (numbered (from + 1) cs))
          (below-from from (from + 1) (numbered (from + 1) cs) (omega arith) (numbered-from (from + 1) (from + 1) cs (omega arith))) rest
    ]

pub present-numbered : (from : ℕ) (cells : List Cell) → list_all (λ pair. not (is_na pair.1)) (numbered from cells) ≡ true
present-numbered from [] = refl
present-numbered from (c ∷ cs) =
    let rest = present-numbered (from + 1) cs in
    elim (is_na c) as (λ b. is_na c ≡ b → list_all (λ (pair : ℕ × Cell). not (is_na pair.1)) (cond b (numbered (from + 1) cs) ((from, c) ∷ numbered (from + 1) cs)) ≡ true) [
      | true ↦ λ _. rest
      | false ↦ λ e. and_true (not (is_na c)) (list_all (λ pair. not (is_na pair.1)) (numbered (from + 1) cs)) (ap not e) rest
    ] refl

-- the sheets by recursion
abbrev pub EachSheet : Kind → Sheets → Type 0
EachSheet kind [] = Unit {0}
EachSheet kind (e ∷ es) = IsSheet kind e.1 × EachSheet kind es

pub lookup-find : {X : Type 0} (q : ℕ) (es : List (ℕ × X)) → lookup (is_at (nat_cmp q)) es ≡ find nat_cmp q es
lookup-find q [] = refl
lookup-find q (e ∷ es) = ap (λ r. cond (is_eq (nat_cmp q e.0)) (Some e.1) r) (lookup-find q es)

below_of : {X : Type 0} (k : ℕ) (es : List (ℕ × X)) → AllByRecursion (λ y. nat_cmp k y ≡ Less) (keys_of es) → below_all nat_cmp k es ≡ true
below_of k [] h = refl
below_of k (e ∷ es) h = and_true (is_lt (nat_cmp k e.0)) (below_all nat_cmp k es) (ap is_lt h.0) (below_of k es h.1)

pub is_sorted_of : {X : Type 0} (es : List (ℕ × X)) → IsStrictlySortedBy nat_cmp (keys_of es) → is_sorted nat_cmp es ≡ true
unfolding IsStrictlySortedBy
is_sorted_of [] h = refl
is_sorted_of (e ∷ es) h = and_true (below_all nat_cmp e.0 es) (is_sorted nat_cmp es) (below_of e.0 es h.0) (is_sorted_of es h.1)

pub sheet_at-absent : (page k : ℕ) (es : Sheets) → below_all nat_cmp k es ≡ true → page ≡ k → sheet_at es page ≡ None
sheet_at-absent page k es below e = lookup-find page es ∙ absent nat_cmp_total page k es below (sym (nat_cmp_is page k Equal e))

each_tail : (kind : Kind) (e : ℕ × SheetCells) (es : Sheets) → below_all nat_cmp e.0 es ≡ true →
    ((page : ℕ) (sheet : SheetCells) → sheet_at (e ∷ es) page ≡ Some sheet → IsSheet kind sheet) →
    (page : ℕ) (sheet : SheetCells) → sheet_at es page ≡ Some sheet → IsSheet kind sheet
each_tail kind e es below each page sheet is =
    each page sheet (elim (is_eq (nat_cmp page e.0)) as (λ b. is_eq (nat_cmp page e.0) ≡ b → cond b (Some e.1) (sheet_at es page) ≡ Some sheet) [
      | true ↦ λ t. let none = sheet_at-absent page e.0 es below (nat_cmp-IsAntisymmetric page e.0 (equal_of _ t)) in cc
      | false ↦ λ _. is
    ] refl)

each_of : (kind : Kind) (es : Sheets) → is_sorted nat_cmp es ≡ true →
    ((page : ℕ) (sheet : SheetCells) → sheet_at es page ≡ Some sheet → IsSheet kind sheet) → EachSheet kind es
each_of kind [] sorted each = tt
each_of kind (e ∷ es) sorted each =
    let parts = both_true (below_all nat_cmp e.0 es) (is_sorted nat_cmp es) sorted in
    (each e.0 e.1 (ap (λ b. cond b (Some e.1) (sheet_at es e.0)) (at_same e.0 e.0 refl)), each_of kind es parts.1 (each_tail kind e es parts.0 each))

pub EachSheet-AreSheets : (kind : Kind) (es : Sheets) → AreSheets kind es → EachSheet kind es
EachSheet-AreSheets kind es h = each_of kind es (is_sorted_of es h.ordered) h.each

pub all_numbered-from : (kind : Kind) (k : ℕ) (es : Sheets) → below_all nat_cmp k es ≡ true → from_on (64 * (k + 1)) (all_numbered es) ≡ true
all_numbered-from kind k [] h = refl
all_numbered-from kind k (e ∷ es) h =
    let parts = both_true (is_lt (nat_cmp k e.0)) (below_all nat_cmp k es) h in
    let less : k < e.0 = elim (nat_cmp k e.0) as (λ r. is_lt r ≡ true → MatchOrdering r (k < e.0) (k ≡ e.0) (e.0 < k) → k < e.0) [
      | Less ↦ λ _ l. l
      | Equal ↦ λ n _. cc
      | Greater ↦ λ n _. cc
    ] parts.0 (ranked k e.0 (nat_cmp k e.0) refl) in
    list_all-append (λ pair. nat_le (64 * (k + 1)) pair.0) (numbered (64 * e.0) e.1.1) (all_numbered es)
    (numbered-from (64 * (k + 1)) (64 * e.0) e.1.1 (omega arith)) (all_numbered-from kind k es parts.1)

pub is_sorted-all : (kind : Kind) (es : Sheets) → is_sorted nat_cmp es ≡ true → EachSheet kind es → is_sorted nat_cmp (all_numbered es) ≡ true
is_sorted-all kind [] sorted each = refl
is_sorted-all kind (e ∷ es) sorted each =
    let parts = both_true (below_all nat_cmp e.0 es) (is_sorted nat_cmp es) sorted in
    let size : length e.1.1 ≡ 64 = each.0.size in
    is_sorted-append (64 * (e.0 + 1)) (numbered (64 * e.0) e.1.1) (all_numbered es) (is_sorted-numbered (64 * e.0) e.1.1) (is_sorted-all kind es parts.1 each.1)
    (numbered-up_to (64 * (e.0 + 1)) (64 * e.0) e.1.1 (omega arith)) (all_numbered-from kind e.0 es parts.0)

pub present-all : (es : Sheets) → list_all (λ pair. not (is_na pair.1)) (all_numbered es) ≡ true
present-all [] = refl
present-all (e ∷ es) = list_all-append (λ pair. not (is_na pair.1)) (numbered (64 * e.0) e.1.1) (all_numbered es) (present-numbered (64 * e.0) e.1.1) (present-all es)

pub IsMapBy-all : (kind : Kind) (es : Sheets) → AreSheets kind es → IsMapBy nat_cmp (all_numbered es)
IsMapBy-all kind es h = record { rising = is_sorted-all kind es (is_sorted_of es h.ordered) (EachSheet-AreSheets kind es h); present = present-all es }

-- what a sheet has at a place
abbrev pub found_on : Option SheetCells → ℕ → Option Cell
found_on None place = None
found_on (Some sheet) place = kept (get_or sheet.1 place Na)

either-none : {A : Type 0} (x : Option A) → either x None ≡ x
either-none None = refl
either-none (Some a) = refl

-- what is found in the sheets stands on the sheet of its page
pub find-all : (kind : Kind) (q : ℕ) (es : Sheets) → is_sorted nat_cmp es ≡ true → EachSheet kind es → find nat_cmp q (all_numbered es) ≡ found_on (sheet_at es (q / 64)) (q % 64)
find-all kind q [] sorted each = refl
find-all kind q (e ∷ es) sorted each =
    let parts = both_true (below_all nat_cmp e.0 es) (is_sorted nat_cmp es) sorted in
    let size : length e.1.1 ≡ 64 = each.0.size in
    let first = find nat_cmp q (numbered (64 * e.0) e.1.1) in
    let rest = find-all kind q es parts.1 each.1 in
    find-append q (numbered (64 * e.0) e.1.1) (all_numbered es)
    ∙ ap (λ r. either (find nat_cmp q (numbered (64 * e.0) e.1.1)) r) rest
    ∙ elim (nat_cmp (q / 64) e.0) as (λ r. MatchOrdering r (q / 64 < e.0) (q / 64 ≡ e.0) (e.0 < q / 64) →
    either (find nat_cmp q (numbered (64 * e.0) e.1.1)) (found_on (sheet_at es (q / 64)) (q % 64)) ≡ found_on (cond (is_eq r) (Some e.1) (sheet_at es (q / 64))) (q % 64)) [
      | Less ↦ λ h. ap (λ r. either r (found_on (sheet_at es (q / 64)) (q % 64))) (find-below q (64 * e.0) (numbered (64 * e.0) e.1.1) (omega arith) (numbered-from (64 * e.0) (64 * e.0) e.1.1 (omega arith)))
      | Equal ↦ λ h. ap (λ s. either (find nat_cmp q (numbered (64 * e.0) e.1.1)) (found_on s (q % 64))) (sheet_at-absent (q / 64) e.0 es parts.0 h)
          ∙ either-none (find nat_cmp q (numbered (64 * e.0) e.1.1)) ∙ find-numbered q (64 * e.0) (q % 64) e.1.1 (omega arith)
      | Greater ↦ λ h. ap (λ r. either r (found_on (sheet_at es (q / 64)) (q % 64)))
          (find-numbered q (64 * e.0) (q - 64 * e.0) e.1.1 (omega arith) ∙ ap kept (get_or-eq_default e.1.1 Na {n = q - 64 * e.0} (omega arith)))
    ] (ranked (q / 64) e.0 (nat_cmp (q / 64) e.0) refl)

pub unwrap_or-found_on : (sheet : Option SheetCells) (place : ℕ) → unwrap_or (found_on sheet place) Na ≡ cell_on sheet place
unwrap_or-found_on None place = refl
unwrap_or-found_on (Some sheet) place = unwrap_or-kept (get_or sheet.1 place Na)

pub cell_of-all : (kind : Kind) (q : ℕ) (es : Sheets) → AreSheets kind es → cell_of (all_numbered es) q ≡ cell_on (sheet_at es (q / 64)) (q % 64)
cell_of-all kind q es h =
    ap (λ r. unwrap_or r Na) (find-all kind q es (is_sorted_of es h.ordered) (EachSheet-AreSheets kind es h)) ∙ unwrap_or-found_on (sheet_at es (q / 64)) (q % 64)
