-- Going over the sheets of two maps at once.
use Rattle.std.proofs.Common.{◌≡◌, ℕ, zero, suc, ◌+◌, ◌-◌, ◌*◌, ◌/◌, ◌%◌, ◌^◌, ◌<◌, ◌≤◌, Bool, true, false, cond, List, [], ◌∷◌, ◌++◌, length, min, Option, Some, None, unwrap_or, refl, sym, ap, subst, ◌∙◌, append_assoc, append-nil, arith}
use Rattle.std.specs.Prelude.{nat_lt}
use Rattle.std.specs.Ordering.{nat_cmp, is_eq}
use Rattle.std.specs.FinMap.{find, nat_cmp-IsAntisymmetric}
use Rattle.std.proofs.lemmas.Bool.Decides.{Decides-ltb}
use Rattle.aw_cell.specs.declared.cell.Cell.{Cell}
use Rattle.aw_cell.specs.declared.cell.Cell.TheVariants.{Na}
use Rattle.aw_cell.specs.declared.cell.Kind.{Kind}
use Rattle.aw_cell.specs.Cell.{same_cell}
use Rattle.aw_cell.specs.SameCell.{same_cell-Decides}
use Rattle.aw_var.specs.CellMap.{Cells}
use Rattle.aw_var.specs.inside.NumberedMap.{NumberedMap, cell_of, difference_of}
use Rattle.aw_var.specs.inside.Sheets.{SheetCells, Sheets, numbered, all_numbered, sheet_at, AreSheets}
use Rattle.aw_var.specs.inside.Differences.{cell_on, changes_on, lesser_of, ChangesFit}
use Rattle.aw_var.specs.inside.Walks.{first_page, TakesSheet}
use Rattle.aw_var.specs.inside.Unpacking.{unpacked, with_coords, AreNumbersOf}
use Rattle.aw_var.proofs.callers.FiniteMaps.{both_true, equal_of}
use Rattle.aw_var.proofs.Puts.{shown}
use Rattle.aw_var.proofs.Sheets.{is_sorted_of, EachSheet-AreSheets}
use Rattle.aw_var.proofs.Unpacking.{below}
use Rattle.aw_var.proofs.SheetDifferences.{Ordered, Taken, taken, at_least, cell_of-ordered, difference-step}

-- the changes from a place on, where the cells there are the same, and where they aren't
first-same : (before now : Option SheetCells) (from place left less : ℕ) → left ≡ suc less → same_cell (cell_on before place) (cell_on now place) ≡ true → changes_on before now from place left ≡ changes_on before now from (place + 1) less
unfolding changes_on
first-same before now from place left less e same =
    ap (changes_on before now from place) e ∙ ap (λ b. cond b (changes_on before now from (place + 1) less) ((from + place, cell_on now place) ∷ changes_on before now from (place + 1) less)) same

pub changes-same : (slots : ℕ) (before now : Option SheetCells) (from place : ℕ) (items goal : Cells) → place < 64 → same_cell (cell_on before place) (cell_on now place) ≡ true →
    items ++ with_coords slots (changes_on before now from place (64 - place)) ≡ goal → items ++ with_coords slots (changes_on before now from (place + 1) (64 - (place + 1))) ≡ goal
changes-same slots before now from place items goal h same is =
    ap (λ (r : List (ℕ × Cell)). items ++ with_coords slots r) (sym (first-same before now from place (64 - place) (64 - (place + 1)) (omega arith) same)) ∙ is

first-differ : (before now : Option SheetCells) (from place left less : ℕ) → left ≡ suc less → same_cell (cell_on before place) (cell_on now place) ≡ false → changes_on before now from place left ≡ (from + place, cell_on now place) ∷ changes_on before now from (place + 1) less
unfolding changes_on
first-differ before now from place left less e differ =
    ap (changes_on before now from place) e ∙ ap (λ b. cond b (changes_on before now from (place + 1) less) ((from + place, cell_on now place) ∷ changes_on before now from (place + 1) less)) differ

pub changes-differ : (slots : ℕ) (before now : Option SheetCells) (from place : ℕ) (items items' goal : Cells) → place < 64 → same_cell (cell_on before place) (cell_on now place) ≡ false →
    items' ≡ items ++ (unpacked slots (from + place), cell_on now place) ∷ [] →
    items ++ with_coords slots (changes_on before now from place (64 - place)) ≡ goal → items' ++ with_coords slots (changes_on before now from (place + 1) (64 - (place + 1))) ≡ goal
changes-differ slots before now from place items items' goal h differ push is =
    let rest = with_coords slots (changes_on before now from (place + 1) (64 - (place + 1))) in
    ap (λ (r : Cells). r ++ rest) push
    ∙ append_assoc items ((unpacked slots (from + place), cell_on now place) ∷ []) rest
    ∙ ap (λ (r : List (ℕ × Cell)). items ++ with_coords slots r) (sym (first-differ before now from place (64 - place) (64 - (place + 1)) (omega arith) differ)) ∙ is

no-changes : (before now : Option SheetCells) (from place : ℕ) → changes_on before now from place 0 ≡ []
unfolding changes_on
no-changes before now from place = refl

pub changes-none : (slots : ℕ) (before now : Option SheetCells) (from place : ℕ) (items goal : Cells) → 64 ≤ place → items ++ with_coords slots (changes_on before now from place (64 - place)) ≡ goal → items ≡ goal
changes-none slots before now from place items goal h is =
    let none : 64 - place ≡ 0 = omega arith in
    sym (append-nil items) ∙ ap (λ (r : List (ℕ × Cell)). items ++ with_coords slots r) (sym (no-changes before now from place) ∙ ap (changes_on before now from place) (sym none)) ∙ is

-- a sheet has no changes against itself
no-change : (sheet : Option SheetCells) (from place left : ℕ) → changes_on sheet sheet from place left ≡ []
no-change sheet from place zero = no-changes sheet sheet from place
no-change sheet from place (suc left) =
    first-same sheet sheet from place (suc left) left refl ((same_cell-Decides (cell_on sheet place) (cell_on sheet place)).1 refl) ∙ no-change sheet from (place + 1) left

pub unchanged : (slots : ℕ) (before now : Option SheetCells) (from : ℕ) (items : Cells) → before ≡ now → items ≡ items ++ with_coords slots (changes_on before now from 0 64)
unchanged slots before now from items same =
    sym (append-nil items) ∙ ap (λ (r : List (ℕ × Cell)). items ++ with_coords slots r) (sym (no-change before from 0 64) ∙ ap (λ (s : Option SheetCells). changes_on before s from 0 64) same)

-- what is there has a number below the bound
found_below : (slots n : ℕ) (cells : List (ℕ × Cell)) → below slots cells ≡ true → (cell_of cells n ≡ Na → ⊥) → n < 65536 ^ slots
found_below slots n [] all some = absurd (some refl)
found_below slots n (e ∷ es) all some =
    let parts = both_true (nat_lt e.0 (65536 ^ slots)) (below slots es) all in
    elim (is_eq (nat_cmp n e.0)) as (λ b. is_eq (nat_cmp n e.0) ≡ b → n < 65536 ^ slots) [
      | true ↦ λ t. subst (λ k. k < 65536 ^ slots) (sym (nat_cmp-IsAntisymmetric n e.0 (equal_of _ t))) ((Decides-ltb e.0 (65536 ^ slots)).0 parts.0)
      | false ↦ λ t. found_below slots n es parts.1 (λ none. some (ap (λ b. unwrap_or (cond b (Some e.1) (find nat_cmp n es)) Na) t ∙ none))
    ] refl

-- what was patched so far, and the sheets of both maps that are left
pub record StillToCome (kind : Kind) (slots : ℕ) (olds news : Sheets) (items : Cells) (a b : List (ℕ × Cell)) : Type 0 where
  pub old : Ordered kind olds
  pub new : Ordered kind news
  pub old_under : below slots (all_numbered olds) ≡ true
  pub new_under : below slots (all_numbered news) ≡ true
  pub done : items ++ with_coords slots (difference_of (all_numbered olds) (all_numbered news)) ≡ with_coords slots (difference_of a b)

pub ordered : (kind : Kind) (es : Sheets) → AreSheets kind es → Ordered kind es
ordered kind es h = record { sorted = is_sorted_of es h.ordered; each = EachSheet-AreSheets kind es h }

pub left_first : (kind kind' : Kind) (slots : ℕ) (olds news : Sheets) (a b : NumberedMap) → AreSheets kind news → AreSheets kind' olds → shown kind news ≡ b → shown kind' olds ≡ a → b.kind ≡ a.kind →
    AreNumbersOf slots a.cells → AreNumbersOf slots b.cells → StillToCome kind slots olds news [] a.cells b.cells
left_first kind kind' slots olds news a b h g is was same under over =
    let kinds : kind' ≡ kind = ap (λ (m : NumberedMap). m.kind) was ∙ sym same ∙ ap (λ (m : NumberedMap). m.kind) (sym is) in
    let ea : a.cells ≡ all_numbered olds = ap (λ (m : NumberedMap). m.cells) (sym was) in
    let eb : b.cells ≡ all_numbered news = ap (λ (m : NumberedMap). m.cells) (sym is) in
    record {
      old = subst (λ (k : Kind). Ordered k olds) kinds (ordered kind' olds g);
      new = ordered kind news h;
      old_under = subst (λ (cells : List (ℕ × Cell)). below slots cells ≡ true) ea under.below;
      new_under = subst (λ (cells : List (ℕ × Cell)). below slots cells ≡ true) eb over.below;
      done = λ i. with_coords slots (difference_of (sym ea i) (sym eb i));
    }

least-left : (x y : Option ℕ) (page : ℕ) → Some page ≡ lesser_of x y → at_least page x
least-left None y page e = tt
least-left (Some x) None page e = let same : page ≡ x = cc in omega arith
least-left (Some x) (Some y) page e = let same : page ≡ min x y = cc in omega arith

least-right : (x y : Option ℕ) (page : ℕ) → Some page ≡ lesser_of x y → at_least page y
least-right x None page e = tt
least-right None (Some y) page e = let same : page ≡ y = cc in omega arith
least-right (Some x) (Some y) page e = let same : page ≡ min x y = cc in omega arith

under-left : (slots : ℕ) (old new : Sheets) (page : ℕ) (sheet : Option SheetCells) → TakesSheet old page sheet new → below slots (all_numbered old) ≡ true → below slots (all_numbered new) ≡ true
under-left slots old new page None takes all = subst (λ (s : Sheets). below slots (all_numbered s) ≡ true) (sym takes.0) all
under-left slots old new page (Some sheet) takes all = behind (numbered (64 * page) sheet.1) (all_numbered new) (subst (λ (s : Sheets). below slots (all_numbered s) ≡ true) takes all)
  where
    behind : (xs ys : List (ℕ × Cell)) → below slots (xs ++ ys) ≡ true → below slots ys ≡ true
    behind [] ys all = all
    behind (x ∷ xs) ys all = behind xs ys (both_true (nat_lt x.0 (65536 ^ slots)) (below slots (xs ++ ys)) all).1

cell_there : (kind : Kind) (all left : Sheets) (page place : ℕ) (sheet : Option SheetCells) → Ordered kind all → Taken kind all left page sheet → place < 64 → cell_of (all_numbered all) (64 * page + place) ≡ cell_on sheet place
cell_there kind all left page place sheet h t within =
    let p : (64 * page + place) / 64 ≡ page = omega arith in
    let k : (64 * page + place) % 64 ≡ place = omega arith in
    cell_of-ordered kind (64 * page + place) all h ∙ (λ i. cell_on (sheet_at all (p i)) (k i)) ∙ ap (λ (s : Option SheetCells). cell_on s place) t.here

pub changes_fit : (kind : Kind) (slots : ℕ) (olds news olds' news' : Sheets) (items : Cells) (a b : List (ℕ × Cell)) (page : ℕ) (before now : Option SheetCells) → StillToCome kind slots olds news items a b →
    Some page ≡ lesser_of (first_page news) (first_page olds) → TakesSheet olds page before olds' → TakesSheet news page now news' → ChangesFit slots page before now
changes_fit kind slots olds news olds' news' items a b page before now h least old new = λ place within differ.
    let t = taken kind olds olds' page before h.old (least-right (first_page news) (first_page olds) page least) old in
    let u = taken kind news news' page now h.new (least-left (first_page news) (first_page olds) page least) new in
    elim (same_cell (cell_on now place) Na) as (λ s. same_cell (cell_on now place) Na ≡ s → 64 * page + place < 65536 ^ slots) [
      | true ↦ λ e.
          let na : cell_on now place ≡ Na = (same_cell-Decides (cell_on now place) Na).0 e in
          found_below slots (64 * page + place) (all_numbered olds) h.old_under (λ none. differ (sym (cell_there kind olds olds' page place before h.old t within) ∙ none ∙ sym na))
      | false ↦ λ e.
          found_below slots (64 * page + place) (all_numbered news) h.new_under (λ none.
          let y = (same_cell-Decides (cell_on now place) Na).1 (sym (cell_there kind news news' page place now h.new u within) ∙ none) in cc)
    ] refl

pub left_next : (kind : Kind) (slots : ℕ) (olds news olds' news' : Sheets) (items items' : Cells) (a b : List (ℕ × Cell)) (page : ℕ) (before now : Option SheetCells) → StillToCome kind slots olds news items a b →
    Some page ≡ lesser_of (first_page news) (first_page olds) → TakesSheet olds page before olds' → TakesSheet news page now news' →
    items' ≡ items ++ with_coords slots (changes_on before now (64 * page) 0 64) → StillToCome kind slots olds' news' items' a b
left_next kind slots olds news olds' news' items items' a b page before now h least old new push =
    let t = taken kind olds olds' page before h.old (least-right (first_page news) (first_page olds) page least) old in
    let u = taken kind news news' page now h.new (least-left (first_page news) (first_page olds) page least) new in
    let here = changes_on before now (64 * page) 0 64 in
    let rest = difference_of (all_numbered olds') (all_numbered news') in
    record {
      old = t.ordered;
      new = u.ordered;
      old_under = under-left slots olds olds' page before old h.old_under;
      new_under = under-left slots news news' page now new h.new_under;
      done = ap (λ (r : Cells). r ++ with_coords slots rest) push
          ∙ append_assoc items (with_coords slots here) (with_coords slots rest)
          ∙ ap (λ (r : Cells). items ++ r) (sym (coords-append slots here rest))
          ∙ ap (λ (r : List (ℕ × Cell)). items ++ with_coords slots r) (difference-step kind olds news olds' news' page before now h.old h.new t u)
          ∙ h.done;
    }
  where
    coords-append : (slots : ℕ) (xs ys : List (ℕ × Cell)) → with_coords slots (xs ++ ys) ≡ with_coords slots xs ++ with_coords slots ys
    coords-append slots [] ys = refl
    coords-append slots (x ∷ xs) ys = ap (λ (r : Cells). (unpacked slots x.0, x.1) ∷ r) (coords-append slots xs ys)

pub left_none : (kind : Kind) (slots : ℕ) (olds news : Sheets) (items : Cells) (a b : List (ℕ × Cell)) → StillToCome kind slots olds news items a b → None ≡ lesser_of (first_page news) (first_page olds) → items ≡ with_coords slots (difference_of a b)
left_none kind slots [] [] items a b h none = sym (append-nil items) ∙ h.done
left_none kind slots (x ∷ xs) [] items a b h none = cc
left_none kind slots [] (y ∷ ys) items a b h none = cc
left_none kind slots (x ∷ xs) (y ∷ ys) items a b h none = cc

shorter : (old new : Sheets) (page : ℕ) (sheet : Option SheetCells) → TakesSheet old page sheet new → length new ≤ length old
shorter old new page None takes = let e = ap length takes.0 in omega arith
shorter old new page (Some sheet) takes = let e = ap length takes in omega arith

pub fewer : (olds news olds' news' : Sheets) (page : ℕ) (before now : Option SheetCells) → Some page ≡ lesser_of (first_page news) (first_page olds) → TakesSheet olds page before olds' → TakesSheet news page now news' →
    length olds' + length news' < length olds + length news
fewer olds news olds' news' page (Some before) now least old new = let e = ap length old in omega (arith, shorter news news' page now new)
fewer olds news olds' news' page None (Some now) least old new = let e = ap length new in omega (arith, shorter olds olds' page None old)
fewer olds news olds' news' page None None least old new = absurd (one (first_page news) (first_page olds) page least new.1 old.1)
  where
    one : (x y : Option ℕ) (page : ℕ) → Some page ≡ lesser_of x y → (x ≡ Some page → ⊥) → (y ≡ Some page → ⊥) → ⊥
    one None y page e f g = g (sym e)
    one (Some x) None page e f g = f (sym e)
    one (Some x) (Some y) page e f g =
        let same : page ≡ min x y = cc in
        let f' : x ≡ page → ⊥ = λ s. f (ap (λ (n : ℕ). Some n) s) in
        let g' : y ≡ page → ⊥ = λ s. g (ap (λ (n : ℕ). Some n) s) in
        omega arith

pub left_begin : (kind kind' : Kind) (slots : ℕ) (olds news olds' news' : Sheets) (items : Cells) (a b : NumberedMap) → olds' ≡ olds → news' ≡ news → items ≡ [] →
    AreSheets kind news → AreSheets kind' olds → shown kind news ≡ b → shown kind' olds ≡ a → b.kind ≡ a.kind →
    AreNumbersOf slots a.cells → AreNumbersOf slots b.cells → StillToCome b.kind slots olds' news' items a.cells b.cells
left_begin kind kind' slots olds news olds' news' items a b e f none h g is was same under over =
    let first : StillToCome b.kind slots olds news [] a.cells b.cells = subst (λ (k : Kind). StillToCome k slots olds news [] a.cells b.cells) (ap (λ (m : NumberedMap). m.kind) is) (left_first kind kind' slots olds news a b h g is was same under over) in
    let second : StillToCome b.kind slots olds' news [] a.cells b.cells = subst (λ (s : Sheets). StillToCome b.kind slots s news [] a.cells b.cells) (sym e) first in
    let third : StillToCome b.kind slots olds' news' [] a.cells b.cells = subst (λ (s : Sheets). StillToCome b.kind slots olds' s [] a.cells b.cells) (sym f) second in
    subst (λ (xs : Cells). StillToCome b.kind slots olds' news' xs a.cells b.cells) (sym none) third

pub lesser_is : (page : Option ℕ) (x y x' y' : Option ℕ) → page ≡ lesser_of x y → x ≡ x' → y ≡ y' → page ≡ lesser_of x' y'
lesser_is page x y x' y' e f g = e ∙ (λ i. lesser_of (f i) (g i))
