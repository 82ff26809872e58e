-- Going over the cells of all sheets in order.
use Rattle.std.proofs.Common.{◌≡◌, ℕ, ◌+◌, ◌*◌, ◌^◌, ◌<◌, ◌≤◌, true, false, cond, List, [], ◌∷◌, ◌++◌, length, drop, slice_get, Option, Some, None, sym, ap, subst, ◌∙◌, arith}
use Rattle.std.proofs.lemmas.List.{drop_more}
use Rattle.std.proofs.Math.ListN.{drop_of_length-le}
use Rattle.std.proofs.lemmas.Option.{get_or_from_slice_get}
use Rattle.std.specs.Prelude.{nat_lt}
use Rattle.std.specs.Option.{option_map}
use Rattle.std.specs.Map.Iter.{TakesFirst, deref_pair}
use Rattle.std.proofs.lemmas.Bool.Decides.{Decides-ltb}
use Rattle.aw_cell.specs.declared.cell.Cell.{Cell}
use Rattle.aw_cell.specs.declared.cell.Cell.TheVariants.{Na}
use Rattle.aw_page.specs.Fitting.{is_na}
use Rattle.aw_var.specs.inside.Sheets.{SheetCells, Sheets, numbered, all_numbered}
use Rattle.aw_var.specs.inside.Walks.{used_on, IsFirstUsed, numbers_left, TakesNumber}
use Rattle.aw_var.specs.inside.Unpacking.{AreNumbersOf}
use Rattle.aw_var.proofs.callers.FiniteMaps.{both_true}
use Rattle.aw_var.proofs.Unpacking.{below}
use denote.Ref.{Bor}
use Rattle.std.specs.Map.Iter.{GivesInOrder}
use Rattle.std.proofs.iter.runs.Sources.{from_front, as_is}

-- an iterator that is seen as the list of what is left gives that list
pub gives_in_order : {X : Type 0} → GivesInOrder X
gives_in_order {X} p s = as_is p p.from (from_front (TakesFirst (λ (x : X). x)) (λ x. x) (λ left. left) (λ s t h. ap length h.0) (λ s x t h. h) p s)

pub used_on-next : (start place : ℕ) (cells : List Cell) (cell : Cell) → place < length cells → slice_get cells place ≡ Some cell →
    used_on start cells place ≡ cond (is_na cell) (used_on start cells (place + 1)) ((start + place, cell) ∷ used_on start cells (place + 1))
used_on-next start place cells cell h is =
    let here : drop place cells ≡ cell ∷ drop (place + 1) cells = drop_more cells place cell h ∙ ap (λ (c : Cell). c ∷ drop (place + 1) cells) (get_or_from_slice_get cells place cell cell is) in
    let more : start + place + 1 ≡ start + (place + 1) = omega arith in
    ap (λ (l : List Cell). numbered (start + place) l) here ∙ ap (λ n. cond (is_na cell) (numbered n (drop (place + 1) cells)) ((start + place, cell) ∷ numbered n (drop (place + 1) cells))) more

-- a place with NA is passed
pub used_on-na : (start place : ℕ) (cells : List Cell) (cell : Cell) → place < length cells → slice_get cells place ≡ Some cell → cell ≡ Na → used_on start cells place ≡ used_on start cells (place + 1)
used_on-na start place cells cell h is na =
    used_on-next start place cells cell h is ∙ ap (λ c. cond (is_na c) (used_on start cells (place + 1)) ((start + place, cell) ∷ used_on start cells (place + 1))) na

-- a place with a cell is found
pub used_on-cell : (start place : ℕ) (cells : List Cell) (cell : Cell) → place < length cells → slice_get cells place ≡ Some cell → is_na cell ≡ false → used_on start cells place ≡ (start + place, cell) ∷ used_on start cells (place + 1)
used_on-cell start place cells cell h is some =
    used_on-next start place cells cell h is ∙ ap (λ b. cond b (used_on start cells (place + 1)) ((start + place, cell) ∷ used_on start cells (place + 1))) some

pub used_on-end : (start place : ℕ) (cells : List Cell) → length cells ≤ place → used_on start cells place ≡ []
used_on-end start place cells h = ap (λ (l : List Cell). numbered (start + place) l) (drop_of_length-le cells h)

-- a sheet on which no cell is left, and the one behind it in hand
pub numbers_left-behind : (sheet : ℕ × SheetCells) (passed : ℕ) (rest rest' : Sheets) (next : Option (Bor ℕ × Bor SheetCells)) → IsFirstUsed sheet.1.1 passed None → TakesFirst deref_pair rest next rest' →
    numbers_left (Some sheet) passed rest ≡ numbers_left (option_map deref_pair next) 0 rest'
numbers_left-behind sheet passed rest rest' None none takes = (λ i. none (64 * sheet.0) i ++ all_numbered (takes.0 i))
numbers_left-behind sheet passed rest rest' (Some x) none takes =
    let from : 64 * x.0.now ≡ 64 * x.0.now + 0 = omega arith in
    (λ i. none (64 * sheet.0) i ++ all_numbered (takes i)) ∙ ap (λ n. numbered n x.1.now.1 ++ all_numbered rest') from

-- the first cell of the sheet in hand is taken
pub numbers_left-taken : (sheet : ℕ × SheetCells) (passed : ℕ) (rest : Sheets) (found : ℕ × Cell) → IsFirstUsed sheet.1.1 passed (Some found) →
    numbers_left (Some sheet) passed rest ≡ (64 * sheet.0 + found.0, found.1) ∷ numbers_left (Some sheet) (found.0 + 1) rest
numbers_left-taken sheet passed rest found is = ap (λ (l : List (ℕ × Cell)). l ++ all_numbered rest) (is.1 (64 * sheet.0))

-- what is left at the start is all
pub numbers_left-all : (rest rest' : Sheets) (next : Option (Bor ℕ × Bor SheetCells)) → TakesFirst deref_pair rest next rest' → numbers_left (option_map deref_pair next) 0 rest' ≡ all_numbered rest
numbers_left-all rest rest' None takes = ap all_numbered (sym takes.0)
numbers_left-all rest rest' (Some x) takes =
    let from : 64 * x.0.now + 0 ≡ 64 * x.0.now = omega arith in
    ap (λ n. numbered n x.1.now.1 ++ all_numbered rest') from ∙ ap all_numbered (sym takes)

-- the first number and what is behind it are those of keys
pub first_below : (slots n : ℕ) (cell : Cell) (old new : List (ℕ × Cell)) → old ≡ (n, cell) ∷ new → AreNumbersOf slots old → n < 65536 ^ slots
first_below slots n cell old new is numbers =
    (Decides-ltb n (65536 ^ slots)).0 (both_true (nat_lt n (65536 ^ slots)) (below slots new) (subst (λ (l : List (ℕ × Cell)). below slots l ≡ true) is numbers.below)).0

pub rest_below : (slots : ℕ) (found : Option (ℕ × ℕ × Cell)) (old new : List (ℕ × Cell)) → TakesNumber old found new → AreNumbersOf slots old → AreNumbersOf slots new
rest_below slots None old new takes numbers = record { few = numbers.few; below = ap (below slots) takes.1 }
rest_below slots (Some found) old new takes numbers = record {
  few = numbers.few;
  below = (both_true (nat_lt (64 * found.0 + found.1) (65536 ^ slots)) (below slots new) (subst (λ (l : List (ℕ × Cell)). below slots l ≡ true) takes.1 numbers.below)).1;
}
