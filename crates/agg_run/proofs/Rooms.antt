-- Along lines of different dimensions numbers become at most as many times as great as there are combinations.
use Rattle.std.proofs.Common.{◌≡◌, ℕ, suc, zero, ◌==◌, ◌&&◌, ◌<◌, ◌≤◌, ◌*◌, ◌^◌, max, cond, Bool, true, false, List, [], ◌∷◌, length, map, fold, slice_set, get_or, Option, Some, None, ◌⊎◌, inl, inr, refl, sym, ap, ◌∙◌, arith, unsigned_abs, ℤ}
use Rattle.std.specs.Prelude.{nat_eq, IfSome, ⊤}
use Rattle.std.specs.List.{IsDistinct}
use Rattle.std.proofs.lemmas.Nat.{mul-le}
use Rattle.std.proofs.lemmas.Bool.Decides.{Decides-eqb}
use Rattle.std.proofs.lemmas.Map.Keys.{apart_from_distinct}
use Rattle.aw_dim.specs.DimensionState.{DimensionState, Entry}
use Rattle.aw_rel.specs.Hierarchy.{Tree, is_among}
use Rattle.aw_rel.proofs.CallerLemmas.{or_left, or_right}
use Rattle.aw_var.specs.CellMap.{Cells, cell_at}
use Rattle.agg_map.specs.declared.line.MapLine.{MapLine}
use Rattle.agg_run.specs.Numbers.{number_in}
use Rattle.agg_run.specs.Aggregates.{Numbers, is_combination, combination_count, numbers_at}
use Rattle.agg_run.specs.Calls.{place_in, no_values, values_of, AreAmong}
use Rattle.agg_run.specs.inside.Cells.{AreOfCells}
use Rattle.agg_run.specs.inside.Lines.{lines_with, AreOfValues}
use Rattle.agg_run.specs.inside.Passes.{HaveRoom, room_of}
use Rattle.agg_run.proofs.Heights.{length-entries, same_size}
use Rattle.agg_run.proofs.Lines.{place_among, among_at}
use Rattle.agg_run.proofs.Sums.{Apart, Apart-pairs}

abbrev product : List ℕ → ℕ
product [] = 1
product (x ∷ xs) = x * product xs

abbrev chosen : List ℕ → List ℕ → ℕ
chosen [] sizes = 1
chosen (place ∷ places) sizes = get_or sizes place 1 * chosen places sizes

abbrev Positive : List ℕ → Type 0
Positive [] = ⊤
Positive (x ∷ xs) = (1 ≤ x) × Positive xs

product_least : (sizes : List ℕ) → Positive sizes → 1 ≤ product sizes
product_least [] positive = omega arith
product_least (x ∷ sizes) positive = let r = product_least sizes positive.1 in let m = mul-le 1 1 x (product sizes) positive.0 r in omega (arith, m)

product_split : (sizes : List ℕ) (place : ℕ) → product sizes ≡ get_or sizes place 1 * product (slice_set sizes place 1)
product_split [] zero = refl
product_split [] (suc place) = refl
product_split (x ∷ sizes) zero = omega arith
product_split (x ∷ sizes) (suc place) =
    let r = product_split sizes place in
    ap (λ n. x * n) r ∙ turned x (get_or sizes place 1) (product (slice_set sizes place 1))
  where
    turned : (a b c : ℕ) → a * (b * c) ≡ b * (a * c)
    turned a b c = omega arith

positive_set : (sizes : List ℕ) (place : ℕ) → Positive sizes → Positive (slice_set sizes place 1)
positive_set [] place positive = tt
positive_set (x ∷ sizes) zero positive = (omega arith, positive.1)
positive_set (x ∷ sizes) (suc place) positive = (positive.0, positive_set sizes place positive.1)

other_place : (sizes : List ℕ) (place other : ℕ) → (place ≡ other → ⊥) → get_or (slice_set sizes place 1) other 1 ≡ get_or sizes other 1
other_place [] place other apart = refl
other_place (x ∷ sizes) zero zero apart = absurd (apart refl)
other_place (x ∷ sizes) zero (suc other) apart = refl
other_place (x ∷ sizes) (suc place) zero apart = refl
other_place (x ∷ sizes) (suc place) (suc other) apart = other_place sizes place other (λ e. apart (ap suc e))

chosen_set : (places sizes : List ℕ) (place : ℕ) → is_among places place ≡ false → chosen places (slice_set sizes place 1) ≡ chosen places sizes
chosen_set [] sizes place out = refl
chosen_set (p ∷ places) sizes place out =
    let other : place ≡ p → ⊥ = λ e. let t = or_left (place == p) (is_among places place) ((Decides-eqb place p).1 e) in cc in
    let rest : is_among places place ≡ false = elim (is_among places place) as (λ b. is_among places place ≡ b → b ≡ false) [
      | true ↦ λ t. let u = or_right (place == p) (is_among places place) t in cc
      | false ↦ λ _. refl
    ] refl in
    λ i. other_place sizes place p other i * chosen_set places sizes place rest i

chosen_most : (places sizes : List ℕ) → Apart places → Positive sizes → chosen places sizes ≤ product sizes
chosen_most [] sizes apart positive = product_least sizes positive
chosen_most (p ∷ places) sizes apart positive =
    let split = product_split sizes p in
    let same = chosen_set places sizes p apart.0 in
    let rest = chosen_most places (slice_set sizes p 1) apart.1 (positive_set sizes p positive) in
    let times = mul-le (get_or sizes p 1) (chosen places (slice_set sizes p 1)) (get_or sizes p 1) (product (slice_set sizes p 1)) (omega arith) rest in
    let here = ap (λ n. get_or sizes p 1 * n) same in
    omega (arith, split, times, here)

-- ---- places of lines

get_map : (f : ℕ → ℕ) (numbers : List ℕ) (k d : ℕ) → k < length numbers → get_or (map f numbers) k d ≡ f (get_or numbers k 0)
get_map f [] k d within = absurd (omega (arith, within))
get_map f (n ∷ numbers) zero d within = refl
get_map f (n ∷ numbers) (suc k) d within = get_map f numbers k d (omega (arith, within))

length_map : (f : ℕ → ℕ) (numbers : List ℕ) → length (map f numbers) ≡ length numbers
length_map f [] = refl
length_map f (n ∷ numbers) = ap suc (length_map f numbers)

places_apart : (over numbers : List ℕ) → IsDistinct nat_eq numbers → AreAmong numbers over → Apart (map (place_in over) numbers)
places_apart over numbers distinct along = Apart-pairs (map (place_in over) numbers) (λ i j d less within same.
    let size = length_map (place_in over) numbers in
    let last : j < length numbers = omega (arith, within, size) in
    let first : i < length numbers = omega (arith, less, last) in
    let one = get_map (place_in over) numbers i d first in
    let other = get_map (place_in over) numbers j d last in
    let equal : get_or numbers i 0 ≡ get_or numbers j 0 =
    sym (place_among over (get_or numbers i 0) (among_at over numbers i along first)).1
    ∙ ap (λ p. get_or over p 0) (sym one ∙ same ∙ other)
    ∙ (place_among over (get_or numbers j 0) (among_at over numbers j along last)).1 in
    let test : (get_or numbers i 0 == get_or numbers j 0) ≡ false = apart_from_distinct nat_eq numbers i j 0 distinct less last in
    let back = (Decides-eqb (get_or numbers i 0) (get_or numbers j 0)).1 equal in
    cc)

-- ---- sizes of dimensions

abbrev widths : List DimensionState → List ℕ
widths dimensions = map (λ dimension. max 1 (length dimension.entries)) dimensions

abbrev sizes_of : List DimensionState → List ℕ
sizes_of dimensions = map (λ dimension. length dimension.entries) dimensions

widths_positive : (dimensions : List DimensionState) → Positive (widths dimensions)
widths_positive [] = tt
widths_positive (x ∷ dimensions) = (omega arith, widths_positive dimensions)

width_at : (dimensions : List DimensionState) (place : ℕ) → get_or (widths dimensions) place 1 ≡ max 1 (length (get_or dimensions place no_values).entries)
width_at [] zero = refl
width_at [] (suc place) = refl
width_at (x ∷ dimensions) zero = refl
width_at (x ∷ dimensions) (suc place) = width_at dimensions place

chosen_least : (places : List ℕ) (dimensions : List DimensionState) → 1 ≤ chosen places (widths dimensions)
chosen_least [] dimensions = omega arith
chosen_least (p ∷ places) dimensions =
    let here = width_at dimensions p in
    let one : 1 ≤ get_or (widths dimensions) p 1 = omega (arith, here) in
    let m = mul-le 1 1 (get_or (widths dimensions) p 1) (chosen places (widths dimensions)) one (chosen_least places dimensions) in omega (arith, m)

room_chosen : (lines : List MapLine) (numbers over : List ℕ) (trees : List Tree) (dimensions : List DimensionState) → AreOfValues trees numbers over dimensions → room_of (lines_with lines numbers over trees) ≤ chosen (map (place_in over) numbers) (widths dimensions)
room_chosen [] numbers over trees dimensions are = chosen_least (map (place_in over) numbers) dimensions
room_chosen (l ∷ lines) [] over trees dimensions are = omega arith
room_chosen (l ∷ lines) (n ∷ numbers) over [] dimensions are = chosen_least (map (place_in over) (n ∷ numbers)) dimensions
room_chosen (l ∷ lines) (n ∷ numbers) over (t ∷ trees) dimensions are =
    let rest = room_chosen lines numbers over trees dimensions (λ k within. are (suc k) (omega (arith, within))) in
    let size = same_size t (get_or dimensions (place_in over n) no_values).entries (are 0 (omega arith)) in
    let here = width_at dimensions (place_in over n) in
    let one : max 1 (length t) ≤ get_or (widths dimensions) (place_in over n) 1 = omega (arith, here, size) in
    mul-le (max 1 (length t)) (room_of (lines_with lines numbers over trees)) (get_or (widths dimensions) (place_in over n) 1) (chosen (map (place_in over) numbers) (widths dimensions)) one rest

-- ---- how many combinations there are

times_one : (n : ℕ) → n ≡ n * 1
times_one n = omega arith

one_times : (n : ℕ) → 1 * n ≡ n
one_times n = omega arith

fold_product : (dimensions : List DimensionState) (count : ℕ) → fold (λ c slots. c * length slots) count (values_of dimensions) ≡ count * product (sizes_of dimensions)
fold_product [] count = times_one count
fold_product (x ∷ dimensions) count =
    fold_product dimensions (count * length (map (λ (entry : Entry). entry.0) x.entries))
    ∙ ap (λ n. (count * n) * product (sizes_of dimensions)) (length-entries x.entries)
    ∙ grouped count (length x.entries) (product (sizes_of dimensions))
  where
    grouped : (a b c : ℕ) → (a * b) * c ≡ a * (b * c)
    grouped a b c = omega arith

count_product : (dimensions : List DimensionState) → combination_count (values_of dimensions) ≡ product (sizes_of dimensions)
count_product dimensions = fold_product dimensions 1 ∙ one_times (product (sizes_of dimensions))

-- without values in one dimension there are no combinations, and else the widths are the sizes
none_or_all : (dimensions : List DimensionState) → (product (sizes_of dimensions) ≡ 0) ⊎ (product (widths dimensions) ≡ product (sizes_of dimensions))
none_or_all [] = inr refl
none_or_all (x ∷ dimensions) = cases (length x.entries) (none_or_all dimensions)
  where
    cases : (n : ℕ) → (product (sizes_of dimensions) ≡ 0) ⊎ (product (widths dimensions) ≡ product (sizes_of dimensions)) → (n * product (sizes_of dimensions) ≡ 0) ⊎ (max 1 n * product (widths dimensions) ≡ n * product (sizes_of dimensions))
    cases zero rest = inl (omega arith)
    cases (suc n) (inl none) = inl (ap (λ m. suc n * m) none ∙ (omega arith))
    cases (suc n) (inr same) = inr (let one : max 1 (suc n) ≡ suc n = omega arith in λ i. one i * same i)

no_combinations : (dimensions : List DimensionState) (key : List ℕ) → product (sizes_of dimensions) ≡ 0 → is_combination (values_of dimensions) key ≡ false
no_combinations [] key none = let e : 1 ≡ 0 = none in absurd (omega (arith, e))
no_combinations (x ∷ dimensions) [] none = refl
no_combinations (x ∷ dimensions) (slot ∷ key) none = cases (λ rest. no_combinations dimensions key rest) x.entries none
  where
    both_false : (b : Bool) → (b && false) ≡ false
    both_false true = refl
    both_false false = refl

    least : (n m : ℕ) → suc n * m ≡ 0 → m ≡ 0
    least n m e = omega (arith, e)

    cases : (product (sizes_of dimensions) ≡ 0 → is_combination (values_of dimensions) key ≡ false) → (entries : List Entry) → length entries * product (sizes_of dimensions) ≡ 0 → (is_among (map (λ entry. entry.0) entries) slot && is_combination (values_of dimensions) key) ≡ false
    cases later [] none = refl
    cases later (e ∷ entries) none =
        ap (λ b. is_among (map (λ (entry : Entry). entry.0) (e ∷ entries)) slot && b) (later (least (length entries) (product (sizes_of dimensions)) none))
        ∙ both_false (is_among (map (λ (entry : Entry). entry.0) (e ∷ entries)) slot)

-- the opening numbers have room along all lines
pub first_room : (lines : List MapLine) (numbers over : List ℕ) (trees : List Tree) (dimensions : List DimensionState) (cells : Cells) (opening : Numbers) (slots : ℕ) → IsDistinct nat_eq numbers → AreAmong numbers over → AreOfValues trees numbers over dimensions →
    combination_count (values_of dimensions) ≤ 4194304 → ((key : List ℕ) → opening key ≡ numbers_at (values_of dimensions) cells key) → AreOfCells opening → HaveRoom slots (lines_with lines numbers over trees) opening
first_room lines numbers over trees dimensions cells opening slots distinct along are few is small = by (none_or_all dimensions)
  where
    bounded : (z : Option ℤ) → IfSome z (λ x. unsigned_abs x ≤ 10 ^ 18) → IfSome z (λ x. (unsigned_abs x ≤ 10 ^ 18) × (10000 ≤ 10 ^ 18))
    bounded None h = tt
    bounded (Some z) h = (h, omega arith)

    nothing : (z : Option ℤ) → z ≡ None → IfSome z (λ x. (unsigned_abs x ≤ 0) × (10000 ≤ 0))
    nothing None h = tt
    nothing (Some z) h = cc

    by : (product (sizes_of dimensions) ≡ 0) ⊎ (product (widths dimensions) ≡ product (sizes_of dimensions)) → HaveRoom slots (lines_with lines numbers over trees) opening
    by (inl none) = record {
      bound = 0;
      each = λ key long. nothing (opening key) (is key ∙ ap (λ b. cond b (number_in (cell_at cells key)) None) (no_combinations dimensions key none));
      room = omega arith;
    }
    by (inr same) = record {
      bound = 10 ^ 18;
      each = λ key long. bounded (opening key) (small key);
      room =
          let chose = room_chosen lines numbers over trees dimensions are in
          let most = chosen_most (map (place_in over) numbers) (widths dimensions) (places_apart over numbers distinct along) (widths_positive dimensions) in
          let count = count_product dimensions in
          mul-le (10 ^ 18) (room_of (lines_with lines numbers over trees)) (10 ^ 18) 4194304 (omega arith) (omega (arith, chose, most, same, count, few));
    }
