-- The first of the least and of the greatest weights.
use Rattle.std.proofs.Common.{◌≡◌, ℕ, ◌<◌, ℤ, pos, true, false, List, [], ◌∷◌, length, get_or, int_lt, int_le, arith, sym, subst}
use Rattle.std.specs.Cmp.{IsStrictWeakOrder}
use Rattle.std.specs.List.{IsFirstBest}
use Rattle.std.proofs.lemmas.Int.{ints}
use Rattle.std.proofs.lemmas.List.Elements.{All-from_get_or}
use Rattle.std.proofs.lemmas.List.Folds.{list_all_at}
use Rattle.std.proofs.lemmas.List.MinMax.{IsStrictWeakOrder-flip, IsFirstBest-from_best_of}
use Rattle.std.proofs.lemmas.List.Sums.{position_or_len_is, list_all-from_AllPass}
use Rattle.aw_cell.specs.declared.operator.Rest.{Rest}
use Rattle.aw_cell.specs.declared.operator.Rest.TheVariants.{First, Last, Min, Max}
use Rattle.alloc_share.specs.Places.{is_least, is_greatest, first_least, first_greatest, place_of_rest}

one_way : (x y : ℤ) → int_lt x y ≡ true → int_lt y x ≡ false
one_way x y h = grind (arith, ints)

chain : (x y z : ℤ) → int_lt x y ≡ false → int_lt y z ≡ false → int_lt x z ≡ false
chain x y z h k = grind (arith, ints)

pub less : IsStrictWeakOrder int_lt
less = record { one_way = one_way; chain = chain }

pub greater : IsStrictWeakOrder (λ x y. int_lt y x)
greater = IsStrictWeakOrder-flip int_lt less

at_most : (x y : ℤ) → int_lt y x ≡ false → int_le x y ≡ true
at_most x y h = grind (arith, ints)

above : (x y : ℤ) → int_lt x y ≡ true → int_le y x ≡ false
above x y h = grind (arith, ints)

pub is_first_least : (weights : List ℤ) (place : ℕ) → IsFirstBest int_lt weights (length weights) place → place ≡ first_least weights
is_first_least weights place best =
    let weight : ℕ → ℤ = λ k. get_or weights k (pos 0) in
    sym (position_or_len_is (is_least weights) weights place (pos 0) (omega (arith, best.0))
    (λ k before. list_all_at (λ other. int_le (weight k) other) weights place (pos 0) best.0 (above (weight place) (weight k) (best.2 k (pos 0) before)))
    (λ _. list_all-from_AllPass (λ other. int_le (weight place) other) weights
    (All-from_get_or (λ other. int_le (weight place) other ≡ true) weights (pos 0) (λ k h. at_most (weight place) (weight k) (best.1 k (pos 0) h)))))

pub is_first_greatest : (weights : List ℤ) (place : ℕ) → IsFirstBest (λ x y. int_lt y x) weights (length weights) place → place ≡ first_greatest weights
is_first_greatest weights place best =
    let weight : ℕ → ℤ = λ k. get_or weights k (pos 0) in
    sym (position_or_len_is (is_greatest weights) weights place (pos 0) (omega (arith, best.0))
    (λ k before. list_all_at (λ other. int_le other (weight k)) weights place (pos 0) best.0 (above (weight k) (weight place) (best.2 k (pos 0) before)))
    (λ _. list_all-from_AllPass (λ other. int_le other (weight place)) weights
    (All-from_get_or (λ other. int_le other (weight place) ≡ true) weights (pos 0) (λ k h. at_most (weight k) (weight place) (best.1 k (pos 0) h)))))

pub first_least_is : (weights : List ℤ) → 0 < length weights → IsFirstBest int_lt weights (length weights) (first_least weights)
first_least_is [] h = absurd (omega arith)
first_least_is (w ∷ ws) h =
    let found = IsFirstBest-from_best_of less w ws in
    subst (λ k. IsFirstBest int_lt (w ∷ ws) (length (w ∷ ws)) k) (is_first_least (w ∷ ws) found.0 found.1) found.1

pub first_greatest_is : (weights : List ℤ) → 0 < length weights → IsFirstBest (λ x y. int_lt y x) weights (length weights) (first_greatest weights)
first_greatest_is [] h = absurd (omega arith)
first_greatest_is (w ∷ ws) h =
    let found = IsFirstBest-from_best_of greater w ws in
    subst (λ k. IsFirstBest (λ x y. int_lt y x) (w ∷ ws) (length (w ∷ ws)) k) (is_first_greatest (w ∷ ws) found.0 found.1) found.1

pub place_there : (rest : Rest) (weights : List ℤ) → 0 < length weights → place_of_rest rest weights < length weights
place_there First weights h = h
place_there Last weights h = omega arith
place_there Min weights h = (first_least_is weights h).0
place_there Max weights h = (first_greatest_is weights h).0
