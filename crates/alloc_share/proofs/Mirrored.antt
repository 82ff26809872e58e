-- An amount below zero, and equal weights.
use Rattle.std.proofs.Common.{◌≡◌, ◌≢◌, ◌∙◌, ℕ, zero, suc, ◌*◌, ◌/◌, ◌<◌, ◌≤◌, unsigned_abs, ℤ, pos, negsuc, neg_ℤ, ◌+ℤ◌, ◌-ℤ◌, ◌*ℤ◌, int_le, int_div, Bool, true, false, cond, ◌&&◌, List, [], ◌∷◌, length, map, set, get_or, All, Result, Ok, arith, refl, ap, sym}
use Rattle.std.specs.Ordering.{int_eq}
use Rattle.std.proofs.Math.Nat.{mul-div-mul_right, zero-div}
use Rattle.std.proofs.lemmas.Bool.{true≢false, false≢true}
use Rattle.std.proofs.lemmas.Int.{ints, unsigned_abs-mul}
use Rattle.std.proofs.lemmas.List.{get_or-map, map-set}
use Rattle.std.proofs.lemmas.List.Elements.{All-head, All-tail}
use Rattle.aw_cell.specs.declared.operator.Rest.{Rest}
use Rattle.aw_cell.specs.declared.operator.Spread.{Spread}
use Rattle.aw_cell.specs.declared.operator.Spread.TheVariants.{Even, Proportional}
use Rattle.alloc_share.specs.declared.fault.ShareFault.{ShareFault}
use Rattle.alloc_share.specs.Places.{place_of_rest}
use Rattle.alloc_share.specs.Shares.{total, is_within, are_within, are_weights, parts_of, parts_in_all, truncated, truncated_shares, adds_up, remainder, raised, full_shares, shares_of}
use Rattle.alloc_share.specs.Laws.{SharesMirror, EqualWeightsShareEvenly}
use Rattle.alloc_share.proofs.FirstBest.{place_there}
use Rattle.alloc_share.proofs.Granted.{by_tests}
use Rattle.alloc_share.proofs.Granting.{not_zero}
use Rattle.alloc_share.proofs.SharesLaws.{granted, length_shares, nonzero_size, one_part}
use Rattle.std.proofs.lemmas.Nat.{mul-le}
use Rattle.alloc_share.proofs.Sizes.{truncated_is}
use Rattle.alloc_share.proofs.Totals.{total-cons}

-- ---- negation

neg_neg : (z : ℤ) → neg_ℤ (neg_ℤ z) ≡ z
neg_neg (pos zero) = refl
neg_neg (pos (suc n)) = refl
neg_neg (negsuc n) = refl

no_times : (z : ℤ) → pos 0 *ℤ z ≡ pos 0
no_times z = omega (arith, ints)

neg_product : (a b : ℤ) → neg_ℤ a *ℤ b ≡ neg_ℤ (a *ℤ b)
neg_product (pos zero) b = no_times b ∙ sym (ap neg_ℤ (no_times b))
neg_product (pos (suc n)) (pos b) = refl
neg_product (pos (suc n)) (negsuc b) = sym (neg_neg (pos (suc n * suc b)))
neg_product (negsuc n) (pos b) = sym (neg_neg (pos (suc n * b)))
neg_product (negsuc n) (negsuc b) = refl

none : (d : ℤ) → int_div (pos 0) d ≡ pos 0
none (pos b) = ap pos (zero-div b)
none (negsuc b) = ap (λ n. neg_ℤ (pos n)) (zero-div (suc b))

neg_quotient : (a d : ℤ) → int_div (neg_ℤ a) d ≡ neg_ℤ (int_div a d)
neg_quotient (pos zero) d = none d ∙ sym (ap neg_ℤ (none d))
neg_quotient (pos (suc n)) (pos b) = refl
neg_quotient (pos (suc n)) (negsuc b) = sym (neg_neg (pos (suc n / suc b)))
neg_quotient (negsuc n) (pos b) = sym (neg_neg (pos (suc n / b)))
neg_quotient (negsuc n) (negsuc b) = refl

neg_truncated : (amount parts all_parts : ℤ) → truncated (neg_ℤ amount) parts all_parts ≡ neg_ℤ (truncated amount parts all_parts)
neg_truncated amount parts all_parts =
    sym (truncated_is (neg_ℤ amount) parts all_parts) ∙ ap (λ z. int_div z all_parts) (neg_product amount parts)
    ∙ neg_quotient (amount *ℤ parts) all_parts ∙ ap neg_ℤ (truncated_is amount parts all_parts)

neg_sum : (a b : ℤ) → neg_ℤ a +ℤ neg_ℤ b ≡ neg_ℤ (a +ℤ b)
neg_sum a b = omega (arith, ints)

neg_difference : (a b : ℤ) → neg_ℤ a -ℤ neg_ℤ b ≡ neg_ℤ (a -ℤ b)
neg_difference a b = omega (arith, ints)

neg_total : (xs : List ℤ) → total (map neg_ℤ xs) ≡ neg_ℤ (total xs)
neg_total [] = refl
neg_total (x ∷ xs) =
    total-cons (neg_ℤ x) (map neg_ℤ xs) ∙ ap (λ z. neg_ℤ x +ℤ z) (neg_total xs) ∙ neg_sum x (total xs) ∙ sym (ap neg_ℤ (total-cons x xs))

turned : (x y : ℤ) → int_le (neg_ℤ y) (neg_ℤ x) ≡ int_le x y
turned x y = grind (arith, ints)

turned' : (x y : ℤ) → int_le (neg_ℤ y) x ≡ int_le (neg_ℤ x) y
turned' x y = grind (arith, ints)

swapped : (a b : Bool) → (a && b) ≡ (b && a)
swapped true true = refl
swapped true false = refl
swapped false true = refl
swapped false false = refl

neg_within : (most x : ℤ) → is_within most (neg_ℤ x) ≡ is_within most x
neg_within most x =
    ap (λ b. b && int_le (neg_ℤ x) most) (turned x most)
    ∙ ap (λ b. int_le x most && b) (turned' most x)
    ∙ swapped (int_le x most) (int_le (neg_ℤ most) x)

neg_all_within : (most : ℤ) (xs : List ℤ) → are_within most (map neg_ℤ xs) ≡ are_within most xs
neg_all_within most [] = refl
neg_all_within most (x ∷ xs) = ap (λ b. b && are_within most (map neg_ℤ xs)) (neg_within most x) ∙ ap (λ b. is_within most x && b) (neg_all_within most xs)

-- ---- the shares of the amount below zero

mapped : (f g : ℤ → ℤ) → ((w : ℤ) → f w ≡ neg_ℤ (g w)) → (ws : List ℤ) → map f ws ≡ map neg_ℤ (map g ws)
mapped f g same [] = refl
mapped f g same (w ∷ ws) = ap (λ x. x ∷ map f ws) (same w) ∙ ap (λ xs. neg_ℤ (g w) ∷ xs) (mapped f g same ws)

neg_shares : (how : Spread) (amount : ℤ) (weights : List ℤ) → truncated_shares how (neg_ℤ amount) weights ≡ map neg_ℤ (truncated_shares how amount weights)
neg_shares how amount weights =
    mapped (λ w. truncated (neg_ℤ amount) (parts_of how w) (parts_in_all how weights)) (λ w. truncated amount (parts_of how w) (parts_in_all how weights))
    (λ w. neg_truncated amount (parts_of how w) (parts_in_all how weights)) weights

neg_cond : (b : Bool) (z : ℤ) → cond b (neg_ℤ z) (pos 0) ≡ neg_ℤ (cond b z (pos 0))
neg_cond true z = refl
neg_cond false z = refl

neg_remainder : (how : Spread) (amount : ℤ) (weights : List ℤ) → remainder how (neg_ℤ amount) weights ≡ neg_ℤ (remainder how amount weights)
neg_remainder how amount weights =
    let all : ℤ = total (truncated_shares how amount weights) in
    ap (λ xs. cond (adds_up how) (neg_ℤ amount -ℤ total xs) (pos 0)) (neg_shares how amount weights)
    ∙ ap (λ z. cond (adds_up how) (neg_ℤ amount -ℤ z) (pos 0)) (neg_total (truncated_shares how amount weights))
    ∙ ap (λ z. cond (adds_up how) z (pos 0)) (neg_difference amount all)
    ∙ neg_cond (adds_up how) (amount -ℤ all)

neg_raised : (more : ℤ) (place : ℕ) (shares : List ℤ) → place < length shares → raised (neg_ℤ more) place (map neg_ℤ shares) ≡ map neg_ℤ (raised more place shares)
neg_raised more place shares there =
    ap (λ z. set (map neg_ℤ shares) place (z +ℤ neg_ℤ more)) (get_or-map neg_ℤ shares place (pos 0) (pos 0) there)
    ∙ ap (set (map neg_ℤ shares) place) (neg_sum (get_or shares place (pos 0)) more)
    ∙ sym (map-set neg_ℤ shares place (get_or shares place (pos 0) +ℤ more))

neg_full : (how : Spread) (rest : Rest) (amount : ℤ) (weights : List ℤ) → 0 < length weights → full_shares how rest (neg_ℤ amount) weights ≡ map neg_ℤ (full_shares how rest amount weights)
neg_full how rest amount weights h =
    let there : place_of_rest rest weights < length (truncated_shares how amount weights) = omega (arith, length_shares how amount weights, place_there rest weights h) in
    ap (λ xs. raised (remainder how (neg_ℤ amount) weights) (place_of_rest rest weights) xs) (neg_shares how amount weights)
    ∙ ap (λ z. raised z (place_of_rest rest weights) (map neg_ℤ (truncated_shares how amount weights))) (neg_remainder how amount weights)
    ∙ neg_raised (remainder how amount weights) (place_of_rest rest weights) (truncated_shares how amount weights) there

chosen : (a b c d : Bool) (shares given : List ℤ) → a ≡ true → b ≡ false → c ≡ true → d ≡ true → shares ≡ given → by_tests a b c d shares ≡ Ok given
chosen true false true true shares given e f g h i = ap Ok i
chosen true false true false shares given e f g h i = absurd (false≢true h)
chosen true false false d shares given e f g h i = absurd (false≢true g)
chosen true true c d shares given e f g h i = absurd (true≢false f)
chosen false b c d shares given e f g h i = absurd (false≢true e)

pub shares_mirror : SharesMirror
shares_mirror how rest amount weights most shares h e =
    let g = granted how rest amount weights most shares e in
    chosen (are_weights weights) (int_eq (parts_in_all how weights) (pos 0)) (are_within most (truncated_shares how (neg_ℤ amount) weights)) (are_within most (full_shares how rest (neg_ℤ amount) weights))
    (full_shares how rest (neg_ℤ amount) weights) (map neg_ℤ shares) g.weights_fit g.basis
    (ap (are_within most) (neg_shares how amount weights) ∙ neg_all_within most (truncated_shares how amount weights) ∙ g.before)
    (ap (are_within most) (neg_full how rest amount weights h) ∙ neg_all_within most (full_shares how rest amount weights) ∙ g.after)
    (neg_full how rest amount weights h ∙ ap (map neg_ℤ) (sym g.are))

-- ---- equal weights

one_more : (n : ℕ) (z : ℤ) → z +ℤ pos n *ℤ z ≡ pos (suc n) *ℤ z
one_more n z = omega (arith, ints)

equal_total : (weights : List ℤ) (weight : ℤ) → All (λ other. other ≡ weight) weights → total weights ≡ pos (length weights) *ℤ weight
equal_total [] weight same = sym (no_times weight)
equal_total (w ∷ ws) weight same =
    total-cons w ws ∙ ap (λ z. z +ℤ total ws) (All-head (λ other. other ≡ weight) w ws same)
    ∙ ap (λ z. weight +ℤ z) (equal_total ws weight (All-tail (λ other. other ≡ weight) w ws same)) ∙ one_more (length ws) weight

more : (n m : ℕ) → 0 < n → 0 < n * suc m
more n m h = omega (arith, mul-le 1 1 n (suc m) h (omega arith))

positive : (n : ℕ) → 0 < n → pos n ≡ pos 0 → ⊥
positive n h e = omega (arith, ints)

product : (n : ℕ) (weight : ℤ) → 0 < n → weight ≢ pos 0 → pos n *ℤ weight ≡ pos 0 → ⊥
product n weight h nonzero e =
    let size : n * unsigned_abs weight ≡ 0 = sym (unsigned_abs-mul (pos n) weight) ∙ ap unsigned_abs e in
    let least : 1 * 1 ≤ n * unsigned_abs weight = mul-le 1 1 n (unsigned_abs weight) h (nonzero_size weight nonzero) in
    omega arith

both_below : (a b : ℕ) → 0 < b → int_div (neg_ℤ (pos a)) (neg_ℤ (pos b)) ≡ pos (a / b)
both_below a zero h = absurd (omega arith)
both_below a (suc b) h = neg_quotient (pos a) (negsuc b) ∙ neg_neg (pos (a / suc b))

scaled_count : (x : ℕ) (weight : ℤ) (n : ℕ) → 0 < n → weight ≢ pos 0 → int_div (pos x *ℤ weight) (pos n *ℤ weight) ≡ pos (x / n)
scaled_count x (pos zero) n few h = absurd (h refl)
scaled_count x (pos (suc m)) n few h = ap pos (mul-div-mul_right x n (omega arith))
scaled_count x (negsuc m) n few h = both_below (x * suc m) (n * suc m) (more n m few) ∙ ap pos (mul-div-mul_right x n (omega arith))

scaled : (amount weight : ℤ) (n : ℕ) → 0 < n → weight ≢ pos 0 → int_div (amount *ℤ weight) (pos n *ℤ weight) ≡ int_div amount (pos n)
scaled (pos x) weight n few h = scaled_count x weight n few h
scaled (negsuc x) weight n few h =
    ap (λ z. int_div z (pos n *ℤ weight)) (neg_product (pos (suc x)) weight) ∙ neg_quotient (pos (suc x) *ℤ weight) (pos n *ℤ weight)
    ∙ ap neg_ℤ (scaled_count (suc x) weight n few h)

same_parts : (f g : ℤ → ℤ) (weight : ℤ) → f weight ≡ g weight → (weights : List ℤ) → All (λ other. other ≡ weight) weights → map f weights ≡ map g weights
same_parts f g weight e [] same = refl
same_parts f g weight e (w ∷ ws) same =
    let is : w ≡ weight = All-head (λ other. other ≡ weight) w ws same in
    ap (λ x. x ∷ map f ws) (ap f is ∙ e ∙ sym (ap g is)) ∙ ap (λ xs. g w ∷ xs) (same_parts f g weight e ws (All-tail (λ other. other ≡ weight) w ws same))

-- the answer, where the shares are to add up, by the test of the basis and the truncated shares
by_shares : Rest → ℤ → List ℤ → ℤ → Bool → List ℤ → Result (List ℤ) ShareFault
by_shares rest amount weights most b cut =
    let full : List ℤ = raised (amount -ℤ total cut) (place_of_rest rest weights) cut in
    by_tests (are_weights weights) b (are_within most cut) (are_within most full) full

pub equal_weights_share_evenly : EqualWeightsShareEvenly
unfolding by_shares
equal_weights_share_evenly rest amount weights weight most h nonzero same =
    let n : ℕ = length weights in
    let all : total weights ≡ pos n *ℤ weight = equal_total weights weight same in
    let counted : pos n ≢ pos 0 = λ e. positive n h e in
    let basis : total weights ≢ pos 0 = λ e. product n weight h nonzero (sym all ∙ e) in
    let part : truncated amount weight (total weights) ≡ truncated amount (pos 1) (pos n) =
    sym (truncated_is amount weight (total weights)) ∙ ap (int_div (amount *ℤ weight)) all ∙ scaled amount weight n h nonzero ∙ sym (one_part amount (pos n)) in
    let parts : truncated_shares Proportional amount weights ≡ truncated_shares Even amount weights =
    same_parts (λ w. truncated amount w (total weights)) (λ w. truncated amount (pos 1) (pos n)) weight part weights same in
    let first : shares_of Proportional rest amount weights most ≡ by_shares rest amount weights most (int_eq (total weights) (pos 0)) (truncated_shares Proportional amount weights) = refl in
    let last : shares_of Even rest amount weights most ≡ by_shares rest amount weights most (int_eq (pos n) (pos 0)) (truncated_shares Even amount weights) = refl in
    first ∙ ap (λ b. by_shares rest amount weights most b (truncated_shares Proportional amount weights)) (not_zero (total weights) basis ∙ sym (not_zero (pos n) counted))
    ∙ ap (by_shares rest amount weights most (int_eq (pos n) (pos 0))) parts ∙ sym last
