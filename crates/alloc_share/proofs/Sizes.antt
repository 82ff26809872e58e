-- Sizes of weights, products and quotients, so that they fit 128 bits.
use Rattle.std.proofs.Common.{◌≡◌, ◌≢◌, ◌+ℤ◌, ◌-ℤ◌, ap, to_z, of_z, List, length, get_or, ◌∙◌, ℕ, zero, suc, ◌+◌, ◌*◌, ◌/◌, ◌<◌, ◌≤◌, ℤ, pos, negsuc, neg_ℤ, ◌*ℤ◌, int_div, int_le, unsigned_abs, FitsSigned, true, false, arith, lit<, w64, refl, sym, subst}
use mir.Syntax.{w128}
use Rattle.std.proofs.Math.Nat.{div-le_self}
use Rattle.std.proofs.lemmas.Bool.Decides.{nat_tests}
use Rattle.std.proofs.lemmas.Int.{ints, to_z-of_z, unsigned_abs-mul, fits_signed_mul, fits_signed_from_abs}
use Rattle.std.proofs.lemmas.Bool.{and_parts, false≢true}
use Rattle.std.proofs.lemmas.List.Sums.{AllPass-from_list_all}
use Rattle.std.proofs.lemmas.Nat.{mul-le}
use Rattle.std.specs.Int.Signed.{nat_abs-le}
use Rattle.alloc_share.specs.Shares.{is_within, is_weight, are_weights, truncated}

pub abs_neg : (n : ℕ) → unsigned_abs (neg_ℤ (pos n)) ≡ n
abs_neg zero = refl
abs_neg (suc n) = refl

pub quotient_small : (a d : ℤ) → unsigned_abs (int_div a d) ≤ unsigned_abs a
quotient_small (pos a) (pos b) = div-le_self a b
quotient_small (pos a) (negsuc b) = subst (λ n. n ≤ a) (sym (abs_neg (a / suc b))) (div-le_self a (suc b))
quotient_small (negsuc a) (pos b) = subst (λ n. n ≤ suc a) (sym (abs_neg (suc a / b))) (div-le_self (suc a) b)
quotient_small (negsuc a) (negsuc b) = div-le_self (suc a) (suc b)

pub within_small : (most : ℕ) (x : ℤ) → is_within (pos most) x ≡ true → unsigned_abs x ≤ most
within_small zero (pos n) h = grind (arith, ints, nat_tests)
within_small zero (negsuc n) h = grind (arith, ints, nat_tests)
within_small (suc most) (pos n) h = grind (arith, ints, nat_tests)
within_small (suc most) (negsuc n) h = grind (arith, ints, nat_tests)

pub weight_small : (weight : ℤ) → is_weight weight ≡ true → unsigned_abs weight ≤ 999999999999999999
weight_small weight h = within_small 999999999999999999 weight h

pub weight_fits : (weight : ℤ) → is_weight weight ≡ true → FitsSigned w128 weight
weight_fits weight h =
    let small : unsigned_abs weight < 170141183460469231731687303715884105728 = omega (arith, weight_small weight h) in
    fits_signed_from_abs w128 weight small

pub weight_at : (weights : List ℤ) (place : ℕ) → are_weights weights ≡ true → place < length weights → is_weight (to_z w128 (of_z w128 (get_or weights place (pos 0)))) ≡ true
weight_at weights place h there =
    let here : is_weight (get_or weights place (pos 0)) ≡ true = AllPass-from_list_all is_weight weights h place (pos 0) there in
    ap is_weight (to_z-of_z w128 (get_or weights place (pos 0)) (weight_fits (get_or weights place (pos 0)) here)) ∙ here

pub product_fits : (amount parts : ℤ) → FitsSigned w64 amount → is_weight parts ≡ true → FitsSigned w128 (amount *ℤ parts)
product_fits amount parts f h =
    fits_signed_mul w128 amount parts 9223372036854775808 999999999999999999 (nat_abs-le amount f.sfits) (weight_small parts h) (lit< tt)

pub quotient_fits : (amount parts all_parts : ℤ) → FitsSigned w64 amount → is_weight parts ≡ true → FitsSigned w128 (int_div (amount *ℤ parts) all_parts)
quotient_fits amount parts all_parts f h =
    let whole : unsigned_abs amount * unsigned_abs parts ≤ 9223372036854775808 * 999999999999999999 =
    mul-le (unsigned_abs amount) (unsigned_abs parts) 9223372036854775808 999999999999999999 (nat_abs-le amount f.sfits) (weight_small parts h) in
    let small : unsigned_abs (int_div (amount *ℤ parts) all_parts) < 170141183460469231731687303715884105728 =
    omega (arith, whole, unsigned_abs-mul amount parts, quotient_small (amount *ℤ parts) all_parts) in
    fits_signed_from_abs w128 (int_div (amount *ℤ parts) all_parts) small

-- ---- a quotient as the code computes it

pub wide_fits : (z : ℤ) → FitsSigned w64 z → FitsSigned w128 z
wide_fits z f = record { sfits = omega (arith, f.sfits) }

pub wide_is : (z : ℤ) → FitsSigned w64 z → to_z w128 (of_z w128 (to_z w64 (of_z w64 z))) ≡ z
wide_is z f = ap (λ x. to_z w128 (of_z w128 x)) (to_z-of_z w64 z f) ∙ to_z-of_z w128 z (wide_fits z f)

pub computed : (amount parts all_parts : ℤ) → FitsSigned w64 amount → is_weight parts ≡ true → FitsSigned w128 all_parts
    → int_div (to_z w128 (of_z w128 (to_z w128 (of_z w128 (to_z w64 (of_z w64 amount))) *ℤ to_z w128 (of_z w128 parts)))) (to_z w128 (of_z w128 all_parts)) ≡ int_div (amount *ℤ parts) all_parts
computed amount parts all_parts f h g =
    ap (λ z. int_div (to_z w128 (of_z w128 (z *ℤ to_z w128 (of_z w128 parts)))) (to_z w128 (of_z w128 all_parts))) (wide_is amount f)
    ∙ ap (λ z. int_div (to_z w128 (of_z w128 (amount *ℤ z))) (to_z w128 (of_z w128 all_parts))) (to_z-of_z w128 parts (weight_fits parts h))
    ∙ ap (λ z. int_div z (to_z w128 (of_z w128 all_parts))) (to_z-of_z w128 (amount *ℤ parts) (product_fits amount parts f h))
    ∙ ap (λ z. int_div (amount *ℤ parts) z) (to_z-of_z w128 all_parts g)

pub computed_fits : (amount parts all_parts : ℤ) → FitsSigned w64 amount → is_weight parts ≡ true → FitsSigned w128 all_parts
    → FitsSigned w128 (int_div (to_z w128 (of_z w128 (to_z w128 (of_z w128 (to_z w64 (of_z w64 amount))) *ℤ to_z w128 (of_z w128 parts)))) (to_z w128 (of_z w128 all_parts)))
computed_fits amount parts all_parts f h g =
    let P : ℤ → Type 0 = λ z. FitsSigned w128 z in
    subst P (sym (computed amount parts all_parts f h g)) (quotient_fits amount parts all_parts f h)

pub truncated_is : (amount parts all_parts : ℤ) → int_div (amount *ℤ parts) all_parts ≡ truncated amount parts all_parts
unfolding truncated
truncated_is amount parts all_parts = refl

pub computed_is : (amount parts all_parts : ℤ) → FitsSigned w64 amount → is_weight parts ≡ true → FitsSigned w128 all_parts
    → to_z w128 (of_z w128 (int_div (to_z w128 (of_z w128 (to_z w128 (of_z w128 (to_z w64 (of_z w64 amount))) *ℤ to_z w128 (of_z w128 parts)))) (to_z w128 (of_z w128 all_parts)))) ≡ truncated amount parts all_parts
computed_is amount parts all_parts f h g =
    ap (λ z. to_z w128 (of_z w128 z)) (computed amount parts all_parts f h g)
    ∙ to_z-of_z w128 (int_div (amount *ℤ parts) all_parts) (quotient_fits amount parts all_parts f h)
    ∙ truncated_is amount parts all_parts

pub nonzero_bits : (z : ℤ) → FitsSigned w128 z → z ≢ pos 0 → 0 < of_z w128 z
nonzero_bits (pos zero) f h = absurd (h refl)
nonzero_bits (pos (suc n)) f h = omega arith
nonzero_bits (negsuc n) f h = omega (arith, f.sfits)

-- ---- sums of shares

pub abs_sum : (a b : ℤ) → unsigned_abs (a +ℤ b) ≤ unsigned_abs a + unsigned_abs b
abs_sum (pos a) (pos b) = omega (arith, ints)
abs_sum (pos a) (negsuc b) = grind (arith, ints)
abs_sum (negsuc a) (pos b) = grind (arith, ints)
abs_sum (negsuc a) (negsuc b) = omega (arith, ints)

pub abs_difference : (a b : ℤ) → unsigned_abs (a -ℤ b) ≤ unsigned_abs a + unsigned_abs b
abs_difference (pos a) (pos b) = grind (arith, ints)
abs_difference (pos a) (negsuc b) = grind (arith, ints)
abs_difference (negsuc a) (pos b) = grind (arith, ints)
abs_difference (negsuc a) (negsuc b) = grind (arith, ints)

-- a share that is within the limit of 64 bits
pub share_small : (limit share : ℤ) → FitsSigned w64 limit → is_within limit share ≡ true → unsigned_abs share ≤ 9223372036854775807
share_small (pos n) share f h = omega (arith, f.sfits, within_small n share h)
share_small (negsuc n) (pos k) f h = absurd (false≢true (and_parts (int_le (pos (suc n)) (pos k)) false h).1)
share_small (negsuc n) (negsuc k) f h = absurd (false≢true (and_parts false (int_le (negsuc k) (negsuc n)) h).0)

pub sum_fits : (sum share : ℤ) (places : ℕ) → unsigned_abs sum ≤ places * 9223372036854775807 → places < 18446744073709551615 → unsigned_abs share ≤ 9223372036854775807 → FitsSigned w128 (sum +ℤ share)
sum_fits sum share places h few k =
    let small : unsigned_abs (sum +ℤ share) < 170141183460469231731687303715884105728 = omega (arith, abs_sum sum share, h, few, k) in
    fits_signed_from_abs w128 (sum +ℤ share) small

-- ---- the remainder as the code computes it

pub difference_fits : (amount sum : ℤ) → FitsSigned w64 amount → unsigned_abs sum < 170141183460469231713240559642174554112 → FitsSigned w128 (amount -ℤ sum)
difference_fits amount sum f h =
    let small : unsigned_abs (amount -ℤ sum) < 170141183460469231731687303715884105728 = omega (arith, abs_difference amount sum, nat_abs-le amount f.sfits, h) in
    fits_signed_from_abs w128 (amount -ℤ sum) small

pub difference_is : (amount sum : ℤ) → FitsSigned w64 amount → unsigned_abs sum < 170141183460469231713240559642174554112
    → to_z w128 (of_z w128 (to_z w128 (of_z w128 (to_z w64 (of_z w64 amount))) -ℤ to_z w128 (of_z w128 sum))) ≡ amount -ℤ sum
difference_is amount sum f h =
    let fits : FitsSigned w128 sum = fits_signed_from_abs w128 sum (omega (arith, h)) in
    ap (λ z. to_z w128 (of_z w128 (z -ℤ to_z w128 (of_z w128 sum)))) (wide_is amount f)
    ∙ ap (λ z. to_z w128 (of_z w128 (amount -ℤ z))) (to_z-of_z w128 sum fits)
    ∙ to_z-of_z w128 (amount -ℤ sum) (difference_fits amount sum f h)

pub difference_small : (amount sum : ℤ) → FitsSigned w64 amount → unsigned_abs sum < 170141183460469231713240559642174554112
    → unsigned_abs (to_z w128 (of_z w128 (to_z w128 (of_z w128 (to_z w64 (of_z w64 amount))) -ℤ to_z w128 (of_z w128 sum)))) ≤ unsigned_abs sum + 9223372036854775808
difference_small amount sum f h =
    let P : ℤ → Type 0 = λ z. unsigned_abs z ≤ unsigned_abs sum + 9223372036854775808 in
    let small : unsigned_abs (amount -ℤ sum) ≤ unsigned_abs sum + 9223372036854775808 = omega (arith, abs_difference amount sum, nat_abs-le amount f.sfits) in
    subst P (sym (difference_is amount sum f h)) small

-- a share of 64 bits
pub share_fits : (share : ℤ) → is_within (pos 9223372036854775807) share ≡ true → FitsSigned w64 share
share_fits share h = fits_signed_from_abs w64 share (omega (arith, within_small 9223372036854775807 share h))

pub small_within : (most : ℕ) (x : ℤ) → unsigned_abs x ≤ most → is_within (pos most) x ≡ true
small_within zero (pos zero) h = refl
small_within zero (pos (suc n)) h = absurd (omega (arith, h))
small_within zero (negsuc n) h = absurd (omega (arith, h))
small_within (suc most) (pos n) h = grind (arith, ints, nat_tests)
small_within (suc most) (negsuc n) h = grind (arith, ints, nat_tests)

pub within_words : (limit share : ℤ) → FitsSigned w64 limit → is_within limit share ≡ true → is_within (pos 9223372036854775807) share ≡ true
within_words limit share f h = small_within 9223372036854775807 share (share_small limit share f h)

pub full_fits : (share rest : ℤ) (sum : ℤ) (places : ℕ) → unsigned_abs share ≤ 9223372036854775807 → unsigned_abs rest ≤ unsigned_abs sum + 9223372036854775808
    → unsigned_abs sum ≤ places * 9223372036854775807 → places < 18446744073709551616 → FitsSigned w128 (share +ℤ rest)
full_fits share rest sum places h k l few =
    let small : unsigned_abs (share +ℤ rest) < 170141183460469231731687303715884105728 = omega (arith, abs_sum share rest, h, k, l, few) in
    fits_signed_from_abs w128 (share +ℤ rest) small

pub wide_sum_fits : (a b : ℤ) → FitsSigned w128 a → FitsSigned w128 b → FitsSigned w128 (a +ℤ b) → FitsSigned w128 (to_z w128 (of_z w128 a) +ℤ to_z w128 (of_z w128 b))
wide_sum_fits a b f g h =
    let P : ℤ → Type 0 = λ z. FitsSigned w128 (z +ℤ to_z w128 (of_z w128 b)) in
    let Q : ℤ → Type 0 = λ z. FitsSigned w128 (a +ℤ z) in
    subst P (sym (to_z-of_z w128 a f)) (subst Q (sym (to_z-of_z w128 b g)) h)
