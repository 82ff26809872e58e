-- The whole number nearest to a quotient, from the quotient and the remainder.
use Rattle.std.proofs.Common.{◌≡◌, ◌≤◌, ◌<◌, ◌*◌, ◌+◌, ◌-◌, ◌/◌, ◌%◌, ◌^◌, ℕ, zero, suc, ◌∙◌, refl, ap, sym, arith, unsigned_abs, Bool, true, false, ℤ, pos, negsuc, neg_ℤ, ◌+ℤ◌, ◌*ℤ◌, ◌-ℤ◌, ◌<ℤ◌, ◌≤ℤ◌, FitsSigned}
use Rattle.std.specs.Int.RustNames.{int_div, int_rem}
use Rattle.std.specs.Int.{is_negative, w128}
use Rattle.std.specs.Bool.{beq}
use Rattle.std.proofs.lemmas.Int.{ints, fits_signed_from_abs, unsigned_abs-mul, quot-rem, rem_below}
use Rattle.std.proofs.lemmas.Nat.{div-mul-add, div-add-mod', mul-le}
use Rattle.std.proofs.Math.Nat.{mod-lt}
use Rattle.std.proofs.lemmas.Bool.Decides.{nat_tests}
use Rattle.aw_cell.specs.Rounding.{nearest, rounded, signed}

rounded_alike : (p q : ℤ) (size : ℕ) → beq (is_negative p) (is_negative q) ≡ true → size ≡ nearest (unsigned_abs p) (unsigned_abs q) → pos size ≡ rounded p q
unfolding rounded
rounded_alike p q size same e = ap pos e ∙ sym (ap (λ b. signed b (nearest (unsigned_abs p) (unsigned_abs q))) same)

rounded_unlike : (p q : ℤ) (size : ℕ) → beq (is_negative p) (is_negative q) ≡ false → size ≡ nearest (unsigned_abs p) (unsigned_abs q) → neg_ℤ (pos size) ≡ rounded p q
unfolding rounded
rounded_unlike p q size other e = ap (λ s. neg_ℤ (pos s)) e ∙ sym (ap (λ b. signed b (nearest (unsigned_abs p) (unsigned_abs q))) other)

not_negative : (n : ℕ) → is_negative (pos n) ≡ false
not_negative n = grind (arith, nat_tests)

size_of : (sign : Bool) (x : ℕ) → unsigned_abs (signed sign x) ≡ x
size_of true x = refl
size_of false zero = refl
size_of false (suc x) = refl

pub size_rounded : (a : ℤ) (q : ℕ) → unsigned_abs (rounded a (pos q)) ≡ nearest (unsigned_abs a) q
unfolding rounded
size_rounded a q = size_of (beq (is_negative a) (is_negative (pos q))) (nearest (unsigned_abs a) q)

nearest_low : (p q : ℕ) → 0 < q → 2 * (p % q) < q → p / q ≡ nearest p q
nearest_low p q some low =
    let whole = div-add-mod' p q in
    let is : 2 * p + q ≡ (p / q) * (2 * q) + (2 * (p % q) + q) = omega (arith, whole) in
    sym (ap (λ n. n / (2 * q)) is ∙ div-mul-add (p / q) (2 * q) (2 * (p % q) + q) (omega (arith, low)))

nearest_high : (p q : ℕ) → 0 < q → q ≤ 2 * (p % q) → p / q + 1 ≡ nearest p q
nearest_high p q some high =
    let whole = div-add-mod' p q in
    let less : p % q < q = mod-lt p some in
    let is : 2 * p + q ≡ (p / q + 1) * (2 * q) + (2 * (p % q) - q) = omega (arith, whole, high) in
    sym (ap (λ n. n / (2 * q)) is ∙ div-mul-add (p / q + 1) (2 * q) (2 * (p % q) - q) (omega (arith, less, high)))

abs_neg : (n : ℕ) → unsigned_abs (neg_ℤ (pos n)) ≡ n
abs_neg zero = refl
abs_neg (suc n) = refl

alike : (n q : ℕ) → beq (is_negative (pos n)) (is_negative (pos q)) ≡ true
alike n q = λ i. beq (not_negative n i) (not_negative q i)

unlike : (n q : ℕ) → beq (is_negative (negsuc n)) (is_negative (pos q)) ≡ false
unlike n q = λ i. beq (is_negative (negsuc n)) (not_negative q i)

pub mean_whole : (a : ℤ) (q : ℕ) → 0 < q → 2 * unsigned_abs (int_rem a (pos q)) < q → int_div a (pos q) ≡ rounded a (pos q)
mean_whole (pos n) q some low = rounded_alike (pos n) (pos q) (n / q) (alike n q) (nearest_low n q some low)
mean_whole (negsuc n) q some low =
    let rest = abs_neg (suc n % q) in
    rounded_unlike (negsuc n) (pos q) (suc n / q) (unlike n q) (nearest_low (suc n) q some (omega (arith, rest, low)))

pub mean_less : (a : ℤ) (q : ℕ) → 0 < q → a <ℤ pos 0 → q ≤ 2 * unsigned_abs (int_rem a (pos q)) → int_div a (pos q) -ℤ pos 1 ≡ rounded a (pos q)
mean_less (pos n) q some below high = absurd (omega (arith, ints, below))
mean_less (negsuc n) q some below high =
    let rest = abs_neg (suc n % q) in
    let size : neg_ℤ (pos (suc n / q)) -ℤ pos 1 ≡ neg_ℤ (pos (suc n / q + 1)) = omega (arith, ints) in
    size ∙ rounded_unlike (negsuc n) (pos q) (suc n / q + 1) (unlike n q) (nearest_high (suc n) q some (omega (arith, rest, high)))

pub mean_more : (a : ℤ) (q : ℕ) → 0 < q → pos 0 ≤ℤ a → q ≤ 2 * unsigned_abs (int_rem a (pos q)) → int_div a (pos q) +ℤ pos 1 ≡ rounded a (pos q)
mean_more (negsuc n) q some above high = absurd (omega (arith, ints, above))
mean_more (pos n) q some above high = rounded_alike (pos n) (pos q) (n / q + 1) (alike n q) (nearest_high n q some high)

-- the same by a quotient and the sizes of a remainder and a divisor above zero
positive : (d : ℤ) → pos 0 <ℤ d → d ≡ pos (unsigned_abs d)
positive (pos n) above = refl
positive (negsuc n) above = absurd (omega (arith, ints, above))

pub whole_mean : (a d : ℤ) (rest size : ℕ) → pos 0 <ℤ d → rest ≡ unsigned_abs (int_rem a d) → size ≡ unsigned_abs d → 2 * rest < size → int_div a d ≡ rounded a d
whole_mean a d rest size above is_rest is_size low =
    let is = positive d above in
    let some : 0 < unsigned_abs d = omega (arith, ints, above, is) in
    let same : rest ≡ unsigned_abs (int_rem a (pos (unsigned_abs d))) = is_rest ∙ ap (λ x. unsigned_abs (int_rem a x)) is in
    ap (int_div a) is ∙ mean_whole a (unsigned_abs d) some (omega (arith, low, same, is_size)) ∙ ap (rounded a) (sym is)

pub less_mean : (a d : ℤ) (rest size : ℕ) → pos 0 <ℤ d → rest ≡ unsigned_abs (int_rem a d) → size ≡ unsigned_abs d → a <ℤ pos 0 → size ≤ 2 * rest → int_div a d -ℤ pos 1 ≡ rounded a d
less_mean a d rest size above is_rest is_size below high =
    let is = positive d above in
    let some : 0 < unsigned_abs d = omega (arith, ints, above, is) in
    let same : rest ≡ unsigned_abs (int_rem a (pos (unsigned_abs d))) = is_rest ∙ ap (λ x. unsigned_abs (int_rem a x)) is in
    ap (λ x. int_div a x -ℤ pos 1) is ∙ mean_less a (unsigned_abs d) some below (omega (arith, high, same, is_size)) ∙ ap (rounded a) (sym is)

pub more_mean : (a d : ℤ) (rest size : ℕ) → pos 0 <ℤ d → rest ≡ unsigned_abs (int_rem a d) → size ≡ unsigned_abs d → pos 0 ≤ℤ a → size ≤ 2 * rest → int_div a d +ℤ pos 1 ≡ rounded a d
more_mean a d rest size above is_rest is_size not_below high =
    let is = positive d above in
    let some : 0 < unsigned_abs d = omega (arith, ints, above, is) in
    let same : rest ≡ unsigned_abs (int_rem a (pos (unsigned_abs d))) = is_rest ∙ ap (λ x. unsigned_abs (int_rem a x)) is in
    ap (λ x. int_div a x +ℤ pos 1) is ∙ mean_more a (unsigned_abs d) some not_below (omega (arith, high, same, is_size)) ∙ ap (rounded a) (sym is)

-- where a remainder is half of its divisor or more, the quotient is far from the ends of the range
half : (a d : ℤ) → pos 0 <ℤ d → unsigned_abs d ≤ 2 * unsigned_abs (int_rem a d) → unsigned_abs a ≤ 2 ^ 127 → unsigned_abs d ≤ 2 ^ 64 → unsigned_abs (int_div a d) ≤ 2 ^ 126 + 2 ^ 64
half a d above high small few =
    let some : 0 < unsigned_abs d = let is = positive d above in omega (arith, ints, above, is) in
    let below = rem_below a d some in
    let size = unsigned_abs-mul (int_div a d) d in
    let apart : unsigned_abs (int_div a d *ℤ d) ≤ unsigned_abs a + unsigned_abs (int_rem a d) = let is = quot-rem a d in differ (int_div a d *ℤ d) (int_rem a d) a is in
    let twice = mul-le (unsigned_abs (int_div a d)) 2 (unsigned_abs (int_div a d)) (unsigned_abs d) (omega arith) (omega (arith, below, high)) in
    omega (arith, size, apart, twice, below, small, few)
  where
    differ : (x r y : ℤ) → x +ℤ r ≡ y → unsigned_abs x ≤ unsigned_abs y + unsigned_abs r
    differ x r y e = omega (arith, ints, e)

size_fits : (a : ℤ) → FitsSigned w128 a → unsigned_abs a ≤ 2 ^ 127
size_fits (pos n) f = omega (arith, f.sfits)
size_fits (negsuc n) f = omega (arith, f.sfits)

pub rem_fits : (a d : ℤ) → pos 0 <ℤ d → FitsSigned w128 d → FitsSigned w128 (int_rem a d)
rem_fits a d above f =
    let some : 0 < unsigned_abs d = let is = positive d above in omega (arith, ints, above, is) in
    let below = rem_below a d some in
    let size = size_fits d f in
    fits_signed_from_abs w128 (int_rem a d) (omega (arith, below, size))

pub less_fits : (a d : ℤ) → pos 0 <ℤ d → unsigned_abs d ≤ 2 * unsigned_abs (int_rem a d) → FitsSigned w128 a → unsigned_abs d ≤ 2 ^ 64 → FitsSigned w128 (int_div a d -ℤ pos 1)
less_fits a d above high f few =
    let size = half a d above high (size_fits a f) few in
    fits_signed_from_abs w128 (int_div a d -ℤ pos 1) (omega (arith, ints, size))

pub more_fits : (a d : ℤ) → pos 0 <ℤ d → unsigned_abs d ≤ 2 * unsigned_abs (int_rem a d) → FitsSigned w128 a → unsigned_abs d ≤ 2 ^ 64 → FitsSigned w128 (int_div a d +ℤ pos 1)
more_fits a d above high f few =
    let size = half a d above high (size_fits a f) few in
    fits_signed_from_abs w128 (int_div a d +ℤ pos 1) (omega (arith, ints, size))
