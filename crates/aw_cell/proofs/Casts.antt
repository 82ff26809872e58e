-- Numbers in words of 128 bits.
use Rattle.std.proofs.Common.{◌≡◌, ◌≤◌, ◌<◌, ◌*◌, ◌+◌, ◌∙◌, refl, ap, sym, lit<, arith, unsigned_abs, subst, IsOk, ◌↔◌, ℤ, pos, negsuc, ◌+ℤ◌, ◌-ℤ◌, ◌*ℤ◌, FitsSigned, to_z, of_z, w64}
use Rattle.std.specs.Prelude.{Result}
use mir.Syntax.{w128}
use lib.Signed.{mag}
use Rattle.std.proofs.lemmas.Int.{ints, to_z-of_z, fits_signed_mul, unsigned_abs-mul, fits_signed_from_abs}
use Rattle.std.proofs.Math.Nat.{mul-le-mul}
use Rattle.aw_cell.specs.declared.number.Arith.{Arith}
use Rattle.aw_cell.specs.Number.{IsInRange}
use Rattle.aw_cell.specs.Rounding.{rounded}
use Rattle.aw_cell.proofs.Rounding.{size_of_rounded}

-- a number in 64 bits, and then in 128
abbrev pub wide : ℤ → ℤ
wide z = to_z w128 (of_z w128 (to_z w64 (of_z w64 z)))

wide_value : (s x : ℤ) → s ≡ x → IsInRange s → wide s ≡ x
wide_value s x e h = omega (arith, ints)

pub narrow_value : (s x : ℤ) → s ≡ x → IsInRange s → to_z w64 (of_z w64 s) ≡ x
narrow_value s x e h = omega (arith, ints)

pub wide_sum : (s o x y : ℤ) → s ≡ x → o ≡ y → IsInRange s → IsInRange o → to_z w128 (of_z w128 (wide s +ℤ wide o)) ≡ x +ℤ y
wide_sum s o x y e f h i = omega (arith, ints)

pub wide_difference : (s o x y : ℤ) → s ≡ x → o ≡ y → IsInRange s → IsInRange o → to_z w128 (of_z w128 (wide s -ℤ wide o)) ≡ x -ℤ y
wide_difference s o x y e f h i = omega (arith, ints)

size_of : (z : ℤ) → IsInRange z → unsigned_abs z ≤ 999999999999999999
size_of (pos n) h = omega (arith, ints)
size_of (negsuc n) h = omega (arith, ints)

wide_product_same : (s o : ℤ) → IsInRange s → IsInRange o → to_z w128 (of_z w128 (wide s *ℤ wide o)) ≡ s *ℤ o
wide_product_same s o h i =
    let fits : FitsSigned w128 (s *ℤ o) = fits_signed_mul w128 s o 999999999999999999 999999999999999999 (size_of s h) (size_of o i) (lit< tt) in
    ap (λ a. to_z w128 (of_z w128 (a *ℤ wide o))) (wide_value s s refl h)
    ∙ ap (λ b. to_z w128 (of_z w128 (s *ℤ b))) (wide_value o o refl i)
    ∙ to_z-of_z w128 (s *ℤ o) fits

pub wide_product : (s o x y : ℤ) → s ≡ x → o ≡ y → IsInRange s → IsInRange o → to_z w128 (of_z w128 (wide s *ℤ wide o)) ≡ x *ℤ y
wide_product s o x y e f h i = wide_product_same s o h i ∙ ap (λ a. a *ℤ o) e ∙ ap (λ b. x *ℤ b) f

pub size_of_product : (s o : ℤ) → IsInRange s → IsInRange o → unsigned_abs (to_z w128 (of_z w128 (wide s *ℤ wide o))) ≤ 1000000000000000000000000000000000000
size_of_product s o h i =
    let e : unsigned_abs (to_z w128 (of_z w128 (wide s *ℤ wide o))) ≡ unsigned_abs s * unsigned_abs o =
    ap unsigned_abs (wide_product_same s o h i) ∙ unsigned_abs-mul s o in
    let m : unsigned_abs s * unsigned_abs o ≤ 999999999999999999 * 999999999999999999 = mul-le-mul (size_of s h) (size_of o i) in
    omega arith

pub wide_scaled : (s x : ℤ) → s ≡ x → IsInRange s → to_z w128 (of_z w128 (pos 10000 *ℤ wide s)) ≡ pos 10000 *ℤ x
wide_scaled s x e h = omega (arith, ints)

-- what is rounded in 128 bits, told of equal numbers
pub wide_rounded : (r p q p' q' : ℤ) → mag r < 170141183460469231731687303715884105728 → r ≡ rounded p q → p ≡ p' → q ≡ q' → to_z w128 (of_z w128 r) ≡ rounded p' q'
wide_rounded r p q p' q' small is e f =
    to_z-of_z w128 r (record { sfits = small }) ∙ is ∙ ap (λ a. rounded a q) e ∙ ap (λ b. rounded p' b) f

-- an answer's range, told of an equal count
pub same_range : (r : Result ℤ Arith) (z z' : ℤ) → z ≡ z' → (IsOk r) ↔ (IsInRange z) → (IsOk r) ↔ (IsInRange z')
same_range r z z' e h = let P : ℤ → Type 0 = λ z. (IsOk r) ↔ (IsInRange z) in subst P e h

-- a number rounded to whole ones fits 64 bits
pub fits_rounded : (r s x : ℤ) → mag r < 170141183460469231731687303715884105728 → r ≡ rounded (wide s) (pos 10000) → s ≡ x → IsInRange s → FitsSigned w64 (to_z w128 (of_z w128 r))
fits_rounded r s x small is e h =
    let same : to_z w128 (of_z w128 r) ≡ rounded s (pos 10000) =
    wide_rounded r (wide s) (pos 10000) s (pos 10000) small is (wide_value s s refl h) refl in
    let size : unsigned_abs (rounded s (pos 10000)) ≤ unsigned_abs s + 1 = size_of_rounded s (pos 10000) (lit< tt) in
    let most : unsigned_abs s ≤ 999999999999999999 = size_of s h in
    let below : unsigned_abs (rounded s (pos 10000)) < 9223372036854775808 = omega arith in
    let fits : FitsSigned w64 (rounded s (pos 10000)) = fits_signed_from_abs w64 (rounded s (pos 10000)) below in
    subst (λ z. FitsSigned w64 z) (sym same) fits

pub narrow_rounded : (r s x : ℤ) → mag r < 170141183460469231731687303715884105728 → r ≡ rounded (wide s) (pos 10000) → s ≡ x → IsInRange s → to_z w64 (of_z w64 (to_z w128 (of_z w128 r))) ≡ rounded x (pos 10000)
narrow_rounded r s x small is e h =
    to_z-of_z w64 (to_z w128 (of_z w128 r)) (fits_rounded r s x small is e h)
    ∙ wide_rounded r (wide s) (pos 10000) x (pos 10000) small is (wide_value s x e h) refl
