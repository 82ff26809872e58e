-- Rounding: its size, and the two signs.
use Rattle.std.proofs.Common.{◌≡◌, ◌≤◌, ◌<◌, ◌*◌, ◌+◌, ◌/◌, ℕ, zero, suc, ◌∙◌, refl, ap, sym, arith, unsigned_abs, true, false, ℤ, pos, negsuc, neg_ℤ, ◌-ℤ◌, ◌*ℤ◌, ◌-◌, ◌≢◌, Bool, subst, zero-mul}
use Rattle.std.proofs.lemmas.Bool.Decides.{nat_tests}
use Rattle.std.proofs.Math.Nat.{mul-div-le, lt-mul-div-succ, div-le_of_le-mul}
use Rattle.std.specs.Bool.{beq}
use Rattle.std.specs.Int.{is_negative}
use Rattle.aw_cell.specs.Rounding.{nearest, rounded, signed, IsRounded}

pub rounded_alike : (p q : ℤ) (size : ℕ) → beq (is_negative p) (is_negative q) ≡ true → size ≡ nearest (unsigned_abs p) (unsigned_abs q) → pos size ≡ rounded p q
unfolding rounded
rounded_alike p q size same e = ap pos e ∙ sym (ap (λ b. signed b (nearest (unsigned_abs p) (unsigned_abs q))) same)

pub rounded_unlike : (p q : ℤ) (size : ℕ) → beq (is_negative p) (is_negative q) ≡ false → size ≡ nearest (unsigned_abs p) (unsigned_abs q) → neg_ℤ (pos size) ≡ rounded p q
unfolding rounded
rounded_unlike p q size unlike e = ap (λ s. neg_ℤ (pos s)) e ∙ sym (ap (λ b. signed b (nearest (unsigned_abs p) (unsigned_abs q))) unlike)

-- 2 * q * r is at most 2 * p + q, and above p * 2 - q
pub nearest_bounds : (p q : ℕ) → 0 < q → (2 * (q * nearest p q) ≤ 2 * p + q) × (2 * p < 2 * (q * nearest p q) + q)
nearest_bounds p q h =
    let low : 2 * q * ((2 * p + q) / (2 * q)) ≤ 2 * p + q = mul-div-le (2 * p + q) (2 * q) in
    let high : 2 * p + q < 2 * q * ((2 * p + q) / (2 * q) + 1) = lt-mul-div-succ (2 * p + q) (omega arith) in
    (omega arith, omega arith)

pub nearest_small : (p q : ℕ) → 0 < q → nearest p q ≤ p + 1
nearest_small p zero h = absurd (omega arith)
nearest_small p (suc k) h = div-le_of_le-mul (2 * suc k) (omega arith)

-- two sizes under one sign
apart : (x y : ℕ) → unsigned_abs (pos x -ℤ pos y) ≡ (x - y) + (y - x)
apart x zero = omega arith
apart x (suc y) = grind (arith, nat_tests)

pub gap : (sign : Bool) (x y : ℕ) → unsigned_abs (signed sign x -ℤ signed sign y) ≡ (x - y) + (y - x)
gap true x y = apart x y
gap false zero zero = omega arith
gap false zero (suc y) = omega arith
gap false (suc x) zero = grind (arith, nat_tests)
gap false (suc x) (suc y) = grind (arith, nat_tests)

pub size_of : (sign : Bool) (x : ℕ) → unsigned_abs (signed sign x) ≡ x
size_of true x = refl
size_of false zero = refl
size_of false (suc x) = refl

pub not_negative : (n : ℕ) → is_negative (pos n) ≡ false
not_negative n = grind (arith, nat_tests)

pub below_times : (m q : ℕ) → neg_ℤ (pos m) *ℤ pos q ≡ neg_ℤ (pos (m * q))
below_times zero q = rw zero-mul refl
below_times (suc m) q = refl

pub both_below : (m q : ℕ) → neg_ℤ (pos m) *ℤ negsuc q ≡ pos (m * suc q)
both_below zero q = rw zero-mul refl
both_below (suc m) q = refl

by_sizes : (P Q : ℕ) → 0 < Q → (2 * ((nearest P Q * Q - P) + (P - nearest P Q * Q)) ≤ Q) × (2 * ((nearest P Q * Q - P) + (P - nearest P Q * Q)) ≡ Q → P ≤ nearest P Q * Q)
by_sizes P Q h =
    let b = nearest_bounds P Q h in
    (omega arith, λ tie. omega arith)

from_sizes : (sign : Bool) (p q r : ℤ) (P Q : ℕ) → 0 < Q → p ≡ signed sign P → unsigned_abs q ≡ Q → r *ℤ q ≡ signed sign (nearest P Q * Q) → IsRounded p q r
from_sizes sign p q r P Q h is_p is_q is_r =
    let size_p : unsigned_abs p ≡ P = ap unsigned_abs is_p ∙ size_of sign P in
    let size_r : unsigned_abs (r *ℤ q) ≡ nearest P Q * Q = ap unsigned_abs is_r ∙ size_of sign (nearest P Q * Q) in
    let off : unsigned_abs (r *ℤ q -ℤ p) ≡ (nearest P Q * Q - P) + (P - nearest P Q * Q) =
    ap (λ z. unsigned_abs (z -ℤ p)) is_r ∙ ap (λ z. unsigned_abs (signed sign (nearest P Q * Q) -ℤ z)) is_p ∙ gap sign (nearest P Q * Q) P in
    let b = by_sizes P Q h in
    record { within = rw (off, is_q) b.0; away = λ tie. rw (size_p, size_r) (b.1 (sym (ap (λ n. 2 * n) off) ∙ tie ∙ is_q)) }

pub positive : (q : ℕ) → pos q ≢ pos 0 → 0 < q
positive zero h = absurd (h refl)
positive (suc q) h = omega arith

pub rounded_is_nearest : (p q : ℤ) → q ≢ pos 0 → IsRounded p q (rounded p q)
rounded_is_nearest (pos p) (pos q) h =
    let same : beq (is_negative (pos p)) (is_negative (pos q)) ≡ true = rw (not_negative p, not_negative q) refl in
    subst (λ r. IsRounded (pos p) (pos q) r) (rounded_alike (pos p) (pos q) (nearest p q) same refl)
    (from_sizes true (pos p) (pos q) (pos (nearest p q)) p q (positive q h) refl refl refl)
rounded_is_nearest (pos p) (negsuc q) h =
    let unlike : beq (is_negative (pos p)) (is_negative (negsuc q)) ≡ false = rw (not_negative p) refl in
    subst (λ r. IsRounded (pos p) (negsuc q) r) (rounded_unlike (pos p) (negsuc q) (nearest p (suc q)) unlike refl)
    (from_sizes true (pos p) (negsuc q) (neg_ℤ (pos (nearest p (suc q)))) p (suc q) (omega arith) refl refl (both_below (nearest p (suc q)) q))
rounded_is_nearest (negsuc p) (pos q) h =
    let unlike : beq (is_negative (negsuc p)) (is_negative (pos q)) ≡ false = rw (not_negative q) refl in
    subst (λ r. IsRounded (negsuc p) (pos q) r) (rounded_unlike (negsuc p) (pos q) (nearest (suc p) q) unlike refl)
    (from_sizes false (negsuc p) (pos q) (neg_ℤ (pos (nearest (suc p) q))) (suc p) q (positive q h) refl refl (below_times (nearest (suc p) q) q))
rounded_is_nearest (negsuc p) (negsuc q) h =
    subst (λ r. IsRounded (negsuc p) (negsuc q) r) (rounded_alike (negsuc p) (negsuc q) (nearest (suc p) (suc q)) refl refl)
    (from_sizes false (negsuc p) (negsuc q) (pos (nearest (suc p) (suc q))) (suc p) (suc q) (omega arith) refl refl refl)

pub size_of_rounded : (p q : ℤ) → 0 < unsigned_abs q → unsigned_abs (rounded p q) ≤ unsigned_abs p + 1
unfolding rounded
size_of_rounded p q h = rw (size_of (beq (is_negative p) (is_negative q)) (nearest (unsigned_abs p) (unsigned_abs q))) (nearest_small (unsigned_abs p) (unsigned_abs q) h)
