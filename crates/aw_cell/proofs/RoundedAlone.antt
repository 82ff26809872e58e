-- No other whole number is as near as the rounded one.
use Rattle.std.proofs.Common.{◌≡◌, ◌≢◌, ◌≤◌, ◌<◌, ◌*◌, ◌+◌, ◌-◌, ℕ, zero, suc, ◌∙◌, refl, ap, sym, arith, unsigned_abs, true, false, not, Bool, ℤ, pos, negsuc, neg_ℤ, ◌-ℤ◌, ◌*ℤ◌, inl, inr, eq-zero-or-pos}
use Rattle.std.proofs.lemmas.Bool.Decides.{nat_tests}
use Rattle.std.specs.Bool.{beq}
use Rattle.std.specs.Int.{is_negative}
use Rattle.std.proofs.Math.Nat.{div-eq_of_lt-le}
use Rattle.aw_cell.specs.Rounding.{nearest, rounded, signed, IsRounded}
use Rattle.aw_cell.proofs.Rounding.{rounded_alike, rounded_unlike, not_negative, below_times, gap, size_of, positive}

-- two sizes under two signs
span : (sign : Bool) (x y : ℕ) → unsigned_abs (signed sign x -ℤ signed (not sign) y) ≡ x + y
span true x zero = omega arith
span true x (suc y) = grind (arith, nat_tests)
span false zero zero = refl
span false zero (suc y) = grind (arith, nat_tests)
span false (suc x) zero = grind (arith, nat_tests)
span false (suc x) (suc y) = grind (arith, nat_tests)

-- p and r * q on one side of zero: r is the whole part of p / q + 1 / 2
same_side : (P Q R : ℕ) → 0 < Q → 2 * ((R * Q - P) + (P - R * Q)) ≤ Q → (2 * ((R * Q - P) + (P - R * Q)) ≡ Q → P ≤ R * Q) → R ≡ nearest P Q
same_side P Q R h within away =
    let low : R * (2 * Q) ≤ 2 * P + Q = omega arith in
    let high : 2 * P + Q < (R + 1) * (2 * Q) =
    elim (eq-zero-or-pos (Q - 2 * ((R * Q - P) + (P - R * Q)))) [
      | inl tie ↦ let up : P ≤ R * Q = away (omega arith) in omega arith
      | inr less ↦ omega arith
    ] in
    sym (div-eq_of_lt-le (2 * Q) low high)

-- p and r * q on two sides of zero: r is zero
record IsZero (P Q R : ℕ) : Type 0 where
  none : R ≡ 0
  nearest_none : nearest P Q ≡ 0

two_sides : (P Q R : ℕ) → 0 < Q → 2 * (R * Q + P) ≤ Q → (2 * (R * Q + P) ≡ Q → P ≤ R * Q) → IsZero P Q R
two_sides P Q zero h within away =
    let small : 2 * P < Q =
    elim (eq-zero-or-pos (Q - 2 * (0 * Q + P))) [
      | inl tie ↦ let up : P ≤ 0 * Q = away (omega arith) in omega arith
      | inr less ↦ omega arith
    ] in
    record { none = refl; nearest_none = div-eq_of_lt-le (2 * Q) (omega arith) (omega arith) }
two_sides P Q (suc R) h within away = absurd (omega arith)

on_one_side : (sign : Bool) (p q r : ℤ) (P Q R : ℕ) → 0 < Q → p ≡ signed sign P → unsigned_abs q ≡ Q → r *ℤ q ≡ signed sign (R * Q) → IsRounded p q r → R ≡ nearest P Q
on_one_side sign p q r P Q R h is_p is_q is_r near =
    let off : unsigned_abs (r *ℤ q -ℤ p) ≡ (R * Q - P) + (P - R * Q) =
    ap (λ z. unsigned_abs (z -ℤ p)) is_r ∙ ap (λ z. unsigned_abs (signed sign (R * Q) -ℤ z)) is_p ∙ gap sign (R * Q) P in
    let size_p : unsigned_abs p ≡ P = ap unsigned_abs is_p ∙ size_of sign P in
    let size_r : unsigned_abs (r *ℤ q) ≡ R * Q = ap unsigned_abs is_r ∙ size_of sign (R * Q) in
    same_side P Q R h (rw (off, is_q) at near.within)
    (λ tie. rw (size_p, size_r) at (near.away (ap (λ n. 2 * n) off ∙ tie ∙ sym is_q)))

on_two_sides : (sign : Bool) (p q r : ℤ) (P Q R : ℕ) → 0 < Q → p ≡ signed (not sign) P → unsigned_abs q ≡ Q → r *ℤ q ≡ signed sign (R * Q) → IsRounded p q r → IsZero P Q R
on_two_sides sign p q r P Q R h is_p is_q is_r near =
    let off : unsigned_abs (r *ℤ q -ℤ p) ≡ R * Q + P =
    ap (λ z. unsigned_abs (z -ℤ p)) is_r ∙ ap (λ z. unsigned_abs (signed sign (R * Q) -ℤ z)) is_p ∙ span sign (R * Q) P in
    let size_p : unsigned_abs p ≡ P = ap unsigned_abs is_p ∙ size_of (not sign) P in
    let size_r : unsigned_abs (r *ℤ q) ≡ R * Q = ap unsigned_abs is_r ∙ size_of sign (R * Q) in
    two_sides P Q R h (rw (off, is_q) at near.within)
    (λ tie. rw (size_p, size_r) at (near.away (ap (λ n. 2 * n) off ∙ tie ∙ sym is_q)))

alike : (p q : ℤ) (P Q R : ℕ) → beq (is_negative p) (is_negative q) ≡ true → unsigned_abs p ≡ P → unsigned_abs q ≡ Q → R ≡ nearest P Q → pos R ≡ rounded p q
alike p q P Q R same is_p is_q e = rounded_alike p q R same (e ∙ ap (λ x. nearest x Q) (sym is_p) ∙ ap (nearest (unsigned_abs p)) (sym is_q))

unlike : (p q : ℤ) (P Q R : ℕ) → beq (is_negative p) (is_negative q) ≡ false → unsigned_abs p ≡ P → unsigned_abs q ≡ Q → R ≡ nearest P Q → neg_ℤ (pos R) ≡ rounded p q
unlike p q P Q R other is_p is_q e = rounded_unlike p q R other (e ∙ ap (λ x. nearest x Q) (sym is_p) ∙ ap (nearest (unsigned_abs p)) (sym is_q))

zero_either : (r : ℤ) (R : ℕ) → r ≡ pos R → R ≡ 0 → r ≡ neg_ℤ (pos 0)
zero_either r R e z = e ∙ ap pos z

pub rounded_alone : (p q r : ℤ) → q ≢ pos 0 → IsRounded p q r → r ≡ rounded p q
rounded_alone (pos p) (pos q) (pos r) h near =
    let same : beq (is_negative (pos p)) (is_negative (pos q)) ≡ true = rw (not_negative p, not_negative q) refl in
    alike (pos p) (pos q) p q r same refl refl (on_one_side true (pos p) (pos q) (pos r) p q r (positive q h) refl refl refl near)
rounded_alone (pos p) (pos q) (negsuc r) h near =
    let none = on_two_sides false (pos p) (pos q) (negsuc r) p q (suc r) (positive q h) refl refl (below_times (suc r) q) near in
    let no = none.none in
    absurd (omega arith)
rounded_alone (pos p) (negsuc q) (pos r) h near =
    let other : beq (is_negative (pos p)) (is_negative (negsuc q)) ≡ false = rw (not_negative p) refl in
    let none = on_two_sides false (pos p) (negsuc q) (pos r) p (suc q) r (omega arith) refl refl refl near in
    zero_either (pos r) r refl none.none ∙ unlike (pos p) (negsuc q) p (suc q) 0 other refl refl (sym none.nearest_none)
rounded_alone (pos p) (negsuc q) (negsuc r) h near =
    let other : beq (is_negative (pos p)) (is_negative (negsuc q)) ≡ false = rw (not_negative p) refl in
    unlike (pos p) (negsuc q) p (suc q) (suc r) other refl refl (on_one_side true (pos p) (negsuc q) (negsuc r) p (suc q) (suc r) (omega arith) refl refl refl near)
rounded_alone (negsuc p) (pos q) (pos r) h near =
    let other : beq (is_negative (negsuc p)) (is_negative (pos q)) ≡ false = rw (not_negative q) refl in
    let none = on_two_sides true (negsuc p) (pos q) (pos r) (suc p) q r (positive q h) refl refl refl near in
    zero_either (pos r) r refl none.none ∙ unlike (negsuc p) (pos q) (suc p) q 0 other refl refl (sym none.nearest_none)
rounded_alone (negsuc p) (pos q) (negsuc r) h near =
    let other : beq (is_negative (negsuc p)) (is_negative (pos q)) ≡ false = rw (not_negative q) refl in
    unlike (negsuc p) (pos q) (suc p) q (suc r) other refl refl (on_one_side false (negsuc p) (pos q) (negsuc r) (suc p) q (suc r) (positive q h) refl refl (below_times (suc r) q) near)
rounded_alone (negsuc p) (negsuc q) (pos r) h near =
    alike (negsuc p) (negsuc q) (suc p) (suc q) r refl refl refl (on_one_side false (negsuc p) (negsuc q) (pos r) (suc p) (suc q) r (omega arith) refl refl refl near)
rounded_alone (negsuc p) (negsuc q) (negsuc r) h near =
    let none = on_two_sides true (negsuc p) (negsuc q) (negsuc r) (suc p) (suc q) (suc r) (omega arith) refl refl refl near in
    let no = none.none in
    absurd (omega arith)
