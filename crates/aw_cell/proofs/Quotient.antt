-- The quotient where the divisor isn't zero.
use Rattle.std.proofs.Common.{◌≡◌, ◌≢◌, refl, ℤ, pos, ◌*ℤ◌, Bool, true, false}
use Rattle.std.proofs.lemmas.Bool.Decides.{Decides-int_eq}
use Rattle.std.specs.Ordering.{int_eq}
use Rattle.aw_cell.specs.Rounding.{rounded}
use Rattle.aw_cell.specs.Arithmetic.{fitted, number_quotient}

refused : (b : Bool) → b ≢ true → b ≡ false
refused true h = absurd (h refl)
refused false h = refl

nonzero_told : (y : ℤ) → y ≢ pos 0 → int_eq y (pos 0) ≡ false
nonzero_told y h = refused (int_eq y (pos 0)) (λ e. h ((Decides-int_eq y (pos 0)).0 e))

pub quotient_of_nonzero : (x y : ℤ) → y ≢ pos 0 → fitted (rounded (pos 10000 *ℤ x) y) ≡ number_quotient x y
quotient_of_nonzero x y h = rw (nonzero_told y h) refl
