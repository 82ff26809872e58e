-- Rounding: the whole number nearest to a quotient, and of two equally near ones the one farther from zero.
use Rattle.std.specs.Prelude.{◌≡◌, ℕ, ◌+◌, ◌*◌, ◌/◌, ◌≤◌, Bool, true, false, ℤ, pos, neg_ℤ, ◌-ℤ◌, ◌*ℤ◌, unsigned_abs}
use Rattle.std.specs.Bool.{beq}
use Rattle.std.specs.Int.{is_negative}

-- the whole number nearest to p / q, and of two the greater: the whole part of p / q + 1 / 2
abbrev pub nearest : ℕ → ℕ → ℕ
nearest p q = (2 * p + q) / (2 * q)

-- the whole number of this size, below zero where the test is false
abbrev pub signed : Bool → ℕ → ℤ
signed true size = pos size
signed false size = neg_ℤ (pos size)

-- the whole number nearest to p / q where q isn't 0, and of two equally near ones the one farther from zero
unfoldable pub rounded : ℤ → ℤ → ℤ
rounded p q = signed (beq (is_negative p) (is_negative q)) (nearest (unsigned_abs p) (unsigned_abs q))

-- `r` is the whole number nearest to p / q: r * q is off from p by at most half of q, and where by just half, it is not
-- nearer to zero than p
pub record IsRounded (p q r : ℤ) : Type 0 where
  pub within : 2 * unsigned_abs (r *ℤ q -ℤ p) ≤ unsigned_abs q
  pub away : 2 * unsigned_abs (r *ℤ q -ℤ p) ≡ unsigned_abs q → unsigned_abs p ≤ unsigned_abs (r *ℤ q)
