-- A NUMBER, in ten-thousandths.
use Rattle.std.specs.Prelude.{ℤ, pos, negsuc, ◌≤ℤ◌, ◌*ℤ◌}

-- eighteen digits, four of them behind the point
abbrev pub IsInRange : ℤ → Type 0
IsInRange units = (negsuc 999999999999999998 ≤ℤ units) × (units ≤ℤ pos 999999999999999999)

-- a whole number in ten-thousandths
abbrev pub in_units : ℤ → ℤ
in_units whole = pos 10000 *ℤ whole
