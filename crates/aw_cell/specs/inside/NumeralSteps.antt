-- What the steps of reading a numeral answer.
use Rattle.std.specs.Prelude.{◌≡◌, ℕ, ◌<◌, ◌≤◌, ◌^◌, Bool, not, List, ℤ, Result, Ok, Err, if◌then◌else◌}
use Rattle.aw_cell.specs.declared.numeral.NumberFault.{NumberFault}
use Rattle.aw_cell.specs.declared.numeral.NumberFault.TheVariants.{NotANumber, Overflow}
use Rattle.aw_cell.specs.Number.{IsInRange}
use Rattle.aw_cell.specs.Arithmetic.{is_in_range}
use Rattle.aw_cell.specs.Numeral.{SpellsSize}
use Rattle.aw_cell.specs.Rounding.{signed}

-- the count that a text has, and `Overflow` only where it is past the range of a NUMBER
abbrev pub ReadsCount : (ℕ → Type 0) → Result ℕ NumberFault → Type 0
ReadsCount Has (Ok count) = Has count × (count < 2 ^ 80)
ReadsCount Has (Err NotANumber) = (count : ℕ) → ¬ (Has count)
ReadsCount Has (Err Overflow) = (count : ℕ) × Has count × (10 ^ 18 ≤ count)

-- the number that a text has, where it is in range
abbrev pub ReadsUnits : (ℤ → Type 0) → Result ℤ NumberFault → Type 0
ReadsUnits Has (Ok units) = Has units × IsInRange units
ReadsUnits Has (Err NotANumber) = (units : ℤ) → ¬ (Has units)
ReadsUnits Has (Err Overflow) = (units : ℤ) × Has units × ¬ (IsInRange units)

-- a numeral without a sign, and the sign that stood in front of it
abbrev pub SpellsBehind : Bool → List ℕ → ℤ → Type 0
SpellsBehind negative unsigned units = (count : ℕ) × SpellsSize unsigned count × (units ≡ signed (not negative) count)

-- a number that is in range
abbrev pub number_within : ℤ → Result ℤ NumberFault
number_within units = (if is_in_range units then Ok units else Err Overflow)
