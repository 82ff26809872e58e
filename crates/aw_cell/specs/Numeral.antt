-- Numerals: the texts that are read as a NUMBER.
use Rattle.std.specs.Prelude.{◌≡◌, ℕ, ◌+◌, ◌-◌, ◌*◌, ◌^◌, ◌<◌, ◌≤◌, Bool, not, List, [], ◌∷◌, ◌++◌, length, IsTrue, ℤ, if◌then◌else◌}
use Rattle.std.specs.Char.{is_ascii_digit}
use Rattle.std.specs.List.{list_all}
use Rattle.std.specs.Str.Parse.{digits_value}
use Rattle.aw_cell.specs.Number.{IsInRange}
use Rattle.aw_cell.specs.Rounding.{signed}

-- decimal digits, any number of them
abbrev pub are_digits : List ℕ → Bool
are_digits bytes = list_all is_ascii_digit bytes

-- the point and the digits behind it, or nothing where there are none
abbrev pub pointed : List ℕ → List ℕ
pointed [] = []
pointed (d ∷ ds) = 46 ∷ d ∷ ds

-- what the digits in front of the point and those behind it count in ten-thousandths
abbrev pub ten_thousandths : List ℕ → List ℕ → ℕ
ten_thousandths whole decimals = digits_value 10 whole * 10000 + digits_value 10 decimals * 10 ^ (4 - length decimals)

-- at least one digit in front of the point and at most four behind it, which count so many ten-thousandths
pub record SpellsParts (whole decimals : List ℕ) (count : ℕ) : Type 0 where
  pub some : 0 < length whole
  pub whole_digits : IsTrue (are_digits whole)
  pub few : length decimals ≤ 4
  pub decimal_digits : IsTrue (are_digits decimals)
  pub value : count ≡ ten_thousandths whole decimals

-- a numeral without a sign: digits, and optionally a point and one to four digits
pub record SpellsSize (text : List ℕ) (count : ℕ) : Type 0 where
  pub whole : List ℕ
  pub decimals : List ℕ
  pub form : text ≡ whole ++ pointed decimals
  pub parts : SpellsParts whole decimals count

-- a numeral of so many ten-thousandths: an optional `-`, and a numeral without a sign. Zeros may stand in front, and `-0`
-- is a numeral too
pub record Spells (text : List ℕ) (units : ℤ) : Type 0 where
  pub negative : Bool
  pub unsigned : List ℕ
  pub count : ℕ
  pub form : text ≡ (if negative then 45 ∷ unsigned else unsigned)
  pub size : SpellsSize unsigned count
  pub value : units ≡ signed (not negative) count

abbrev pub IsNumeral : List ℕ → Type 0
IsNumeral text = (units : ℤ) × Spells text units

-- a numeral of a NUMBER
abbrev pub SpellsInRange : List ℕ → ℤ → Type 0
SpellsInRange text units = Spells text units × IsInRange units

-- a numeral that is out of the range of a NUMBER
abbrev pub SpellsPastRange : List ℕ → Type 0
SpellsPastRange text = (units : ℤ) × Spells text units × ¬ (IsInRange units)
