-- The text of a cell, as bytes.
use Rattle.std.specs.Prelude.{ℕ, ℤ, pos, negsuc, List, [], ◌∷◌, ◌++◌, ◌+◌, ◌/◌, ◌%◌, codes, length, drop, unsigned_abs, if◌then◌else◌}
use Rattle.std.specs.Fmt.{decimal, signed_decimal}
use Rattle.aw_cell.specs.declared.cell.Cell.{Cell}
use Rattle.aw_cell.specs.declared.cell.Cell.TheVariants.{Na, Num, Int, Text, Bool, Slot}

-- a `-` in front of what is below zero
abbrev pub sign : ℤ → List ℕ
sign (pos n) = []
sign (negsuc n) = 45 ∷ []

-- the last four digits of a number
abbrev pub four_digits : ℕ → List ℕ
four_digits n = (48 + n / 1000 % 10) ∷ (48 + n / 100 % 10) ∷ (48 + n / 10 % 10) ∷ (48 + n % 10) ∷ []

-- so many ten-thousandths: the whole part without needless zeros, a point and four decimals
abbrev pub size_text : ℕ → List ℕ
size_text size = decimal (size / 10000) ++ 46 ∷ four_digits size

-- a NUMBER, from its ten-thousandths
abbrev pub number_text : ℤ → List ℕ
number_text units = sign units ++ size_text (unsigned_abs units)

-- an INTEGER in digits with its sign, a TEXT as it is, a value of a dimension by the number of its slot
abbrev pub cell_text : Cell → List ℕ
cell_text Na = codes "NA"
cell_text (Num units) = number_text units
cell_text (Int whole) = signed_decimal whole
cell_text (Text bytes) = bytes
cell_text (Bool truth) = if truth then codes "YES" else codes "NO"
cell_text (Slot slot) = decimal slot

-- a buffer with a text in place of its first bytes
abbrev pub with_front : List ℕ → List ℕ → List ℕ
with_front text buffer = text ++ drop (length text) buffer
