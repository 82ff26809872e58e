-- What an operator makes of cells. A cell that isn't NA is a whole number of units of its kind: ten-thousandths of a NUMBER,
-- ones of an INTEGER. Numbers are without bound.
use Rattle.std.specs.Prelude.{ℤ, pos, ◌+ℤ◌, ◌*ℤ◌, neg_ℤ, int_le, Bool, ◌&&◌, length, fold, List, [], ◌∷◌, Option, Some, None}
use Rattle.std.specs.Int.{int_min, int_max}
use Rattle.aw_cell.specs.declared.cell.Cell.{Cell}
use Rattle.aw_cell.specs.declared.cell.Cell.TheVariants as cell
use Rattle.aw_cell.specs.declared.cell.Kind.{Kind}
use Rattle.aw_cell.specs.declared.cell.Kind.TheVariants as kind
use Rattle.aw_cell.specs.declared.operator.Operator.{Operator}
use Rattle.aw_cell.specs.declared.operator.Operator.TheVariants.{Sum, Min, Max, Average, Count, Spread}
use Rattle.aw_cell.specs.Rounding.{rounded}

-- the number in a cell: NA has none
abbrev pub number_in : Cell → Option ℤ
number_in (cell.Num units) = Some units
number_in (cell.Int whole) = Some whole
number_in _ = None

-- the cell of a kind with a number of its units
abbrev pub cell_of : Kind → Option ℤ → Cell
cell_of kind.Num (Some units) = cell.Num units
cell_of kind.Int (Some whole) = cell.Int whole
cell_of _ _ = cell.Na

-- how many units one has
abbrev pub one_of : Kind → ℤ
one_of kind.Num = pos 10000
one_of _ = pos 1

-- the greatest number of a kind
abbrev pub most_of : Kind → ℤ
most_of kind.Num = pos 999999999999999999
most_of _ = pos 2147483647

abbrev pub is_in_range : Kind → ℤ → Bool
is_in_range kind number = int_le (neg_ℤ (most_of kind)) number && int_le number (most_of kind)

-- the numbers without NA
abbrev pub present : List (Option ℤ) → List ℤ
present [] = []
present (None ∷ numbers) = present numbers
present (Some number ∷ numbers) = number ∷ present numbers

abbrev pub total : List ℤ → ℤ
total numbers = fold ◌+ℤ◌ (pos 0) numbers

-- what an operator makes of numbers, of which there is at least one; how many they are is counted in ones of the kind
abbrev pub made_of : Kind → Operator → ℤ → List ℤ → ℤ
made_of kind Sum first others = total (first ∷ others)
made_of kind Min first others = fold int_min first others
made_of kind Max first others = fold int_max first others
made_of kind Average first others = rounded (total (first ∷ others)) (pos (length (first ∷ others)))
made_of kind Count first others = one_of kind *ℤ pos (length (first ∷ others))
made_of kind (Spread way) first others = total (first ∷ others)

abbrev pub operated_present : Kind → Operator → List ℤ → Option ℤ
operated_present kind operator [] = None
operated_present kind operator (first ∷ others) = Some (made_of kind operator first others)

-- the operator over cells: NA is skipped, and NA alone gives NA
abbrev pub operated : Kind → Operator → List (Option ℤ) → Option ℤ
operated kind operator numbers = operated_present kind operator (present numbers)
