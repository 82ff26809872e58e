-- Arithmetic on cells. An operand that is NA makes the result NA, before any test; two INTEGERs give an INTEGER but for `/`.
use Rattle.std.specs.Prelude.{Bool as Truth, true, false, ◌&&◌, ℤ, pos, negsuc, ◌+ℤ◌, ◌-ℤ◌, ◌*ℤ◌, neg_ℤ, unsigned_abs, int_le, Result, Ok, Err, if◌then◌else◌}
use Rattle.std.specs.Int.{int_min, int_max}
use Rattle.aw_cell.specs.declared.cell.Cell.{Cell}
use Rattle.aw_cell.specs.declared.cell.Cell.TheVariants.{Na, Num, Int}
use Rattle.aw_cell.specs.declared.cell.Kind.{Kind}
use Rattle.aw_cell.specs.declared.cell.Kind.TheVariants.{Num as NumberKind, Int as IntegerKind}
use Rattle.aw_cell.specs.declared.arithmetic.Operands.{Operands}
use Rattle.aw_cell.specs.declared.arithmetic.Operands.TheVariants.{Na as NoOperands, Integers, Numbers}
use Rattle.aw_cell.specs.declared.number.Arith.{Arith}
use Rattle.aw_cell.specs.declared.number.Arith.TheVariants.{Overflow}
use Rattle.aw_cell.specs.Arithmetic.{number_sum, number_difference, number_product, number_quotient}
use Rattle.aw_cell.specs.Number.{in_units}
use Rattle.aw_cell.specs.Rounding.{rounded}

-- whether a cell is a number or NA
abbrev pub is_numeric : Cell → Truth
is_numeric Na = true
is_numeric (Num a) = true
is_numeric (Int a) = true
is_numeric _ = false

-- whether a whole number is an INTEGER
abbrev pub is_integer : ℤ → Truth
is_integer whole = int_le (negsuc 2147483646) whole && int_le whole (pos 2147483647)

abbrev pub integer_cell : ℤ → Result Cell Arith
integer_cell whole = (if is_integer whole then Ok (Int whole) else Err Overflow)

abbrev pub number_cell : Result ℤ Arith → Result Cell Arith
number_cell (Ok units) = Ok (Num units)
number_cell (Err why) = Err why

-- two operands in one kind: two INTEGERs as they are, else both as NUMBERs
abbrev pub in_one_kind : Cell → Cell → Operands
in_one_kind (Int a) (Int b) = Integers a b
in_one_kind (Int a) (Num b) = Numbers (in_units a) b
in_one_kind (Num a) (Int b) = Numbers a (in_units b)
in_one_kind (Num a) (Num b) = Numbers a b
in_one_kind _ _ = NoOperands

-- an operation with a form for two INTEGERs and one for NUMBERs
abbrev pub on_operands : (ℤ → ℤ → Result Cell Arith) → (ℤ → ℤ → Result ℤ Arith) → Operands → Result Cell Arith
on_operands on_integers op NoOperands = Ok Na
on_operands on_integers op (Integers a b) = on_integers a b
on_operands on_integers op (Numbers a b) = number_cell (op a b)

abbrev pub on_numbers : (ℤ → ℤ → Result Cell Arith) → (ℤ → ℤ → Result ℤ Arith) → Cell → Cell → Result Cell Arith
on_numbers on_integers op a b = on_operands on_integers op (in_one_kind a b)

abbrev pub cell_sum : Cell → Cell → Result Cell Arith
cell_sum a b = on_numbers (λ x y. integer_cell (x +ℤ y)) number_sum a b

abbrev pub cell_difference : Cell → Cell → Result Cell Arith
cell_difference a b = on_numbers (λ x y. integer_cell (x -ℤ y)) number_difference a b

abbrev pub cell_product : Cell → Cell → Result Cell Arith
cell_product a b = on_numbers (λ x y. integer_cell (x *ℤ y)) number_product a b

abbrev pub cell_quotient : Cell → Cell → Result Cell Arith
cell_quotient a b = on_numbers (λ x y. number_cell (number_quotient (in_units x) (in_units y))) number_quotient a b

-- an operation on one number, which is the same for an INTEGER and for a NUMBER. A NUMBER stays in range under those
-- below, an INTEGER is tested
abbrev pub on_number : (ℤ → ℤ) → Cell → Result Cell Arith
on_number op (Int a) = integer_cell (op a)
on_number op (Num a) = Ok (Num (op a))
on_number op _ = Ok Na

abbrev pub cell_negation : Cell → Result Cell Arith
cell_negation a = on_number neg_ℤ a

-- ABS: how far a number lies from zero
abbrev pub cell_size : Cell → Result Cell Arith
cell_size a = on_number (λ x. pos (unsigned_abs x)) a

-- MIN
abbrev pub cell_least : Cell → Cell → Result Cell Arith
cell_least a b = on_numbers (λ x y. integer_cell (int_min x y)) (λ x y. Ok (int_min x y)) a b

-- MAX
abbrev pub cell_greatest : Cell → Cell → Result Cell Arith
cell_greatest a b = on_numbers (λ x y. integer_cell (int_max x y)) (λ x y. Ok (int_max x y)) a b

-- a number as one of the other kind: a NUMBER is rounded to whole numbers
abbrev pub converted : Kind → Cell → Result Cell Arith
converted NumberKind (Int a) = Ok (Num (in_units a))
converted IntegerKind (Num a) = integer_cell (rounded a (pos 10000))
converted _ cell = Ok cell

-- whether a cell is a number or NA, and the kind that of a number
abbrev pub can_be_converted : Kind → Cell → Truth
can_be_converted NumberKind cell = is_numeric cell
can_be_converted IntegerKind cell = is_numeric cell
can_be_converted _ _ = false

-- whether a cell keeps within the range of that kind: a NUMBER as an INTEGER may not
abbrev pub keeps_range : Kind → Cell → Truth
keeps_range IntegerKind (Num a) = is_integer (rounded a (pos 10000))
keeps_range _ _ = true
