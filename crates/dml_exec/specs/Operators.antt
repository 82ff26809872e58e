-- What the operators make of cells, and of their kinds.
use Rattle.std.specs.Prelude.{Bool as Truth, true, false, ◌&&◌, Option, Some, None, Result, Ok}
use Rattle.aw_cell.specs.declared.cell.Cell.{Cell}
use Rattle.aw_cell.specs.declared.cell.Kind.{Kind}
use Rattle.aw_cell.specs.declared.cell.Kind.TheVariants.{Num, Int, Text, Bool}
use Rattle.aw_cell.specs.declared.comparison.Order.{Order}
use Rattle.aw_cell.specs.declared.comparison.Order.TheVariants.{Eq, Ne}
use Rattle.aw_cell.specs.declared.number.Arith.{Arith}
use Rattle.aw_cell.specs.CellArithmetic.{is_numeric, can_be_converted, converted, cell_sum, cell_difference, cell_product, cell_quotient, cell_negation, cell_size, cell_least, cell_greatest}
use Rattle.aw_cell.specs.Comparison.{can_be_compared, compared}
use Rattle.aw_cell.specs.Logic.{is_truth, both, either, negated, filled}
use Rattle.dml_exec.specs.declared.operator.Unary.{Unary}
use Rattle.dml_exec.specs.declared.operator.Unary.TheVariants.{Neg, Abs, Convert, Not}
use Rattle.dml_exec.specs.declared.operator.Binary.{Binary}
use Rattle.dml_exec.specs.declared.operator.Binary.TheVariants.{Add, Sub, Mul, Div, Min, Max, NaFill, Compare, And, Or}

-- something, where a test holds
abbrev pub when : {A : Type 0} → Truth → A → Option A
when true a = Some a
when false a = None

-- ---- cells: `None` stands for operands that the operator can't take

abbrev pub of_one : Unary → Cell → Option (Result Cell Arith)
of_one Neg a = when (is_numeric a) (cell_negation a)
of_one Abs a = when (is_numeric a) (cell_size a)
of_one (Convert kind) a = when (can_be_converted kind a) (converted kind a)
of_one Not a = when (is_truth a) (Ok (negated a))

abbrev pub of_two : Binary → Cell → Cell → Option (Result Cell Arith)
of_two Add a b = when (is_numeric a && is_numeric b) (cell_sum a b)
of_two Sub a b = when (is_numeric a && is_numeric b) (cell_difference a b)
of_two Mul a b = when (is_numeric a && is_numeric b) (cell_product a b)
of_two Div a b = when (is_numeric a && is_numeric b) (cell_quotient a b)
of_two Min a b = when (is_numeric a && is_numeric b) (cell_least a b)
of_two Max a b = when (is_numeric a && is_numeric b) (cell_greatest a b)
of_two NaFill a b = Some (Ok (filled a b))
of_two (Compare order) a b = when (can_be_compared order a b) (Ok (compared order a b))
of_two And a b = when (is_truth a && is_truth b) (Ok (both a b))
of_two Or a b = when (is_truth a && is_truth b) (Ok (either a b))

-- ---- kinds: what the language lets an operator take, and the kind of its result

abbrev pub is_number : Kind → Truth
is_number Num = true
is_number Int = true
is_number _ = false

abbrev pub is_decimal : Kind → Truth
is_decimal Num = true
is_decimal _ = false

abbrev pub is_boolean : Kind → Truth
is_boolean Bool = true
is_boolean _ = false

-- two NUMBERs, or two INTEGERs
abbrev pub are_numbers : Kind → Kind → Truth
are_numbers Num Num = true
are_numbers Int Int = true
are_numbers _ _ = false

-- two of one type of the language; a slot is of none
abbrev pub are_alike : Kind → Kind → Truth
are_alike Text Text = true
are_alike Bool Bool = true
are_alike a b = are_numbers a b

-- two numbers of one type or two TEXTs; two BOOLEANs for EQ and NE alone
abbrev pub can_compare : Order → Kind → Kind → Truth
can_compare Eq Bool Bool = true
can_compare Ne Bool Bool = true
can_compare _ Text Text = true
can_compare _ a b = are_numbers a b

abbrev pub kind_of_one : Unary → Kind → Option Kind
kind_of_one Neg a = when (is_number a) a
kind_of_one Abs a = when (is_number a) a
kind_of_one (Convert to) a = when (is_number to && is_number a) to
kind_of_one Not a = when (is_boolean a) a

abbrev pub kind_of_two : Binary → Kind → Kind → Option Kind
kind_of_two Add a b = when (are_numbers a b) a
kind_of_two Sub a b = when (are_numbers a b) a
kind_of_two Mul a b = when (are_numbers a b) a
kind_of_two Div a b = when (is_decimal a && are_numbers a b) a
kind_of_two Min a b = when (are_numbers a b) a
kind_of_two Max a b = when (are_numbers a b) a
kind_of_two NaFill a b = when (are_alike a b) a
kind_of_two (Compare order) a b = when (can_compare order a b) Bool
kind_of_two And a b = when (is_boolean a && is_boolean b) a
kind_of_two Or a b = when (is_boolean a && is_boolean b) a
