-- Comparison of cells. An INTEGER is compared with a NUMBER as the same number, and texts are ordered by their bytes.
use Rattle.std.specs.Prelude.{Bool as Truth, true, false, not, nat_eq}
use Rattle.std.specs.Bool.{beq}
use Rattle.std.specs.Ordering.{int_eq, int_cmp, nat_cmp, is_lt, is_le, is_gt, is_ge}
use Rattle.std.specs.Str.{bytes_eq}
use Rattle.std.specs.Cmp.Lexicographic.{slice_cmp}
use Rattle.std.specs.declared.cmp.Ordering.{Ordering}
use Rattle.std.specs.declared.cmp.Ordering.TheVariants.{Equal}
use Rattle.aw_cell.specs.Number.{in_units}
use Rattle.aw_cell.specs.declared.cell.Cell.{Cell}
use Rattle.aw_cell.specs.declared.cell.Cell.TheVariants.{Na, Num, Int, Text, Bool, Slot}
use Rattle.aw_cell.specs.declared.comparison.Order.{Order}
use Rattle.aw_cell.specs.declared.comparison.Order.TheVariants.{Eq, Ne, Lt, Le, Gt, Ge}

-- whether two cells are equal; NA equals NA alone
abbrev pub are_equal : Cell → Cell → Truth
are_equal Na Na = true
are_equal (Num a) (Num b) = int_eq a b
are_equal (Num a) (Int b) = int_eq a (in_units b)
are_equal (Int a) (Num b) = int_eq (in_units a) b
are_equal (Int a) (Int b) = int_eq a b
are_equal (Text a) (Text b) = bytes_eq a b
are_equal (Bool a) (Bool b) = beq a b
are_equal (Slot a) (Slot b) = nat_eq a b
are_equal _ _ = false

-- how two numbers or two texts are ordered
abbrev pub order_of : Cell → Cell → Ordering
order_of (Num a) (Num b) = int_cmp a b
order_of (Num a) (Int b) = int_cmp a (in_units b)
order_of (Int a) (Num b) = int_cmp (in_units a) b
order_of (Int a) (Int b) = int_cmp a b
order_of (Text a) (Text b) = slice_cmp nat_cmp a b
order_of _ _ = Equal

-- whether two cells are of kinds that can be ordered
abbrev pub can_be_ordered : Cell → Cell → Truth
can_be_ordered Na _ = true
can_be_ordered _ Na = true
can_be_ordered (Num a) (Num b) = true
can_be_ordered (Num a) (Int b) = true
can_be_ordered (Int a) (Num b) = true
can_be_ordered (Int a) (Int b) = true
can_be_ordered (Text a) (Text b) = true
can_be_ordered _ _ = false

-- whether two cells are of kinds that this order compares: EQ and NE take two BOOLEANs too
abbrev pub can_be_compared : Order → Cell → Cell → Truth
can_be_compared Eq (Bool a) (Bool b) = true
can_be_compared Ne (Bool a) (Bool b) = true
can_be_compared _ a b = can_be_ordered a b

-- a cell, but NA where one of the operands is NA
abbrev pub unless_na : Cell → Cell → Cell → Cell
unless_na Na _ _ = Na
unless_na _ Na _ = Na
unless_na _ _ answer = answer

-- what a comparison gives: EQ and NE tell whether both are NA, the others are NA where one is
abbrev pub compared : Order → Cell → Cell → Cell
compared Eq a b = Bool (are_equal a b)
compared Ne a b = Bool (not (are_equal a b))
compared Lt a b = unless_na a b (Bool (is_lt (order_of a b)))
compared Le a b = unless_na a b (Bool (is_le (order_of a b)))
compared Gt a b = unless_na a b (Bool (is_gt (order_of a b)))
compared Ge a b = unless_na a b (Bool (is_ge (order_of a b)))
