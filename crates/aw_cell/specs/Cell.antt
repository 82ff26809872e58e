-- Cells: when two of them are the same, and which an INTEGER variable may hold.
use Rattle.std.specs.Prelude.{Bool as Truth, true, false, not, nat_eq, negsuc}
use Rattle.std.specs.Bool.{beq}
use Rattle.std.specs.Ordering.{int_eq}
use Rattle.std.specs.Str.{bytes_eq}
use Rattle.aw_cell.specs.declared.cell.Cell.{Cell}
use Rattle.aw_cell.specs.declared.cell.Cell.TheVariants.{Na, Num, Int, Text, Bool, Slot}

-- two cells are the same where they are of one kind and hold the same value; NA is the same as NA alone
abbrev pub same_cell : Cell → Cell → Truth
same_cell Na Na = true
same_cell (Num a) (Num b) = int_eq a b
same_cell (Int a) (Int b) = int_eq a b
same_cell (Text a) (Text b) = bytes_eq a b
same_cell (Bool a) (Bool b) = beq a b
same_cell (Slot a) (Slot b) = nat_eq a b
same_cell _ _ = false

-- NA, or an INTEGER: the least number of 32 bits is none
abbrev pub is_integer_cell : Cell → Truth
is_integer_cell Na = true
is_integer_cell (Int z) = not (int_eq z (negsuc 2147483647))
is_integer_cell _ = false
