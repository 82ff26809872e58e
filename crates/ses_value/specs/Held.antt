-- What an object can hold: cells in the range of their kind.
use Rattle.std.specs.Prelude.{ℕ, Bool as Truth, true, ◌&&◌, pos, negsuc, int_le, nat_lt, List}
use Rattle.aw_cell.specs.declared.cell.Cell.{Cell}
use Rattle.aw_cell.specs.declared.cell.Cell.TheVariants.{Na, Num, Int, Text, Bool, Slot}
use Rattle.aw_cell.specs.declared.cell.Kind.{Kind}
use Rattle.aw_cell.specs.CellArithmetic.{is_integer}
use Rattle.aw_cell.specs.Text.{is_text}
use Rattle.aw_var.specs.Variable.{is_pair_of}

-- whether a value is in the range of its kind
abbrev pub is_in_range : Cell → Truth
is_in_range Na = true
is_in_range (Num units) = int_le (negsuc 999999999999999998) units && int_le units (pos 999999999999999999)
is_in_range (Int whole) = is_integer whole
is_in_range (Text text) = is_text text
is_in_range (Bool truth) = true
is_in_range (Slot slot) = nat_lt slot 65536

-- whether an object over so many dimensions can hold a cell at a key: NA, or a value of its kind in the range
abbrev pub is_held : ℕ → Kind → List ℕ × Cell → Truth
is_held slots kind pair = is_pair_of slots kind pair && is_in_range pair.1
