-- Which cells are of a kind. NA is of each kind.
use Rattle.std.specs.Prelude.{Bool as Truth, true, false, IsTrue}
use Rattle.aw_cell.specs.declared.cell.Cell.{Cell}
use Rattle.aw_cell.specs.declared.cell.Cell.TheVariants.{Na, Num, Int, Text, Bool, Slot}
use Rattle.aw_cell.specs.declared.cell.Kind.{Kind}
use Rattle.aw_cell.specs.declared.cell.Kind.TheVariants.{Num as NumberKind, Int as IntegerKind, Text as TextKind, Bool as BooleanKind, Slot as SlotKind}

abbrev pub is_na : Cell → Truth
is_na Na = true
is_na _ = false

-- whether a cell is NA or of this kind
abbrev pub is_of_kind : Kind → Cell → Truth
is_of_kind _ Na = true
is_of_kind NumberKind (Num a) = true
is_of_kind IntegerKind (Int a) = true
is_of_kind TextKind (Text a) = true
is_of_kind BooleanKind (Bool a) = true
is_of_kind SlotKind (Slot a) = true
is_of_kind _ _ = false

-- whether a cell is no TEXT
abbrev pub is_plain : Cell → Truth
is_plain (Text a) = false
is_plain _ = true

abbrev pub IsPlain : Cell → Type 0
IsPlain cell = IsTrue (is_plain cell)

-- a cell is NA or a TEXT
abbrev pub IsTextOrNa : Cell → Type 0
IsTextOrNa cell = IsTrue (is_of_kind TextKind cell)
