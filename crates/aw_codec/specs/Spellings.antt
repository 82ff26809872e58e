-- How the parts of records are spelled. Numbers of several bytes begin with the highest.
use Rattle.std.specs.Prelude.{ℕ, ◌++◌, Bool as Truth, true, false, List, [], ◌∷◌, length}
use Rattle.std.specs.List.{flat_map}
use Rattle.std.specs.Int.{w16, w32, w64, to_be_bytes, cast_unsigned}
use Rattle.aw_cell.specs.declared.cell.Cell.{Cell}
use Rattle.aw_cell.specs.declared.cell.Cell.TheVariants.{Na, Num, Int, Text, Bool, Slot}
use Rattle.aw_cell.specs.declared.cell.Kind.{Kind}
use Rattle.aw_cell.specs.declared.cell.Kind.TheVariants.{Num as NumberKind, Int as IntegerKind, Text as TextKind, Bool as BooleanKind, Slot as SlotKind}
use Rattle.aw_dim.specs.DimensionState.{Entry}
use Rattle.aw_schema.specs.declared.definition.Def.{Def}
use Rattle.aw_schema.specs.declared.definition.DefKind.{DefKind}
use Rattle.aw_schema.specs.declared.definition.DefKind.TheVariants.{Dimension, Relation, Valueset, Variable, Formula, Program, Aggmap}
use Rattle.aw_body.specs.declared.patch.BodyPatch.{BodyPatch}
use Rattle.aw_body.specs.declared.patch.BodyPatch.TheVariants.{Values, Slots, Cells}
use Rattle.aw_body.specs.declared.change.Change.{Change}

-- a number of 2 bytes: a slot, or the number of an object
abbrev pub short : ℕ → List ℕ
short number = to_be_bytes w16 number

-- such numbers, one behind the other
abbrev pub shorts : List ℕ → List ℕ
shorts numbers = flat_map short numbers

-- a number of 4 bytes
abbrev pub long : ℕ → List ℕ
long number = to_be_bytes w32 number

-- ---- definitions

-- the types of a variable; no variable holds slots
abbrev pub type_byte : Kind → ℕ
type_byte NumberKind = 1
type_byte IntegerKind = 2
type_byte TextKind = 3
type_byte BooleanKind = 4
type_byte SlotKind = 0

-- the length of a text in 4 bytes, and the text
abbrev pub long_text : List ℕ → List ℕ
long_text text = long (length text) ++ text

-- what a definition says behind the name: the byte of its kind, and what belongs to that
abbrev pub kind : DefKind → List ℕ
kind Dimension = 0 ∷ []
kind (Relation target base) = 1 ∷ short target ++ short base
kind (Valueset dimension) = 2 ∷ short dimension
kind (Variable type dimensions) = 3 ∷ type_byte type ∷ length dimensions ∷ shorts dimensions
kind (Formula text) = 4 ∷ long_text text
kind (Program text) = 5 ∷ long_text text
kind (Aggmap text) = 6 ∷ long_text text

-- a definition: the length of its name, the name, and what it is
abbrev pub definition : Def → List ℕ
definition def = length def.name ∷ def.name ++ kind def.kind

-- ---- cells

abbrev pub truth_byte : Truth → ℕ
truth_byte false = 0
truth_byte true = 1

-- a cell: the byte of its kind, and its value
abbrev pub cell : Cell → List ℕ
cell Na = 0 ∷ []
cell (Num units) = 1 ∷ to_be_bytes w64 (cast_unsigned w64 units)
cell (Int value) = 2 ∷ to_be_bytes w32 (cast_unsigned w32 value)
cell (Text text) = 3 ∷ length text ∷ text
cell (Bool truth) = 4 ∷ truth_byte truth ∷ []
cell (Slot slot) = 5 ∷ short slot

-- ---- patches

-- a value of a dimension: its slot, the length of its name, and the name
abbrev pub value : Entry → List ℕ
value entry = short entry.0 ++ length entry.1 ∷ entry.1

-- a cell of a patch: the slots of its key, and the cell
abbrev pub keyed_cell : List ℕ × Cell → List ℕ
keyed_cell change = shorts change.0 ++ cell change.1

-- how many slots each key has: as many as the first one
abbrev pub key_slots : List (List ℕ × Cell) → ℕ
key_slots [] = 0
key_slots (change ∷ changes) = length change.0

-- a patch: its letter, `L`, `S` or `M`; of values the next slot, and of cells the slots of each key; how many parts it
-- has, and the parts
abbrev pub patch : BodyPatch → List ℕ
patch (Values values) = 76 ∷ long values.next ++ long (length values.entries) ++ flat_map value values.entries
patch (Slots slots) = 83 ∷ long (length slots) ++ shorts slots
patch (Cells changes) = 77 ∷ key_slots changes ∷ long (length changes) ++ flat_map keyed_cell changes

-- a change: the object, and its patch
abbrev pub change : Change → List ℕ
change c = short c.object ++ patch c.patch
