-- What may stand in the bytes of a record, field by field, and what it says.
use Rattle.std.specs.Prelude.{ℕ, ◌+◌, ◌-◌, ◌==◌, ◌&&◌, ◌||◌, true, false, not, List, [], length, take, Option, Some, None, is_some, nat_le, nat_lt, nat_eq, int_le, pos, negsuc, slice_get, slice_index, if◌then◌else◌}
use Rattle.std.specs.List.{list_any}
use Rattle.std.specs.Option.{option_map, option_map_or}
use Rattle.std.specs.Str.{bytes_eq}
use Rattle.std.specs.Int.{w8, w16, w32, w64, is_in_range, cast_signed}
use Rattle.aw_cell.specs.declared.cell.Cell.{Cell}
use Rattle.aw_cell.specs.declared.cell.Cell.TheVariants.{Na, Num, Int, Text, Bool, Slot}
use Rattle.aw_cell.specs.declared.cell.Kind.{Kind}
use Rattle.aw_cell.specs.declared.cell.Kind.TheVariants.{Num as NumberKind, Int as IntegerKind, Text as TextKind, Bool as BooleanKind}
use Rattle.aw_cell.specs.Names.{is_name}
use Rattle.aw_cell.specs.Text.{is_text}
use Rattle.aw_dim.specs.DimensionState.{Entry}
use Rattle.aw_schema.specs.declared.definition.Def.{Def}
use Rattle.aw_schema.specs.declared.definition.DefKind.{DefKind}
use Rattle.aw_schema.specs.declared.definition.DefKind.TheVariants.{Dimension, Relation, Valueset, Variable, Formula, Program, Aggmap}
use Rattle.aw_body.specs.declared.patch.BodyPatch.{BodyPatch}
use Rattle.aw_body.specs.declared.patch.BodyPatch.TheVariants.{Values, Slots, Cells}
use Rattle.aw_body.specs.declared.change.Change.{Change}
use Rattle.aw_codec.specs.declared.record.Decoded.{Decoded}
use Rattle.aw_codec.specs.declared.record.Decoded.TheVariants.{Definitions, Commit}
use Rattle.aw_codec.specs.Formats.{Format, ended, field, ◌>>=◌, number, bytes_of, many}

-- a byte that is always the same
abbrev pub constant : ℕ → Format ℕ
constant byte = number w8 (is_in_range byte byte)

-- one of two bytes
abbrev pub either : ℕ → ℕ → Format ℕ
either first second = number w8 (λ byte. byte == first || byte == second)

-- a number of 2 bytes, and one of 4 bytes
abbrev pub short : Format ℕ
short = number w16 (nat_le 0)

abbrev pub long : Format ℕ
long = number w32 (nat_le 0)

-- so many numbers of 2 bytes
unfoldable pub shorts : ℕ → Format (List ℕ)
shorts count = many (λ _. short) count []

-- the last one, where there is one
abbrev pub last_of : {X : Type 0} → List X → Option X
last_of xs = slice_get xs (length xs - 1)

-- ---- definitions

-- a text: how many bytes it has, and any bytes
unfoldable pub long_text : Format (List ℕ)
long_text = do
  size ← long
  text ← bytes_of size (λ _. true)
  ended text

-- a relation: its target and its base
unfoldable pub relation : Format DefKind
relation = do
  target ← short
  base ← short
  ended (Relation target base)

unfoldable pub valueset : Format DefKind
valueset = do
  dimension ← short
  ended (Valueset dimension)

abbrev pub type_of : ℕ → Kind
type_of byte = if byte == 1 then NumberKind else if byte == 2 then IntegerKind else if byte == 3 then TextKind else BooleanKind

-- a variable: its type, how many dimensions it has, at most 6, and they
unfoldable pub variable : Format DefKind
variable = do
  type ← number w8 (is_in_range 1 4)
  count ← number w8 (is_in_range 0 6)
  dimensions ← shorts count
  ended (Variable (type_of type) dimensions)

-- what has a text
unfoldable pub texted : (List ℕ → DefKind) → Format DefKind
texted kind = do
  text ← long_text
  ended (kind text)

-- what stands behind the byte of a kind
abbrev pub behind_kind : ℕ → Format DefKind
behind_kind kind =
    if kind == 0 then ended Dimension else
    if kind == 1 then relation else
    if kind == 2 then valueset else
    if kind == 3 then variable else
    if kind == 4 then texted Formula else
    if kind == 5 then texted Program else texted Aggmap

-- a definition: the length of its name, the name, the byte of its kind, and what belongs to that
unfoldable pub definition : Format Def
definition = do
  size ← number w8 (is_in_range 1 64)
  name ← bytes_of size is_name
  byte ← number w8 (is_in_range 0 6)
  kind ← behind_kind byte
  ended (record { name = name; kind = kind })

-- ---- cells

-- a NUMBER has eighteen digits
unfoldable pub units : Format Cell
units = do
  value ← number w64 (λ n. int_le (negsuc 999999999999999998) (cast_signed w64 n) && int_le (cast_signed w64 n) (pos 999999999999999999))
  ended (Num (cast_signed w64 value))

-- an INTEGER isn't the least number of 32 bits
unfoldable pub integer : Format Cell
integer = do
  value ← number w32 (λ n. not (n == 2147483648))
  ended (Int (cast_signed w32 value))

-- a TEXT: how many bytes it has, at most 64, and they
unfoldable pub text : Format Cell
text = do
  size ← number w8 (is_in_range 0 64)
  bytes ← bytes_of size is_text
  ended (Text bytes)

unfoldable pub truth : Format Cell
truth = do
  byte ← number w8 (is_in_range 0 1)
  ended (Bool (byte == 1))

unfoldable pub slot : Format Cell
slot = do
  number ← short
  ended (Slot number)

-- what stands behind the byte of a cell's kind
abbrev pub behind_cell_kind : ℕ → Format Cell
behind_cell_kind kind =
    if kind == 0 then ended Na else
    if kind == 1 then units else
    if kind == 2 then integer else
    if kind == 3 then text else
    if kind == 4 then truth else slot

-- a cell: the byte of its kind, and its value
unfoldable pub cell : Format Cell
cell = do
  kind ← number w8 (is_in_range 0 5)
  value ← behind_cell_kind kind
  ended value

-- ---- patches of cells

-- the least slot that may stand behind these slots of a key, so that the key is above the one before it: where the slots
-- are those of the key before, the next slot of that, and one more where it is the last
abbrev pub least_slot : ℕ → Option (List ℕ) → List ℕ → ℕ
least_slot size None slots = 0
least_slot size (Some previous) slots =
    if bytes_eq slots (take (length slots) previous)
    then slice_index previous (length slots) + (if length slots + 1 == size then 1 else 0)
    else 0

-- nothing may stand here
abbrev pub nothing : Format (List ℕ)
nothing = field 0 (λ _. false) (λ _. ended [])

-- a key of so many slots above the one before it; one of no slots is no byte, and isn't above another
unfoldable pub key : ℕ → Option (List ℕ) → Format (List ℕ)
key size previous =
    if size == 0 && is_some previous then nothing else many (λ slots. number w16 (nat_le (least_slot size previous slots))) size []

-- a cell of a patch, behind these: a key above the last one, and the cell
unfoldable pub keyed_cell : ℕ → List (List ℕ × Cell) → Format (List ℕ × Cell)
keyed_cell size before = do
  at ← key size (option_map (λ change. change.0) (last_of before))
  value ← cell
  ended (at, value)

-- what stands behind the letter of a patch of cells: how many slots each key has, at most 6, how many cells there are, 1
-- at least, and they
unfoldable pub cells : Format BodyPatch
cells = do
  size ← number w8 (is_in_range 0 6)
  count ← number w32 (nat_le 1)
  changes ← many (keyed_cell size) count []
  ended (Cells changes)

-- ---- patches of values and of slots

-- a value, behind these: a slot below the next one that none of them has, the length of its name, and a name that none
-- of them has
unfoldable pub value : ℕ → List Entry → Format Entry
value next before = do
  slot ← number w16 (λ slot. nat_lt slot next && not (list_any (λ entry. nat_eq entry.0 slot) before))
  size ← number w8 (is_in_range 1 64)
  name ← bytes_of size (λ name. is_text name && not (list_any (λ entry. bytes_eq entry.1 name) before))
  ended (slot, name)

-- what stands behind the letter of a patch of values: the next slot, how many values there are, and they
unfoldable pub values : Format BodyPatch
values = do
  next ← number w32 (is_in_range 0 65536)
  count ← long
  entries ← many (value next) count []
  ended (Values (record { entries = entries; next = next }))

-- a slot that is none of these
unfoldable pub other_slot : List ℕ → Format ℕ
other_slot before = number w16 (λ slot. not (list_any (λ other. nat_eq other slot) before))

-- what stands behind the letter of a patch of slots: how many there are, and they
unfoldable pub slots : Format BodyPatch
slots = do
  count ← long
  all ← many other_slot count []
  ended (Slots all)

-- ---- records

-- what stands behind the letter of a patch, `L`, `M` or `S`
abbrev pub behind_letter : ℕ → Format BodyPatch
behind_letter letter = if letter == 76 then values else if letter == 77 then cells else slots

unfoldable pub patch : Format BodyPatch
patch = do
  letter ← number w8 (λ byte. byte == 76 || byte == 77 || byte == 83)
  found ← behind_letter letter
  ended found

-- a change, behind these: an object above the last one, and its patch
unfoldable pub change : List Change → Format Change
change before = do
  object ← number w16 (nat_le (option_map_or (λ last. last.object + 1) (last_of before) 0))
  found ← patch
  ended (record { object = object; patch = found })

-- what stands behind the version of a record of definitions: how many there are, and they
unfoldable pub all_definitions : Format Decoded
all_definitions = do
  count ← short
  defs ← many (λ _. definition) count []
  ended (Definitions defs)

-- what stands behind the version of a commit: how many changes there are, 1 at least, and they
unfoldable pub all_changes : Format Decoded
all_changes = do
  count ← number w16 (nat_le 1)
  changes ← many change count []
  ended (Commit changes)

-- a record: its letter, `C` or `D`, the version 1, and what stands behind it
unfoldable pub record_format : Format Decoded
record_format = do
  letter ← either 67 68
  _ ← constant 1
  if letter == 67 then all_changes else all_definitions
