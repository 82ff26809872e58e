-- The dump of a list of records: of each object that is kept the latest generation.
use Rattle.std.specs.Prelude.{◌≡◌, ◌<◌, ◌+◌, ℕ, ℤ, pos, negsuc, false, List, [], ◌∷◌, ◌++◌, codes, length, map, Option, None, Some, IsTrue, All}
use Rattle.std.specs.List.{flat_map, list_all}
use Rattle.std.specs.Option.{option_map}
use Rattle.std.specs.Fmt.{decimal}
use Rattle.aw_cell.specs.declared.cell.Cell.{Cell}
use Rattle.aw_cell.specs.declared.cell.Cell.TheVariants.{Na, Num, Int, Text, Bool, Slot}
use Rattle.aw_cell.specs.CellText.{cell_text}
use Rattle.aw_cell.specs.Names.{is_name}
use Rattle.aw_cell.specs.Number.{IsInRange}
use Rattle.aw_cell.specs.Text.{is_text_byte}
use Rattle.aw_lists.specs.Coord.{AreSlots}
use Rattle.aw_dim.specs.DimensionState.{Entry, IsDimension}
use Rattle.aw_var.specs.CellMap.{KeyedCell}
use Rattle.aw_var.specs.Variable.{Contents, IsVariable}
use Rattle.aw_schema.specs.declared.definition.Def.{Def}
use Rattle.aw_schema.specs.declared.definition.DefKind.{DefKind}
use Rattle.aw_schema.specs.Definitions.{is_kept}
use Rattle.aw_body.specs.declared.body.Body.{Body}
use Rattle.aw_body.specs.declared.body.Body.TheVariants.{Dim, Rel, Set, Var}
use Rattle.aw_body.specs.Bodies.{IsBodyOf}
use Rattle.aw_codec.specs.declared.record.Decoded.{Decoded}
use Rattle.mv_core.specs.declared.object.Object.{Object}
use Rattle.mv_core.specs.Workspace.{Table}
use Rattle.aw_store.specs.StoredRecords.{definitions_of, stood_by, CanBeOpened}

-- ---- what a body has

-- two blanks, the text, and the end of the line
abbrev pub line_of : List ℕ → List ℕ
line_of text = codes "  " ++ text ++ 10 ∷ []

-- a value of a dimension: its slot and its name
abbrev pub value_line : Entry → List ℕ
value_line entry = line_of (decimal entry.0 ++ 32 ∷ entry.1)

-- a slot of a valueset
abbrev pub slot_line : ℕ → List ℕ
slot_line slot = line_of (decimal slot)

-- the slots of a key, each with a blank behind it
abbrev pub key_text : List ℕ → List ℕ
key_text slots = flat_map (λ slot. decimal slot ++ 32 ∷ []) slots

-- a cell that isn't NA, behind its key
abbrev pub cell_line : KeyedCell → List ℕ
cell_line pair = line_of (key_text pair.0 ++ codes "= " ++ cell_text pair.1)

-- a line for each value, slot or cell
abbrev pub body_lines : Body → List ℕ
body_lines (Dim values) = flat_map value_line values.entries
body_lines (Rel contents) = flat_map cell_line contents.cells
body_lines (Set slots) = flat_map slot_line slots
body_lines (Var contents) = flat_map cell_line contents.cells

-- how many lines these are; of a dimension also the slot that the next value gets
abbrev pub counted : Body → List ℕ
counted (Dim values) = decimal (length values.entries) ++ 32 ∷ decimal values.next
counted (Rel contents) = decimal (length contents.cells)
counted (Set slots) = decimal (length slots)
counted (Var contents) = decimal (length contents.cells)

-- ---- the objects

-- a name, the number of the latest generation, and the counts
abbrev pub heading : List ℕ → ℕ → List ℕ → List ℕ
heading name number counts = name ++ 32 ∷ decimal number ++ 32 ∷ counts ++ 10 ∷ []

abbrev pub dumped_object : List ℕ → ℕ → Body → List ℕ
dumped_object name number body = heading name number (counted body) ++ body_lines body

-- nothing of an object that isn't kept
abbrev pub dumped_kept : List ℕ → Option (Object Body) → List ℕ
dumped_kept name None = []
dumped_kept name (Some it) = dumped_object name it.number it.body

-- each object under its name, in order of definition
abbrev pub dumped : List Def → List (Option (Object Body)) → List ℕ
dumped [] objects = []
dumped (def ∷ definitions) [] = []
dumped (def ∷ definitions) (found ∷ objects) = dumped_kept def.name found ++ dumped definitions objects

-- the objects as they stand
abbrev pub dumped_table : Table → List ℕ
dumped_table table = dumped table.definitions table.objects

abbrev pub dump_text : List Decoded → List ℕ
dump_text records = dumped_table (stood_by records [])

-- ---- what a dump tells

-- an INTEGER of 64 bits
abbrev pub IsSmall : ℤ → Type 0
IsSmall (pos n) = n < 9223372036854775808
IsSmall (negsuc n) = n + 1 < 9223372036854775808

-- a cell in the range of its kind, in whose text no line ends
abbrev pub IsCellTold : Cell → Type 0
IsCellTold Na = Unit {0}
IsCellTold (Num units) = IsInRange units
IsCellTold (Int whole) = IsSmall whole
IsCellTold (Text bytes) = IsTrue (list_all is_text_byte bytes)
IsCellTold (Bool truth) = Unit {0}
IsCellTold (Slot slot) = slot < 65536

abbrev pub AreCellsTold : Contents → Type 0
AreCellsTold contents = IsVariable contents × All (λ pair. IsCellTold pair.1) contents.cells

-- the value of a dimension, a list of slots, or a finite map to such cells
abbrev pub IsBodyTold : Body → Type 0
IsBodyTold (Dim values) = IsDimension values
IsBodyTold (Rel contents) = AreCellsTold contents
IsBodyTold (Set slots) = AreSlots slots
IsBodyTold (Var contents) = AreCellsTold contents

-- an object stands where its definition is of a kept kind, and its body has the form of the definition
abbrev pub IsDumpable : DefKind → Option (Object Body) → Type 0
IsDumpable kind None = is_kept kind ≡ false
IsDumpable kind (Some it) = (it.number < 18446744073709551616) × IsBodyOf kind it.body × IsBodyTold it.body

-- there is one for each definition
abbrev pub AreDumpable : List Def → List (Option (Object Body)) → Type 0
AreDumpable [] [] = Unit {0}
AreDumpable (def ∷ definitions) (found ∷ objects) = IsTrue (is_name def.name) × IsDumpable def.kind found × AreDumpable definitions objects
AreDumpable _ _ = ⊥

-- each object's number and body
abbrev pub seen_of : List (Option (Object Body)) → List (Option (ℕ × Body))
seen_of objects = map (option_map (λ (it : Object Body). let seen : ℕ × Body = (it.number, it.body) in seen)) objects

-- the dump of the objects of these definitions tells the number and the body of each
abbrev pub DumpTells : List Def → List (Option (Object Body)) → List (Option (Object Body)) → Type 0
DumpTells definitions one other =
    AreDumpable definitions one → AreDumpable definitions other → dumped definitions one ≡ dumped definitions other → seen_of one ≡ seen_of other

-- The dump of records that a store opens with tells each object's number and body, where the definitions are known. A list
-- of 2 ^ 64 records would be needed to wear a number out.
abbrev pub RecordsTell : List Decoded → List Decoded → Type 0
RecordsTell one other =
    CanBeOpened one → CanBeOpened other → length one < 18446744073709551616 → length other < 18446744073709551616 → definitions_of one ≡ definitions_of other
    → dump_text one ≡ dump_text other → seen_of (stood_by one []).objects ≡ seen_of (stood_by other []).objects
