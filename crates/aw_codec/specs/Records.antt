-- Records: how each is spelled, and what they may be.
use Rattle.std.specs.Prelude.{ℕ, ◌<◌, ◌≤◌, ◌≢◌, ◌^◌, ◌++◌, ◌+◌, ◌==◌, ◌&&◌, Bool as Truth, true, false, List, [], ◌∷◌, length, All, IsTrue, nat_le, negsuc, FitsSigned, ⊤}
use Rattle.std.specs.List.{flat_map, list_all}
use Rattle.std.specs.Int.{w32}
use Rattle.aw_lists.specs.Coord.{AreSlots}
use Rattle.aw_cell.specs.declared.cell.Cell.{Cell}
use Rattle.aw_cell.specs.declared.cell.Cell.TheVariants.{Na, Num, Int, Text, Bool, Slot}
use Rattle.aw_cell.specs.Number.{IsInRange}
use Rattle.aw_cell.specs.Text.{is_text}
use Rattle.aw_dim.specs.DimensionState.{IsDimension}
use Rattle.aw_schema.specs.declared.definition.Def.{Def}
use Rattle.aw_schema.specs.declared.definition.DefKind.{DefKind}
use Rattle.aw_schema.specs.declared.definition.DefKind.TheVariants.{Dimension, Relation, Valueset, Variable, Formula, Program, Aggmap}
use Rattle.aw_schema.specs.Definitions.{is_spellable}
use Rattle.aw_body.specs.declared.patch.BodyPatch.{BodyPatch}
use Rattle.aw_body.specs.declared.patch.BodyPatch.TheVariants.{Values, Slots, Cells}
use Rattle.aw_body.specs.declared.change.Change.{Change}
use Rattle.aw_body.specs.Fitting.{is_recorded, are_distinct, rise}
use Rattle.aw_codec.specs.declared.record.Decoded.{Decoded}
use Rattle.aw_codec.specs.declared.record.Decoded.TheVariants.{Definitions, Commit}
use Rattle.aw_codec.specs.Spellings as spelling
use Rattle.aw_codec.specs.Spellings.{short}

-- ---- how a record is spelled

-- a record: its letter, `D` or `C`, version 1, how many parts it has, and the parts
abbrev pub spelled : Decoded → List ℕ
spelled (Definitions defs) = 68 ∷ 1 ∷ short (length defs) ++ flat_map spelling.definition defs
spelled (Commit changes) = 67 ∷ 1 ∷ short (length changes) ++ flat_map spelling.change changes

-- a record has 1 to 67,108,864 bytes
abbrev pub FitsPayload : List ℕ → Type 0
FitsPayload bytes = (1 ≤ length bytes) × (length bytes ≤ 67108864)

-- ---- which changes can be committed together

-- each object is above the one before it, and the first is at least `least`
abbrev pub rise_from : ℕ → List Change → Truth
rise_from least [] = true
rise_from least (c ∷ changes) = nat_le least c.object && rise_from (c.object + 1) changes

-- one cell at least, each at a key of as many slots as the first one's, with no INTEGER that is -2147483648, and with
-- each key above the one before it
abbrev pub are_recordable : List (List ℕ × Cell) → Truth
are_recordable [] = false
are_recordable (first ∷ changes) =
    list_all (λ change. (length change.0 == length first.0) && is_recorded change.1) (first ∷ changes) && rise (first ∷ changes)

-- A patch that a record can hold, whatever the object is. Values are those of a dimension by their type.
abbrev pub is_recordable : BodyPatch → Truth
is_recordable (Values values) = true
is_recordable (Slots slots) = are_distinct slots
is_recordable (Cells changes) = are_recordable changes

-- changes that can be committed together: 1 to 4,096, by rising object
pub record AreCommittable (changes : List Change) : Type 0 where
  pub some : 1 ≤ length changes
  pub few : length changes ≤ 4096
  pub rising : IsTrue (rise_from 0 changes)
  pub recordable : IsTrue (list_all (λ c. is_recordable c.patch) changes)

-- ---- what a record may be

-- the numbers and bytes of a definition are those of its types
abbrev pub AreInRange : DefKind → Type 0
AreInRange Dimension = ⊤
AreInRange (Relation target base) = (target < 2 ^ 16) × (base < 2 ^ 16)
AreInRange (Valueset dimension) = dimension < 2 ^ 16
AreInRange (Variable type dimensions) = AreSlots dimensions × (length dimensions ≤ 6)
AreInRange (Formula text) = All (λ b. b < 256) text
AreInRange (Program text) = All (λ b. b < 256) text
AreInRange (Aggmap text) = All (λ b. b < 256) text

-- a definition with a name, of a kind that has a form
abbrev pub IsDefinition : Def → Type 0
IsDefinition def = IsTrue (is_spellable def) × AreInRange def.kind

-- the value of a cell is one of its kind, and an INTEGER isn't -2147483648
abbrev pub IsSpelled : Cell → Type 0
IsSpelled Na = ⊤
IsSpelled (Num units) = IsInRange units
IsSpelled (Int value) = FitsSigned w32 value × (value ≢ negsuc 2147483647)
IsSpelled (Text text) = IsTrue (is_text text)
IsSpelled (Bool truth) = ⊤
IsSpelled (Slot slot) = slot < 2 ^ 16

-- a key of up to 6 slots, with such a cell
abbrev pub IsKeyedCell : List ℕ × Cell → Type 0
IsKeyedCell change = AreSlots change.0 × (length change.0 ≤ 6) × IsSpelled change.1

-- the values of a dimension; distinct slots; or cells by rising keys of one number of slots, fewer than 2 ^ 32
abbrev pub IsPatch : BodyPatch → Type 0
IsPatch (Values values) = IsDimension values
IsPatch (Slots slots) = IsTrue (are_distinct slots) × AreSlots slots
IsPatch (Cells changes) = IsTrue (are_recordable changes) × (length changes < 2 ^ 32) × All IsKeyedCell changes

-- an object, whose number has 16 bits, with such a patch
abbrev pub IsChange : Change → Type 0
IsChange c = (c.object < 2 ^ 16) × IsPatch c.patch

-- what has a spelling: up to 65,535 definitions, or 1 to 65,535 changes by rising object
abbrev pub IsRecord : Decoded → Type 0
IsRecord (Definitions defs) = (length defs < 2 ^ 16) × All IsDefinition defs
IsRecord (Commit changes) =
    (1 ≤ length changes) × (length changes < 2 ^ 16) × IsTrue (rise_from 0 changes) × All IsChange changes
