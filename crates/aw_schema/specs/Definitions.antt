-- Definitions of objects: how they are found, which objects they name, which of them are kept, and which can be
-- spelled in a record.
use Rattle.std.specs.Prelude.{ℕ, Bool, true, false, ◌&&◌, List, length, Option, position, nat_lt}
use Rattle.aw_cell.specs.declared.cell.Kind.{Kind}
use Rattle.aw_cell.specs.declared.cell.Kind.TheVariants.{Num, Int, Text, Bool as Truth, Slot}
use Rattle.aw_cell.specs.Names.{is_name, same_word}
use Rattle.aw_schema.specs.declared.definition.Def.{Def}
use Rattle.aw_schema.specs.declared.definition.DefKind.{DefKind}
use Rattle.aw_schema.specs.declared.definition.DefKind.TheVariants.{Dimension, Relation, Valueset, Variable, Formula, Program, Aggmap}

-- names are compared without regard to case
abbrev pub has_name : List ℕ → Def → Bool
has_name name def = same_word name def.name

-- the number of the object that has a name: its place in the order of definition, from 0
abbrev pub object_of : List Def → List ℕ → Option ℕ
object_of catalogue name = position (has_name name) catalogue

abbrev pub is_dimension : DefKind → Bool
is_dimension Dimension = true
is_dimension _ = false

-- the kinds of objects that hold values, and so have generations
abbrev pub is_kept : DefKind → Bool
is_kept Dimension = true
is_kept (Relation target base) = true
is_kept (Valueset dimension) = true
is_kept (Variable kind dimensions) = true
is_kept (Formula text) = false
is_kept (Program text) = false
is_kept (Aggmap text) = false

-- the types of a variable: no variable holds slots
abbrev pub is_type : Kind → Bool
is_type Num = true
is_type Int = true
is_type Text = true
is_type Truth = true
is_type Slot = false

-- what a record has a form for: a variable of one of the types, and a text of fewer than 2 ^ 32 bytes
abbrev pub has_form : DefKind → Bool
has_form Dimension = true
has_form (Relation target base) = true
has_form (Valueset dimension) = true
has_form (Variable kind dimensions) = is_type kind
has_form (Formula text) = nat_lt (length text) 4294967296
has_form (Program text) = nat_lt (length text) 4294967296
has_form (Aggmap text) = nat_lt (length text) 4294967296

-- a definition that a record can hold: its name is one, and it has a form
abbrev pub is_spellable : Def → Bool
is_spellable def = is_name def.name && has_form def.kind
