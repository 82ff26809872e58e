-- How many bytes the record of definitions has.
use Rattle.std.specs.Prelude.{ℕ, ◌+◌, ◌*◌, List, length}
use Rattle.std.specs.List.{sum_by}
use Rattle.aw_schema.specs.declared.definition.Def.{Def}
use Rattle.aw_schema.specs.declared.definition.DefKind.{DefKind}
use Rattle.aw_schema.specs.declared.definition.DefKind.TheVariants.{Dimension, Relation, Valueset, Variable, Formula, Program, Aggmap}

-- what stands behind the byte that tells the kind: 2 bytes for each number; of a variable a byte each for its type and
-- for how many dimensions it has, and those; of a text 4 bytes for its length, and the text
abbrev pub fields_len : DefKind → ℕ
fields_len Dimension = 0
fields_len (Relation target base) = 4
fields_len (Valueset dimension) = 2
fields_len (Variable kind dimensions) = 2 + 2 * length dimensions
fields_len (Formula text) = 4 + length text
fields_len (Program text) = 4 + length text
fields_len (Aggmap text) = 4 + length text

-- a definition: a byte for the length of its name, the name, a byte for its kind, and the fields
abbrev pub definition_len : Def → ℕ
definition_len def = 2 + length def.name + fields_len def.kind

-- the record: its letter, its version, 2 bytes for how many definitions there are, and they
abbrev pub record_len : List Def → ℕ
record_len defs = 4 + sum_by definition_len defs
