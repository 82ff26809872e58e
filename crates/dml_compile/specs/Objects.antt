-- What code can do with the objects of a catalogue: it reads the cells of variables and relations, and names the values of
-- dimensions.
use Rattle.std.specs.Prelude.{List, [], ◌∷◌, map}
use Rattle.aw_cell.specs.declared.cell.Kind.TheVariants.{Slot as SlotKind}
use Rattle.aw_schema.specs.declared.definition.Def.{Def}
use Rattle.aw_schema.specs.declared.definition.DefKind.{DefKind}
use Rattle.aw_schema.specs.declared.definition.DefKind.TheVariants as definition
use Rattle.dml_exec.specs.declared.kinds.ObjectKind.{ObjectKind}
use Rattle.dml_exec.specs.declared.kinds.ObjectKind.TheVariants.{Dimension, Cells, Other}

abbrev pub object_kind : DefKind → ObjectKind
object_kind definition.Dimension = Dimension
object_kind (definition.Relation target base) = Cells SlotKind (base ∷ [])
object_kind (definition.Variable kind dimensions) = Cells kind dimensions
object_kind _ = Other

abbrev pub object_kinds : List Def → List ObjectKind
object_kinds definitions = map (λ (def : Def). object_kind def.kind) definitions
