-- What a name means where it stands, and what it may mean there.
use Rattle.std.specs.Prelude.{ℕ, ◌==◌, Bool, true, false, List, [], ◌∷◌, length, Option, Some, None, position, slice_get, if◌then◌else◌}
use Rattle.std.specs.List.{list_all}
use Rattle.std.specs.Option.{option_map, option_and_then}
use Rattle.aw_cell.specs.Names.{same_word}
use Rattle.aw_cell.specs.declared.cell.Kind.{Kind}
use Rattle.aw_cell.specs.declared.cell.Kind.TheVariants as kind
use Rattle.aw_cell.specs.declared.operator.Operator.{Operator}
use Rattle.aw_cell.specs.declared.operator.Operator.TheVariants as operator
use Rattle.aw_schema.specs.Definitions.{object_of}
use Rattle.aw_schema.specs.declared.definition.Def.{Def}
use Rattle.aw_schema.specs.declared.definition.DefKind.{DefKind}
use Rattle.aw_schema.specs.declared.definition.DefKind.TheVariants as defined
use Rattle.dml_kinds.specs.declared.signature.Signature.{Signature}
use Rattle.dml_kinds.specs.declared.signature.Signature.TheVariants as signature
use Rattle.dml_kinds.specs.declared.meaning.Meaning.{Meaning}
use Rattle.dml_kinds.specs.declared.meaning.Meaning.TheVariants.{Local, Dimension, Relation, Valueset, Variable, Formula, Program, Aggregation, Allocation, Unfit}
use Rattle.dml_kinds.specs.declared.meaning.Known.{Known}
use Rattle.dml_kinds.specs.declared.meaning.Role.{Role}
use Rattle.dml_kinds.specs.declared.meaning.Role.TheVariants as role
use Rattle.dml_kinds.specs.Signatures.{Told, signature_of}

-- what each name means, as it is written, and nothing where it is unknown
abbrev pub Names : Type 0
Names = List ℕ → Option Known

-- ---- objects

-- SUM, MIN and MAX
abbrev pub combines : Operator → Bool
combines operator.Sum = true
combines operator.Min = true
combines operator.Max = true
combines _ = false

-- AGGREGATE goes by lines of these operators alone, ALLOCATE by one line of another operator
abbrev pub map_of : ℕ → List (ℕ × Operator) → Meaning
map_of object lines =
    if list_all (λ (line : ℕ × Operator). combines line.1) lines
    then Aggregation object
    else if length lines == 1 then Allocation object else Unfit object

-- an object with a text means nothing where its signature isn't told
abbrev pub formula_meaning : ℕ → Option Signature → Option Meaning
formula_meaning object (Some (signature.Formula k dimensions weight)) = Some (Formula object k dimensions weight)
formula_meaning object _ = None

abbrev pub program_meaning : ℕ → Option Signature → Option Meaning
program_meaning object (Some (signature.Program arguments)) = Some (Program object)
program_meaning object _ = None

abbrev pub aggmap_meaning : ℕ → Option Signature → Option Meaning
aggmap_meaning object (Some (signature.Map lines)) = Some (map_of object lines)
aggmap_meaning object _ = None

abbrev pub meaning_of : Told → ℕ → DefKind → Option Meaning
meaning_of known object defined.Dimension = Some (Dimension object)
meaning_of known object (defined.Relation target base) = Some (Relation object target base)
meaning_of known object (defined.Valueset dimension) = Some (Valueset object dimension)
meaning_of known object (defined.Variable k dimensions) = Some (Variable object k dimensions)
meaning_of known object (defined.Formula text) = formula_meaning object (signature_of known object)
meaning_of known object (defined.Program text) = program_meaning object (signature_of known object)
meaning_of known object (defined.Aggmap text) = aggmap_meaning object (signature_of known object)

abbrev pub object_defined : Told → ℕ → Def → Option Known
object_defined known object def =
    option_map (λ meaning. record { name = def.name; meaning = meaning }) (meaning_of known object def.kind)

abbrev pub object_known : List Def → Told → ℕ → Option Known
object_known catalogue known object = option_and_then (object_defined known object) (slice_get catalogue object)

-- ---- names

abbrev pub local_at : ℕ → List ℕ × Kind → Known
local_at place local = record { name = local.0; meaning = Local place local.1 }

-- the first local of a name
abbrev pub local_named : List (List ℕ × Kind) → List ℕ → Option Known
local_named locals name =
    option_and_then (λ place. option_map (local_at place) (slice_get locals place))
    (position (λ (local : List ℕ × Kind). same_word name local.0) locals)

abbrev pub object_named : List Def → Told → List ℕ → Option Known
object_named catalogue known name = option_and_then (object_known catalogue known) (object_of catalogue name)

-- A name means the local of that name, or else the object; names are compared without regard to case.
unfoldable pub names_in : List Def → Told → List (List ℕ × Kind) → Names
names_in catalogue known locals name =
    elim (local_named locals name) [ Some local ↦ Some local | None ↦ object_named catalogue known name ]

-- ---- what a name may mean where it stands

abbrev pub is_value : Meaning → Bool
is_value (Local place k) = true
is_value (Dimension object) = true
is_value (Relation object target base) = true
is_value (Variable object k dimensions) = true
is_value (Formula object k dimensions weight) = true
is_value _ = false

-- at fixed values
abbrev pub can_be_taken : Meaning → Bool
can_be_taken (Relation object target base) = true
can_be_taken (Variable object k dimensions) = true
can_be_taken (Formula object k dimensions weight) = true
can_be_taken _ = false

abbrev pub can_be_assigned : Meaning → Bool
can_be_assigned (Local place k) = true
can_be_assigned (Relation object target base) = true
can_be_assigned (Variable object k dimensions) = true
can_be_assigned _ = false

abbrev pub can_be_assigned_at : Meaning → Bool
can_be_assigned_at (Relation object target base) = true
can_be_assigned_at (Variable object k dimensions) = true
can_be_assigned_at _ = false

abbrev pub is_dimension : Meaning → Bool
is_dimension (Dimension object) = true
is_dimension _ = false

abbrev pub is_kept : Meaning → Bool
is_kept (Dimension object) = true
is_kept (Relation object target base) = true
is_kept (Valueset object dimension) = true
is_kept (Variable object k dimensions) = true
is_kept _ = false

abbrev pub can_be_limited : Meaning → Bool
can_be_limited (Dimension object) = true
can_be_limited (Valueset object dimension) = true
can_be_limited _ = false

abbrev pub is_relation : Meaning → Bool
is_relation (Relation object target base) = true
is_relation _ = false

abbrev pub is_program : Meaning → Bool
is_program (Program object) = true
is_program _ = false

abbrev pub is_aggregation : Meaning → Bool
is_aggregation (Aggregation object) = true
is_aggregation _ = false

abbrev pub is_allocation : Meaning → Bool
is_allocation (Allocation object) = true
is_allocation _ = false

abbrev pub fits : Role → Meaning → Bool
fits role.Value meaning = is_value meaning
fits role.Taken meaning = can_be_taken meaning
fits role.Dimension meaning = is_dimension meaning
fits role.Assigned meaning = can_be_assigned meaning
fits role.AssignedAt meaning = can_be_assigned_at meaning
fits role.Kept meaning = is_kept meaning
fits role.Limited meaning = can_be_limited meaning
fits role.Relation meaning = is_relation meaning
fits role.Program meaning = is_program meaning
fits role.Aggregation meaning = is_aggregation meaning
fits role.Allocation meaning = is_allocation meaning
fits role.Any meaning = true

-- ---- what a meaning tells

abbrev pub object_in : Meaning → Option ℕ
object_in (Local place k) = None
object_in (Dimension object) = Some object
object_in (Relation object target base) = Some object
object_in (Valueset object dimension) = Some object
object_in (Variable object k dimensions) = Some object
object_in (Formula object k dimensions weight) = Some object
object_in (Program object) = Some object
object_in (Aggregation object) = Some object
object_in (Allocation object) = Some object
object_in (Unfit object) = Some object

abbrev pub dimension_in : Meaning → Option ℕ
dimension_in (Dimension object) = Some object
dimension_in _ = None

-- a dimension's name is TEXT, and so is a relation
abbrev pub kind_in : Meaning → Option Kind
kind_in (Local place k) = Some k
kind_in (Dimension object) = Some kind.Text
kind_in (Relation object target base) = Some kind.Text
kind_in (Variable object k dimensions) = Some k
kind_in (Formula object k dimensions weight) = Some k
kind_in _ = None

-- the dimensions over which it lies, in order: a dimension over itself, and a relation over its base
abbrev pub dimensions_in : Meaning → List ℕ
dimensions_in (Dimension object) = object ∷ []
dimensions_in (Relation object target base) = base ∷ []
dimensions_in (Variable object k dimensions) = dimensions
dimensions_in (Formula object k dimensions weight) = dimensions
dimensions_in _ = []

-- a formula's name counts its expression, any other one
abbrev pub weight_in : Meaning → ℕ
weight_in (Formula object k dimensions weight) = weight
weight_in _ = 1

-- ---- what a name tells, and nothing where it is unknown

module _ (names : Names) where
  abbrev pub meaning_named : List ℕ → Option Meaning
  meaning_named name = option_map (λ (known : Known). known.meaning) (names name)

  abbrev pub dimension_named : List ℕ → Option ℕ
  dimension_named name = option_and_then dimension_in (meaning_named name)

  abbrev pub kind_named : List ℕ → Option Kind
  kind_named name = option_and_then kind_in (meaning_named name)

  abbrev pub dimensions_named : List ℕ → List ℕ
  dimensions_named name = elim (meaning_named name) [ Some meaning ↦ dimensions_in meaning | None ↦ [] ]

  abbrev pub weight_named : List ℕ → ℕ
  weight_named name = elim (meaning_named name) [ Some meaning ↦ weight_in meaning | None ↦ 1 ]
