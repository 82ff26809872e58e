-- The names, types and dimensions of statements.
use Rattle.std.specs.Prelude.{ℕ, Bool, true, false, ◌&&◌, ◌==◌, List, [], ◌∷◌, ◌++◌, map, Option, Some, None, if◌then◌else◌}
use Rattle.std.specs.List.{list_all}
use Rattle.std.specs.Option.{option_and_then}
use Rattle.std.specs.Str.{bytes_eq}
use Rattle.aw_cell.specs.declared.cell.Kind.{Kind}
use Rattle.aw_cell.specs.declared.cell.Kind.TheVariants as kind
use Rattle.aw_cell.specs.declared.operator.Operator.{Operator}
use Rattle.dml_tree.specs.declared.expr.Fix.{Fix}
use Rattle.dml_tree.specs.declared.expr.Target.{Target}
use Rattle.dml_tree.specs.declared.expr.Expr.{Expr, fold-Expr}
use Rattle.dml_tree.specs.declared.expr.Expr.TheOpen.{Expr-F}
use Rattle.dml_tree.specs.declared.statement.Select.{Select}
use Rattle.dml_tree.specs.declared.statement.Select.TheVariants as select
use Rattle.dml_tree.specs.declared.statement.Statement.{Statement}
use Rattle.dml_tree.specs.declared.statement.Statement.TheVariants as statement
use Rattle.dml_kinds.specs.declared.signature.Signature.{Signature}
use Rattle.dml_kinds.specs.declared.signature.Signature.TheVariants as signature
use Rattle.dml_kinds.specs.declared.meaning.Meaning.{Meaning}
use Rattle.dml_kinds.specs.declared.meaning.Meaning.TheVariants.{Dimension, Relation, Valueset, Variable, Program, Aggregation, Allocation}
use Rattle.dml_kinds.specs.declared.meaning.Role.TheVariants as role
use Rattle.dml_kinds.specs.declared.meaning.Use.{Use}
use Rattle.dml_kinds.specs.declared.types.ValueType.{ValueType}
use Rattle.dml_kinds.specs.Signatures.{Told, signature_of}
use Rattle.dml_kinds.specs.Meanings.{Names, meaning_named, kind_named, dimensions_named}
use Rattle.dml_kinds.specs.Names.{use_as, uses_of, fixed_names}
use Rattle.dml_kinds.specs.Types.{is_number, is_text, is_truth}
use Rattle.dml_kinds.specs.FreeDimensions.{is_among, target_dimensions, fixes_fit}

-- ---- names outside of expressions, in the order in which they stand

abbrev pub select_uses : Select → List Use
select_uses (select.Kin kin relation) = use_as role.Relation relation ∷ []
select_uses _ = []

abbrev pub assigned_uses : Target → List Use
assigned_uses target = uses_of role.Assigned role.AssignedAt target

abbrev pub own_uses : Statement → List Use
own_uses (statement.Acquire plain fresh same) = map (use_as role.Kept) (plain ++ fresh ++ same)
own_uses (statement.Resync names) = map (use_as role.Kept) names
own_uses (statement.Release names) = map (use_as role.Kept) names
own_uses (statement.Revert names) = map (use_as role.Kept) names
own_uses (statement.Update names) = map (use_as role.Kept) names
own_uses (statement.Add name values place) = use_as role.Dimension name ∷ []
own_uses (statement.Delete name values) = use_as role.Dimension name ∷ []
own_uses (statement.Move name values place) = use_as role.Dimension name ∷ []
own_uses (statement.Rename name before after) = use_as role.Dimension name ∷ []
own_uses (statement.Assign target e) = assigned_uses target
own_uses (statement.Limit name how what) = use_as role.Limited name ∷ select_uses what
own_uses (statement.Aggregate v m) = use_as role.Any v ∷ use_as role.Aggregation m ∷ []
own_uses (statement.Allocate source basis target m) =
    use_as role.Any source ∷ use_as role.Any basis ∷ use_as role.Any target ∷ use_as role.Allocation m ∷ []
own_uses (statement.Call program arguments) = use_as role.Program program ∷ []
own_uses _ = []

-- those of them that may not stand twice: objects to be shared, and the dimensions that the target of an assignment fixes
abbrev pub own_group : Statement → List (List ℕ)
own_group (statement.Acquire plain fresh same) = plain ++ fresh ++ same
own_group (statement.Resync names) = names
own_group (statement.Release names) = names
own_group (statement.Revert names) = names
own_group (statement.Update names) = names
own_group (statement.Assign target e) = fixed_names target.fixes
own_group _ = []

-- ---- what meanings tell

-- the dimension whose values are limited
abbrev pub limited_in : Meaning → Option ℕ
limited_in (Dimension object) = Some object
limited_in (Valueset object dimension) = Some dimension
limited_in _ = None

abbrev pub set_over_in : Meaning → Option ℕ
set_over_in (Valueset object dimension) = Some dimension
set_over_in _ = None

abbrev pub same_dimension : Option ℕ → Option ℕ → Bool
same_dimension (Some d) (Some other) = d == other
same_dimension _ _ = false

-- the kind of a variable of numbers
abbrev pub number_kind_in : Meaning → Option Kind
number_kind_in (Variable object kind.Num dimensions) = Some kind.Num
number_kind_in (Variable object kind.Int dimensions) = Some kind.Int
number_kind_in _ = None

abbrev pub relates : Option ℕ → Meaning → Bool
relates (Some d) (Relation object target base) = target == d && base == d
relates _ _ = false

abbrev pub is_some_kind : Option Kind → Bool
is_some_kind (Some k) = true
is_some_kind None = false

abbrev pub same_number_kind : Option Kind → Option Kind → Bool
same_number_kind (Some kind.Num) (Some kind.Num) = true
same_number_kind (Some kind.Int) (Some kind.Int) = true
same_number_kind _ _ = false

-- a value of the type can be stored as one of the kind: numbers as numbers, and NA always
abbrev pub is_storable : Kind → ValueType → Bool
is_storable kind.Num type = is_number type
is_storable kind.Int type = is_number type
is_storable kind.Text type = is_text type
is_storable kind.Bool type = is_truth type
is_storable kind.Slot type = false

abbrev pub all_storable : Option Kind → List ValueType → Bool
all_storable (Some k) types = list_all (is_storable k) types
all_storable None types = false

-- as many as the program has, each of which can be stored as its argument
abbrev pub arguments_fit : List Kind → List ValueType → Bool
arguments_fit [] [] = true
arguments_fit (k ∷ ks) (type ∷ types) = is_storable k type && arguments_fit ks types
arguments_fit _ _ = false

abbrev pub arguments_in : Option Signature → List Kind
arguments_in (Some (signature.Program arguments)) = arguments
arguments_in _ = []

abbrev pub lines_in : Option Signature → List (ℕ × Operator)
lines_in (Some (signature.Map lines)) = lines
lines_in _ = []

abbrev pub arguments_told : Told → ℕ → List Kind
arguments_told known object = arguments_in (signature_of known object)

abbrev pub lines_told : Told → ℕ → List (ℕ × Operator)
lines_told known object = lines_in (signature_of known object)

abbrev pub program_in : Told → Meaning → List Kind
program_in known (Program object) = arguments_told known object
program_in known _ = []

abbrev pub map_in : Told → Meaning → List (ℕ × Operator)
map_in known (Aggregation object) = lines_told known object
map_in known (Allocation object) = lines_told known object
map_in known _ = []

-- a name alone, without fixed values and parentheses
abbrev pub sole_target : Target → List Fix → Option (List ℕ)
sole_target target [] = Some target.name
sole_target target (fix ∷ fixes) = None

abbrev pub sole_level : Expr-F (Option (List ℕ)) → Option (List ℕ)
sole_level (Expr-F.Object target) = sole_target target target.fixes
sole_level _ = None

abbrev pub sole_name : Expr → Option (List ℕ)
sole_name = fold-Expr (Option (List ℕ)) sole_level

-- the types that a selection takes
abbrev pub select_types_fit : Select → List ValueType → Bool
select_types_fit (select.Top count by) types = list_all is_number types
select_types_fit (select.Bottom count by) types = list_all is_number types
select_types_fit (select.Where test) types = list_all is_truth types
select_types_fit _ types = true

module _ (names : Names) where
  abbrev pub limited : List ℕ → Option ℕ
  limited name = option_and_then limited_in (meaning_named names name)

  abbrev pub number_kind : List ℕ → Option Kind
  number_kind name = option_and_then number_kind_in (meaning_named names name)

  -- the dimension of a valueset
  abbrev pub set_over : List ℕ → Option ℕ
  set_over name = option_and_then set_over_in (meaning_named names name)

  -- whether an expression is a sole name of a valueset over the dimension that is limited
  abbrev pub is_sole_set : Option ℕ → Expr → Bool
  is_sole_set d e = same_dimension d (option_and_then set_over (sole_name e))

  -- ---- the expressions, in the order in which they stand

  abbrev pub select_expressions : Option ℕ → Select → List Expr
  select_expressions d (select.Top count by) = by ∷ []
  select_expressions d (select.Bottom count by) = by ∷ []
  select_expressions d (select.Where test) = if is_sole_set d test then [] else test ∷ []
  select_expressions d _ = []

  abbrev pub expressions : Statement → List Expr
  expressions (statement.Assign target e) = e ∷ []
  expressions (statement.Show e) = e ∷ []
  expressions (statement.Report e) = e ∷ []
  expressions (statement.Limit name how what) = select_expressions (limited name) what
  expressions (statement.Call program arguments) = arguments
  expressions _ = []

  -- a target has the dimensions that are fixed in it and, not fixed, all free ones of what is assigned
  abbrev pub target_fits : Target → List (List ℕ) → Bool
  target_fits target free = fixes_fit names target && list_all (list_all (is_among (target_dimensions names target))) free

  -- ---- what a statement asks of the types of its expressions, and of its other names

  module _ (known : Told) where
    abbrev pub program_named : List ℕ → List Kind
    program_named name = elim (meaning_named names name) [ Some meaning ↦ program_in known meaning | None ↦ [] ]

    abbrev pub map_named : List ℕ → List (ℕ × Operator)
    map_named name = elim (meaning_named names name) [ Some meaning ↦ map_in known meaning | None ↦ [] ]

    abbrev pub own_types_fit : Statement → List ValueType → Bool
    own_types_fit (statement.Assign target e) types = all_storable (kind_named names target.name) types
    own_types_fit (statement.Limit name how what) types = select_types_fit what types
    own_types_fit (statement.Aggregate v m) types = is_some_kind (number_kind v)
    own_types_fit (statement.Allocate source basis target m) types =
        is_some_kind (number_kind basis) && same_number_kind (number_kind source) (number_kind target)
    own_types_fit (statement.Call program arguments) types = arguments_fit (program_named program) types
    own_types_fit _ types = true

    -- ---- and of their dimensions

    abbrev pub select_dimensions_fit : Option ℕ → Select → Bool
    select_dimensions_fit d (select.Kin kin relation) =
        elim (meaning_named names relation) [ Some meaning ↦ relates d meaning | None ↦ false ]
    select_dimensions_fit d _ = true

    -- each line of the aggmap goes along one of these dimensions
    abbrev pub map_fits : List ℕ → List ℕ → Bool
    map_fits dimensions m = list_all (λ (line : ℕ × Operator). is_among dimensions line.0) (map_named m)

    -- a source, a basis and a target have one list of dimensions, the aggmap's among them
    abbrev pub allocate_fits : List ℕ → List ℕ → List ℕ → List ℕ → Bool
    allocate_fits source basis target m =
        bytes_eq (dimensions_named names source) (dimensions_named names basis)
        && bytes_eq (dimensions_named names source) (dimensions_named names target)
        && map_fits (dimensions_named names source) m

    abbrev pub own_dimensions_fit : Statement → List (List ℕ) → Bool
    own_dimensions_fit (statement.Assign target e) free = target_fits target free
    own_dimensions_fit (statement.Limit name how what) free = select_dimensions_fit (limited name) what
    own_dimensions_fit (statement.Aggregate v m) free = map_fits (dimensions_named names v) m
    own_dimensions_fit (statement.Allocate source basis target m) free = allocate_fits source basis target m
    own_dimensions_fit _ free = true
