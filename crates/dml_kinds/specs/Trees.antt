-- The tree of an expression: what its names mean in place of the names, and an INTEGER as a NUMBER where it meets one.
use Rattle.std.specs.Prelude.{ℕ, List, [], ◌∷◌, Option, Some, None}
use Rattle.std.specs.List.{filter_map}
use Rattle.std.specs.Option.{option_map}
use Rattle.aw_cell.specs.declared.cell.Cell.{Cell}
use Rattle.aw_cell.specs.declared.cell.Cell.TheVariants as cell
use Rattle.aw_cell.specs.declared.cell.Kind.{Kind}
use Rattle.aw_cell.specs.declared.cell.Kind.TheVariants as kind
use Rattle.dml_tree.specs.declared.expr.Fix.{Fix}
use Rattle.dml_tree.specs.declared.expr.Joint.{Joint}
use Rattle.dml_tree.specs.declared.expr.Joint.TheVariants as joint
use Rattle.dml_tree.specs.declared.expr.Target.{Target}
use Rattle.dml_tree.specs.declared.expr.Expr.{Expr, fold-Expr}
use Rattle.dml_tree.specs.declared.expr.Expr.TheOpen.{Expr-F}
use Rattle.dml_kinds.specs.declared.types.ValueType.{ValueType}
use Rattle.dml_kinds.specs.declared.types.ValueType.TheVariants.{Na, Of}
use Rattle.dml_kinds.specs.declared.meaning.Meaning.{Meaning}
use Rattle.dml_kinds.specs.declared.meaning.Meaning.TheVariants as meaning
use Rattle.dml_kinds.specs.declared.tree.FixedValue.{FixedValue}
use Rattle.dml_kinds.specs.declared.tree.Taken.{Taken}
use Rattle.dml_kinds.specs.declared.tree.Tree.{Tree, out-Tree}
use Rattle.dml_kinds.specs.declared.tree.Tree.TheOpen.{Tree-F}
use Rattle.dml_kinds.specs.declared.tree.Tree.TheVariants as tree
use Rattle.dml_kinds.specs.Meanings.{Names, dimension_named, meaning_named}

-- ---- the type of a tree

abbrev pub cell_type : Cell → ValueType
cell_type (cell.Num units) = Of kind.Num
cell_type (cell.Int whole) = Of kind.Int
cell_type (cell.Text text) = Of kind.Text
cell_type (cell.Bool truth) = Of kind.Bool
cell_type _ = Na

abbrev pub joined_type : Joint → ValueType → ValueType
joined_type joint.Or met = Of kind.Bool
joined_type joint.And met = Of kind.Bool
joined_type (joint.Compare order) met = Of kind.Bool
joined_type _ met = met

abbrev pub level_kind : Tree-F Tree → ValueType
level_kind (Tree-F.Literal literal) = cell_type literal
level_kind (Tree-F.Local number k) = Of k
level_kind (Tree-F.Dimension dimension) = Of kind.Text
level_kind (Tree-F.Variable k taken) = Of k
level_kind (Tree-F.Relation target taken) = Of kind.Text
level_kind (Tree-F.Formula k taken) = Of k
level_kind (Tree-F.Not operand) = Of kind.Bool
level_kind (Tree-F.Negative k operand) = Of k
level_kind (Tree-F.Abs k operand) = Of k
level_kind (Tree-F.AsNumber operand) = Of kind.Num
level_kind (Tree-F.Joined j met left right) = joined_type j met
level_kind (Tree-F.If k condition first second) = k

abbrev pub tree_type : Tree → ValueType
tree_type t = level_kind (out-Tree t)

-- ---- types that meet

-- the one type of two, which is NUMBER of an INTEGER and a NUMBER
abbrev pub common : ValueType → ValueType → ValueType
common Na other = other
common (Of kind.Int) (Of kind.Num) = Of kind.Num
common one other = one

-- NA alone as a number is an INTEGER
abbrev pub or_integer : ValueType → ValueType
or_integer Na = Of kind.Int
or_integer (Of k) = Of k

abbrev pub number_kind : ValueType → Kind
number_kind Na = kind.Int
number_kind (Of k) = k

-- the type in which two operands meet
abbrev pub meeting : Joint → ValueType → ValueType → ValueType
meeting joint.Or one other = Of kind.Bool
meeting joint.And one other = Of kind.Bool
meeting joint.Div one other = Of kind.Num
meeting joint.NaFill one other = common one other
meeting _ one other = or_integer (common one other)

-- an INTEGER as a NUMBER, where that is wanted
abbrev pub fitted_to : ValueType → ValueType → Tree → Tree
fitted_to (Of kind.Num) (Of kind.Int) t = tree.AsNumber t
fitted_to wanted own t = t

abbrev pub fitted : ValueType → Tree → Tree
fitted wanted t = fitted_to wanted (tree_type t) t

abbrev pub joined : Joint → ValueType → Tree → Tree → Tree
joined j met left right = tree.Joined j met (fitted met left) (fitted met right)

abbrev pub chosen : ValueType → Tree → Tree → Tree → Tree
chosen k condition first second = tree.If k condition (fitted k first) (fitted k second)

-- ---- names

abbrev pub taken : ℕ → List ℕ → List FixedValue → Taken
taken object dimensions fixes = record { object = object; dimensions = dimensions; fixes = fixes }

-- what a meaning gives at fixed values; NA where it is no value
abbrev pub meant : Option Meaning → List FixedValue → Tree
meant (Some (meaning.Local place k)) fixes = tree.Local place k
meant (Some (meaning.Dimension object)) fixes = tree.Dimension object
meant (Some (meaning.Relation object target base)) fixes = tree.Relation target (taken object (base ∷ []) fixes)
meant (Some (meaning.Variable object k dimensions)) fixes = tree.Variable k (taken object dimensions fixes)
meant (Some (meaning.Formula object k dimensions weight)) fixes = tree.Formula k (taken object dimensions fixes)
meant _ fixes = tree.Literal cell.Na

module _ (names : Names) where
  abbrev pub fixed_value : Fix → Option FixedValue
  fixed_value fix = option_map (λ d. record { dimension = d; value = fix.value }) (dimension_named names fix.dimension)

  -- the fixed values whose dimension is known
  abbrev pub fixed_values : List Fix → List FixedValue
  fixed_values fixes = filter_map fixed_value fixes

  abbrev pub target_tree : Target → Tree
  target_tree target = meant (meaning_named names target.name) (fixed_values target.fixes)

  -- ---- expressions

  abbrev pub level_tree : Expr-F Tree → Tree
  level_tree Expr-F.Na = tree.Literal cell.Na
  level_tree (Expr-F.Integer whole) = tree.Literal (cell.Int whole)
  level_tree (Expr-F.Number number) = tree.Literal (cell.Num number)
  level_tree (Expr-F.Text text) = tree.Literal (cell.Text text)
  level_tree (Expr-F.Truth truth) = tree.Literal (cell.Bool truth)
  level_tree (Expr-F.Object target) = target_tree target
  level_tree (Expr-F.Grouped inner) = inner
  level_tree (Expr-F.Not operand) = tree.Not operand
  level_tree (Expr-F.Negative operand) = tree.Negative (number_kind (tree_type operand)) operand
  level_tree (Expr-F.Abs operand) = tree.Abs (number_kind (tree_type operand)) operand
  level_tree (Expr-F.Joined j left right) = joined j (meeting j (tree_type left) (tree_type right)) left right
  level_tree (Expr-F.If condition first second) = chosen (common (tree_type first) (tree_type second)) condition first second

  -- the tree of an expression
  abbrev pub tree_of : Expr → Tree
  tree_of = fold-Expr Tree level_tree
