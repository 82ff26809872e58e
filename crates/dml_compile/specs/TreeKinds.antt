-- Of which kind the cells of a tree are. A tree is asked for a kind, since NA alone is of each.
use Rattle.std.specs.Prelude.{◌≡◌, ℕ, ◌==◌, ◌&&◌, Bool, true, false, List, [], ◌∷◌, map, Option, Some, None, slice_get, if◌then◌else◌}
use Rattle.aw_cell.specs.declared.cell.Kind.{Kind}
use Rattle.aw_cell.specs.declared.cell.Kind.TheVariants.{Num as NUMBER, Int as INTEGER, Text as TEXT, Bool as BOOLEAN, Slot as SLOT}
use Rattle.aw_page.specs.Fitting.{is_of_kind}
use Rattle.dml_tree.specs.declared.expr.Joint.{Joint}
use Rattle.dml_tree.specs.declared.expr.Joint.TheVariants as joint
use Rattle.dml_kinds.specs.declared.types.ValueType.{ValueType}
use Rattle.dml_kinds.specs.declared.types.ValueType.TheVariants as type
use Rattle.dml_kinds.specs.declared.tree.Taken.{Taken}
use Rattle.dml_kinds.specs.declared.tree.Tree.{Tree, fold-Tree}
use Rattle.dml_kinds.specs.declared.tree.Tree.TheOpen.{Tree-F}
use Rattle.dml_exec.specs.declared.kinds.Kinds.{Kinds}
use Rattle.dml_exec.specs.declared.kinds.ObjectKind.{ObjectKind}
use Rattle.dml_exec.specs.declared.op.Axis.TheVariants.{Free}
use Rattle.dml_exec.specs.declared.operator.Unary.TheVariants.{Neg as Negates, Abs as Sizes, Convert as Converts, Not as Inverts}
use Rattle.dml_exec.specs.declared.operator.Binary.{Binary}
use Rattle.dml_exec.specs.declared.operator.Binary.TheVariants.{Add as Adds, Sub as Subtracts, Mul as Multiplies, Div as Divides, Min as TakesLeast, Max as TakesGreatest, NaFill as Fills, Compare as Compares, And as Joins, Or as Offers}
use Rattle.dml_exec.specs.Operators.{kind_of_one, kind_of_two}
use Rattle.dml_exec.specs.Verified.{kind_read, kind_named}
use Rattle.dml_compile.specs.Values.{FormulaTree}

abbrev pub same_kind : Kind → Kind → Bool
same_kind NUMBER NUMBER = true
same_kind INTEGER INTEGER = true
same_kind TEXT TEXT = true
same_kind BOOLEAN BOOLEAN = true
same_kind SLOT SLOT = true
same_kind _ _ = false

-- whether there is a kind, and it is this one
abbrev pub is_kind : Kind → Option Kind → Bool
is_kind kind None = false
is_kind kind (Some own) = same_kind own kind

-- the kind in which operands are wanted that meet in a type
abbrev pub wanted_in : ValueType → Kind → Kind
wanted_in type.Na wanted = wanted
wanted_in (type.Of kind) wanted = kind

abbrev pub operator_of : Joint → Binary
operator_of joint.Or = Offers
operator_of joint.And = Joins
operator_of (joint.Compare order) = Compares order
operator_of joint.Add = Adds
operator_of joint.Sub = Subtracts
operator_of joint.Mul = Multiplies
operator_of joint.Div = Divides
operator_of joint.Min = TakesLeast
operator_of joint.Max = TakesGreatest
operator_of joint.NaFill = Fills

abbrev pub joined_is : Joint → Kind → Kind → Bool
joined_is j kind met = is_kind kind (kind_of_two (operator_of j) met met)

-- over what may be named, and the kinds of the formulas by their numbers
module _ (kinds : Kinds) (formula : ℕ → Kind → Bool) where
  -- the kind of the cells of an object over these dimensions
  abbrev pub kind_taken : Taken → Option Kind
  kind_taken taken = kind_read kinds 0 (map Free taken.dimensions) (slice_get kinds.objects taken.object)

  -- whether the cells of one level are of a kind
  abbrev pub level_is : Tree-F (Kind → Bool) → Kind → Bool
  level_is (Tree-F.Literal cell) kind = is_of_kind kind cell
  level_is (Tree-F.Local number own) kind = is_kind kind (slice_get kinds.locals number)
  level_is (Tree-F.Dimension dimension) kind = is_kind kind (kind_named kinds dimension)
  level_is (Tree-F.Variable own taken) kind = is_kind kind (kind_taken taken)
  level_is (Tree-F.Relation target taken) kind = is_kind SLOT (kind_taken taken) && is_kind kind (kind_named kinds target)
  level_is (Tree-F.Formula own taken) kind = formula taken.object kind
  level_is (Tree-F.Not operand) kind = operand BOOLEAN && is_kind kind (kind_of_one Inverts BOOLEAN)
  level_is (Tree-F.Negative own operand) kind = operand own && is_kind kind (kind_of_one Negates own)
  level_is (Tree-F.Abs own operand) kind = operand own && is_kind kind (kind_of_one Sizes own)
  level_is (Tree-F.AsNumber operand) kind = operand INTEGER && is_kind kind (kind_of_one (Converts NUMBER) INTEGER)
  level_is (Tree-F.Joined j met left right) kind =
      left (wanted_in met kind) && (right (wanted_in met kind) && joined_is j kind (wanted_in met kind))
  level_is (Tree-F.If met condition first second) kind =
      condition BOOLEAN && (first (wanted_in met kind) && (second (wanted_in met kind) && same_kind (wanted_in met kind) kind))

  -- whether those of a tree are
  abbrev pub tree_is : Tree → Kind → Bool
  tree_is = fold-Tree (Kind → Bool) level_is

-- ---- formulas

-- whether a formula is of a kind; an unknown one is NA, which counts as an INTEGER
abbrev pub formula_is : List FormulaTree → ℕ → Kind → Bool
formula_is [] object kind = same_kind INTEGER kind
formula_is (formula ∷ earlier) object kind = if formula.object == object then same_kind formula.kind kind else formula_is earlier object kind

-- each formula's expression is of its kind, over those before it
abbrev pub AreOfKinds : List ObjectKind → List FormulaTree → Type 0
AreOfKinds objects [] = Unit {0}
AreOfKinds objects (formula ∷ earlier) =
    (tree_is (record { objects = objects; locals = [] }) (formula_is earlier) formula.tree formula.kind ≡ true) × AreOfKinds objects earlier
