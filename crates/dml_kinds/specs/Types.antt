-- The type of an expression.
use Rattle.std.specs.Prelude.{ℕ, Bool, true, false, ◌&&◌, ◌||◌, List, Option, Some, None, if◌then◌else◌}
use Rattle.std.specs.Option.{option_map, option_and_then}
use Rattle.aw_cell.specs.declared.cell.Kind.{Kind}
use Rattle.aw_cell.specs.declared.cell.Kind.TheVariants as kind
use Rattle.aw_cell.specs.declared.comparison.Order.{Order}
use Rattle.aw_cell.specs.declared.comparison.Order.TheVariants as order
use Rattle.dml_tree.specs.declared.expr.Joint.{Joint}
use Rattle.dml_tree.specs.declared.expr.Joint.TheVariants as joint
use Rattle.dml_tree.specs.declared.expr.Target.{Target}
use Rattle.dml_tree.specs.declared.expr.Expr.{Expr, fold-Expr}
use Rattle.dml_tree.specs.declared.expr.Expr.TheOpen.{Expr-F}
use Rattle.dml_kinds.specs.declared.types.ValueType.{ValueType}
use Rattle.dml_kinds.specs.declared.types.ValueType.TheVariants.{Na, Of}
use Rattle.dml_kinds.specs.Meanings.{Names, kind_named}

-- a type, or none where types don't fit
abbrev pub Typing : Type 0
Typing = Option ValueType

-- ---- NA fits every type

abbrev pub is_number : ValueType → Bool
is_number Na = true
is_number (Of kind.Int) = true
is_number (Of kind.Num) = true
is_number (Of _) = false

abbrev pub is_text : ValueType → Bool
is_text Na = true
is_text (Of kind.Text) = true
is_text (Of _) = false

abbrev pub is_truth : ValueType → Bool
is_truth Na = true
is_truth (Of kind.Bool) = true
is_truth (Of _) = false

-- ---- the operators

abbrev pub only_if : Bool → Kind → Typing
only_if holds k = if holds then Some (Of k) else None

-- NUMBER where one of two numbers is, else INTEGER, also for NA
abbrev pub wider : ValueType → ValueType → Kind
wider (Of kind.Num) other = kind.Num
wider one (Of kind.Num) = kind.Num
wider one other = kind.Int

-- two numbers
abbrev pub number_type : ValueType → ValueType → Typing
number_type one other = only_if (is_number one && is_number other) (wider one other)

-- a quotient of two numbers is a NUMBER
abbrev pub quotient_type : ValueType → ValueType → Typing
quotient_type one other = only_if (is_number one && is_number other) kind.Num

abbrev pub truth_type : ValueType → ValueType → Typing
truth_type one other = only_if (is_truth one && is_truth other) kind.Bool

-- EQ and NE alone compare two BOOLEANs
abbrev pub compares_truths : Order → Bool
compares_truths order.Eq = true
compares_truths order.Ne = true
compares_truths _ = false

-- two numbers, two TEXTs, or two BOOLEANs
abbrev pub is_comparable : Order → ValueType → ValueType → Bool
is_comparable o one other =
    (is_number one && is_number other) || (is_text one && is_text other) || (is_truth one && is_truth other && compares_truths o)

abbrev pub comparison_type : Order → ValueType → ValueType → Typing
comparison_type o one other = only_if (is_comparable o one other) kind.Bool

-- one type, or INTEGER and NUMBER, which gives NUMBER; two NA stay NA
abbrev pub common_type : ValueType → ValueType → Typing
common_type Na other = Some other
common_type one Na = Some one
common_type (Of kind.Text) (Of kind.Text) = Some (Of kind.Text)
common_type (Of kind.Bool) (Of kind.Bool) = Some (Of kind.Bool)
common_type one other = number_type one other

abbrev pub joint_type : Joint → ValueType → ValueType → Typing
joint_type joint.Or one other = truth_type one other
joint_type joint.And one other = truth_type one other
joint_type (joint.Compare o) one other = comparison_type o one other
joint_type joint.Add one other = number_type one other
joint_type joint.Sub one other = number_type one other
joint_type joint.Mul one other = number_type one other
joint_type joint.Div one other = quotient_type one other
joint_type joint.Min one other = number_type one other
joint_type joint.Max one other = number_type one other
joint_type joint.NaFill one other = common_type one other

-- NOT
abbrev pub negated_type : ValueType → Typing
negated_type type = truth_type type Na

-- negation and ABS
abbrev pub size_type : ValueType → Typing
size_type type = number_type type Na

-- a condition, and two branches of one type
abbrev pub choice_type : ValueType → ValueType → ValueType → Typing
choice_type condition first second = if is_truth condition then common_type first second else None

-- ---- expressions

-- where both, or all three, have a type
abbrev pub from_two : (ValueType → ValueType → Typing) → Typing → Typing → Typing
from_two f (Some one) (Some other) = f one other
from_two f _ _ = None

abbrev pub from_three : (ValueType → ValueType → ValueType → Typing) → Typing → Typing → Typing → Typing
from_three f (Some one) (Some other) (Some third) = f one other third
from_three f _ _ _ = None

module _ (names : Names) where
  -- the type of one level, where the types of its operands fit
  abbrev pub level_type : Expr-F Typing → Typing
  level_type Expr-F.Na = Some Na
  level_type (Expr-F.Integer whole) = Some (Of kind.Int)
  level_type (Expr-F.Number number) = Some (Of kind.Num)
  level_type (Expr-F.Text text) = Some (Of kind.Text)
  level_type (Expr-F.Truth truth) = Some (Of kind.Bool)
  level_type (Expr-F.Object target) = option_map Of (kind_named names target.name)
  level_type (Expr-F.Grouped inner) = inner
  level_type (Expr-F.Not operand) = option_and_then negated_type operand
  level_type (Expr-F.Negative operand) = option_and_then size_type operand
  level_type (Expr-F.Abs operand) = option_and_then size_type operand
  level_type (Expr-F.Joined joint left right) = from_two (joint_type joint) left right
  level_type (Expr-F.If condition first second) = from_three choice_type condition first second

  -- the type, where all types fit
  abbrev pub type_of : Expr → Typing
  type_of = fold-Expr Typing level_type
