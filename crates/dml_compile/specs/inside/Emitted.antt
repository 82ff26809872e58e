-- The ops of a tree.
use Rattle.std.specs.Prelude.{ℕ, ◌+◌, ◌==◌, List, [], ◌∷◌, ◌++◌, length, map, Option, Some, None, if◌then◌else◌}
use Rattle.std.specs.List.{find}
use Rattle.aw_cell.specs.declared.cell.Cell.TheVariants.{Na, Text as Chars}
use Rattle.aw_cell.specs.declared.cell.Kind.{Kind}
use Rattle.aw_cell.specs.declared.cell.Kind.TheVariants.{Num as NUMBER, Int as INTEGER, Text as TEXT, Bool as BOOLEAN}
use Rattle.dml_tree.specs.declared.expr.Joint.{Joint}
use Rattle.dml_tree.specs.declared.expr.Joint.TheVariants as joint
use Rattle.dml_kinds.specs.declared.tree.FixedValue.{FixedValue}
use Rattle.dml_kinds.specs.declared.tree.Taken.{Taken}
use Rattle.dml_kinds.specs.declared.tree.Tree.{Tree, fold-Tree}
use Rattle.dml_kinds.specs.declared.tree.Tree.TheOpen.{Tree-F}
use Rattle.dml_exec.specs.declared.kinds.Fix.{Fix}
use Rattle.dml_exec.specs.declared.op.Axis.{Axis}
use Rattle.dml_exec.specs.declared.op.Axis.TheVariants.{Free, Fixed}
use Rattle.dml_exec.specs.declared.op.Op.{Op}
use Rattle.dml_exec.specs.declared.op.Op.TheVariants.{Push, Local, Load, Name, NameOf, Add, Sub, Mul, Div, Neg, Abs, Min, Max, NaFill, Convert, Compare, And, Or, Not, Branch, Jump}
use Rattle.dml_compile.specs.Compiled.{fixes_of}
use Rattle.dml_compile.specs.Values.{FormulaTree}
use Rattle.dml_compile.specs.TreeKinds.{wanted_in}

-- the ops of a formula, from the place 0 on, and what they fix
pub record FormulaCode : Type 0 where
  pub ops : List Op
  pub fixes : List Fix

-- the ops of a tree: what they fix, and the ops where this kind is wanted, from a place on, the first of its fixes having
-- this number
pub record Emitted : Type 0 where
  pub fixes : List Fix
  pub ops : Kind → ℕ → ℕ → List Op

-- ---- names

-- the axis of a dimension, where the first of these fixes has this number
abbrev pub axis_of : List FixedValue → ℕ → ℕ → Axis
axis_of [] number dimension = Free dimension
axis_of (fix ∷ fixes) number dimension =
    if fix.dimension == dimension then Fixed number else axis_of fixes (number + 1) dimension

abbrev pub load : Taken → ℕ → Op
load taken first = Load taken.object (map (axis_of taken.fixes first) taken.dimensions)

-- the value that is fixed in a dimension
abbrev pub fixed_in : List FixedValue → ℕ → Option FixedValue
fixed_in fixes dimension = find (λ (fix : FixedValue). fix.dimension == dimension) fixes

-- ---- ops at another place, the values of some dimensions being fixed

abbrev pub moved_axis : List FixedValue → ℕ → ℕ → Axis → Axis
moved_axis fixes base first (Fixed fix) = Fixed (base + fix)
moved_axis fixes base first (Free dimension) = axis_of fixes first dimension

abbrev pub moved_name : ℕ → Option FixedValue → Op
moved_name dimension (Some fix) = Push (Chars fix.value) TEXT
moved_name dimension None = Name dimension

abbrev pub moved : List FixedValue → ℕ → ℕ → ℕ → Op → Op
moved fixes start base first (Load object axes) = Load object (map (moved_axis fixes base first) axes)
moved fixes start base first (Name dimension) = moved_name dimension (fixed_in fixes dimension)
moved fixes start base first (Branch at_no at_na) = Branch (start + at_no) (start + at_na)
moved fixes start base first (Jump to) = Jump (start + to)
moved fixes start base first op = op

-- the ops of a formula's name
abbrev pub formula_ops : FormulaCode → Taken → ℕ → ℕ → List Op
formula_ops code taken start base = map (moved taken.fixes start base (base + length code.fixes)) code.ops

-- ---- operators

abbrev pub joint_op : Joint → Op
joint_op joint.Or = Or
joint_op joint.And = And
joint_op (joint.Compare order) = Compare order
joint_op joint.Add = Add
joint_op joint.Sub = Sub
joint_op joint.Mul = Mul
joint_op joint.Div = Div
joint_op joint.Min = Min
joint_op joint.Max = Max
joint_op joint.NaFill = NaFill

-- where the second branch of a choice begins, whose condition ends before a place, and where its NA stands
abbrev pub no_place : ℕ → List Op → ℕ
no_place at first = at + 1 + length first + 1

abbrev pub na_place : ℕ → List Op → List Op → ℕ
na_place at first second = no_place at first + length second + 1

-- a condition, which ends before a place, and two branches
abbrev pub choice_ops : Kind → ℕ → List Op → List Op → List Op → List Op
choice_ops kind at condition first second =
    condition ++ Branch (no_place at first) (na_place at first second)
    ∷ (first ++ Jump (na_place at first second + 1) ∷ (second ++ Jump (na_place at first second + 1) ∷ Push Na kind ∷ []))

abbrev pub emitted_one : Op → Kind → Emitted → Emitted
emitted_one op kind operand =
    record { fixes = operand.fixes; ops = λ wanted start base. operand.ops kind start base ++ op ∷ [] }

abbrev pub two_ops : Op → ℕ → ℕ → List Op → (ℕ → ℕ → List Op) → List Op
two_ops op start base left right = left ++ (right (start + length left) base ++ op ∷ [])

abbrev pub choice_from : Kind → ℕ → List Op → (ℕ → List Op) → (ℕ → List Op) → List Op
choice_from kind at condition first second =
    choice_ops kind at condition (first (at + 1)) (second (no_place at (first (at + 1))))

abbrev pub choice_of : Kind → Emitted → Emitted → Emitted → ℕ → ℕ → List Op
choice_of kind condition first second start base =
    choice_from kind (start + length (condition.ops BOOLEAN start base))
    (condition.ops BOOLEAN start base)
    (λ at. first.ops kind at (base + length condition.fixes))
    (λ at. second.ops kind at (base + length condition.fixes + length first.fixes))

-- over the code of the formulas, by their numbers
module _ (formula : ℕ → FormulaCode) where
  abbrev pub level_emitted : Tree-F Emitted → Emitted
  level_emitted (Tree-F.Literal cell) = record { fixes = []; ops = λ wanted start base. Push cell wanted ∷ [] }
  level_emitted (Tree-F.Local number kind) = record { fixes = []; ops = λ wanted start base. Local number ∷ [] }
  level_emitted (Tree-F.Dimension dimension) = record { fixes = []; ops = λ wanted start base. Name dimension ∷ [] }
  level_emitted (Tree-F.Variable kind taken) =
      record { fixes = fixes_of taken.fixes; ops = λ wanted start base. load taken base ∷ [] }
  level_emitted (Tree-F.Relation target taken) =
      record { fixes = fixes_of taken.fixes; ops = λ wanted start base. load taken base ∷ NameOf target ∷ [] }
  level_emitted (Tree-F.Formula kind taken) =
      record {
        fixes = (formula taken.object).fixes ++ fixes_of taken.fixes;
        ops = λ wanted start base. formula_ops (formula taken.object) taken start base;
      }
  level_emitted (Tree-F.Not operand) = emitted_one Not BOOLEAN operand
  level_emitted (Tree-F.Negative kind operand) = emitted_one Neg kind operand
  level_emitted (Tree-F.Abs kind operand) = emitted_one Abs kind operand
  level_emitted (Tree-F.AsNumber operand) = emitted_one (Convert NUMBER) INTEGER operand
  level_emitted (Tree-F.Joined j met left right) =
      record {
        fixes = left.fixes ++ right.fixes;
        ops = λ wanted start base.
            two_ops (joint_op j) start (base + length left.fixes)
            (left.ops (wanted_in met wanted) start base)
            (right.ops (wanted_in met wanted));
      }
  level_emitted (Tree-F.If met condition first second) =
      record {
        fixes = condition.fixes ++ (first.fixes ++ second.fixes);
        ops = λ wanted start base. choice_of (wanted_in met wanted) condition first second start base;
      }

  abbrev pub emitted : Tree → Emitted
  emitted = fold-Tree Emitted level_emitted

-- ---- formulas

-- the code of each formula, the last one first
abbrev pub formula_code : List FormulaTree → ℕ → FormulaCode
formula_code [] object = record { ops = Push Na INTEGER ∷ []; fixes = [] }
formula_code (formula ∷ earlier) object =
    if formula.object == object
    then record {
      ops = (emitted (formula_code earlier) formula.tree).ops formula.kind 0 0;
      fixes = (emitted (formula_code earlier) formula.tree).fixes;
    }
    else formula_code earlier object

-- the code of one more
abbrev pub tree_code : List FormulaTree → FormulaTree → FormulaCode
tree_code formulas formula = record {
  ops = (emitted (formula_code formulas) formula.tree).ops formula.kind 0 0;
  fixes = (emitted (formula_code formulas) formula.tree).fixes;
}
