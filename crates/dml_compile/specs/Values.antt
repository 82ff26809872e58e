-- The value of an expression: by recursion on its tree, at a slot for each free dimension. Operands are evaluated from left
-- to right, and the first refusal decides.
use Rattle.std.specs.Prelude.{ℕ, ◌==◌, true, false, List, [], ◌∷◌, ◌++◌, map, Result, Ok, Err, slice_get, unwrap_or, if◌then◌else◌}
use Rattle.aw_cell.specs.declared.cell.Cell.{Cell}
use Rattle.aw_cell.specs.declared.cell.Cell.TheVariants.{Na, Slot, Bool}
use Rattle.aw_cell.specs.declared.cell.Kind.{Kind}
use Rattle.aw_cell.specs.declared.cell.Kind.TheVariants.{Num as NUMBER}
use Rattle.aw_cell.specs.declared.number.Arith.{Arith}
use Rattle.aw_cell.specs.CellArithmetic.{converted, cell_sum, cell_difference, cell_product, cell_quotient, cell_negation, cell_size, cell_least, cell_greatest}
use Rattle.aw_cell.specs.Comparison.{compared}
use Rattle.aw_cell.specs.Logic.{both, either, negated, filled}
use Rattle.dml_tree.specs.declared.expr.Joint.{Joint}
use Rattle.dml_tree.specs.declared.expr.Joint.TheVariants as joint
use Rattle.dml_kinds.specs.declared.tree.FixedValue.{FixedValue}
use Rattle.dml_kinds.specs.declared.tree.Taken.{Taken}
use Rattle.dml_kinds.specs.declared.tree.Tree.{Tree, fold-Tree}
use Rattle.dml_kinds.specs.declared.tree.Tree.TheOpen.{Tree-F}
use Rattle.dml_exec.specs.Meaning.{slot_at}

-- a cell, or the refusal of its arithmetic
abbrev pub Value : Type 0
Value = Result Cell Arith

-- what an expression reads: the cell of an object at slots, the name of a slot in a dimension, the slot of a value in a
-- dimension, and the locals
pub record Seen : Type 0 where
  pub cell : ℕ → List ℕ → Cell
  pub name : ℕ → ℕ → Cell
  pub slot : ℕ → List ℕ → ℕ
  pub locals : List Cell

-- slots of dimensions; the first one of a dimension counts
abbrev pub Place : Type 0
Place = List (ℕ × ℕ)

abbrev pub slot_in : Place → ℕ → ℕ
slot_in place dimension = unwrap_or (slot_at place dimension) 0

-- ---- operators

abbrev pub joint_value : Joint → Cell → Cell → Value
joint_value joint.Or a b = Ok (either a b)
joint_value joint.And a b = Ok (both a b)
joint_value (joint.Compare order) a b = Ok (compared order a b)
joint_value joint.Add a b = cell_sum a b
joint_value joint.Sub a b = cell_difference a b
joint_value joint.Mul a b = cell_product a b
joint_value joint.Div a b = cell_quotient a b
joint_value joint.Min a b = cell_least a b
joint_value joint.Max a b = cell_greatest a b
joint_value joint.NaFill a b = Ok (filled a b)

abbrev pub on_one : (Cell → Value) → Value → Value
on_one f (Err why) = Err why
on_one f (Ok a) = f a

abbrev pub on_two : (Cell → Cell → Value) → Value → Value → Value
on_two f (Err why) right = Err why
on_two f (Ok a) (Err why) = Err why
on_two f (Ok a) (Ok b) = f a b

-- a condition chooses one of two branches, and NA none
abbrev pub chosen_by : Cell → Value → Value → Value
chosen_by (Bool true) first second = first
chosen_by (Bool false) first second = second
chosen_by _ first second = Ok Na

abbrev pub chosen : Value → Value → Value → Value
chosen (Err why) first second = Err why
chosen (Ok condition) first second = chosen_by condition first second

-- the name of the value to which a relation goes, and NA of NA
abbrev pub name_of : (ℕ → Cell) → Cell → Cell
name_of name (Slot slot) = name slot
name_of name _ = Na

-- ---- names

module _ (seen : Seen) where
  -- a place where these values are fixed
  abbrev pub at_fixes : List FixedValue → Place → Place
  at_fixes fixes place =
      map (λ (fix : FixedValue). (fix.dimension, seen.slot fix.dimension fix.value)) fixes ++ place

  module _ (place : Place) where
    -- the cell of an object at a place and its fixed values
    abbrev pub cell_taken : Taken → Cell
    cell_taken taken = seen.cell taken.object (map (slot_in (at_fixes taken.fixes place)) taken.dimensions)

    -- over what the formulas mean, by their numbers
    module _ (formula : ℕ → Place → Value) where
      abbrev pub level_value : Tree-F Value → Value
      level_value (Tree-F.Literal cell) = Ok cell
      level_value (Tree-F.Local number kind) = Ok (unwrap_or (slice_get seen.locals number) Na)
      level_value (Tree-F.Dimension dimension) = Ok (seen.name dimension (slot_in place dimension))
      level_value (Tree-F.Variable kind taken) = Ok (cell_taken taken)
      level_value (Tree-F.Relation target taken) = Ok (name_of (seen.name target) (cell_taken taken))
      level_value (Tree-F.Formula kind taken) = formula taken.object (at_fixes taken.fixes place)
      level_value (Tree-F.Not operand) = on_one (λ a. Ok (negated a)) operand
      level_value (Tree-F.Negative kind operand) = on_one cell_negation operand
      level_value (Tree-F.Abs kind operand) = on_one cell_size operand
      level_value (Tree-F.AsNumber operand) = on_one (converted NUMBER) operand
      level_value (Tree-F.Joined j met left right) = on_two (joint_value j) left right
      level_value (Tree-F.If type condition first second) = chosen condition first second

      -- the value of a tree
      abbrev pub value : Tree → Value
      value = fold-Tree Value level_value

-- ---- formulas

-- the expression of a formula, with its kind
pub record FormulaTree : Type 0 where
  pub object : ℕ
  pub kind : Kind
  pub tree : Tree

-- A formula's name means its expression, which names only formulas that were there before. The last one comes first.
abbrev pub formula_value : Seen → List FormulaTree → ℕ → Place → Value
formula_value seen [] object place = Ok Na
formula_value seen (formula ∷ earlier) object place =
    if formula.object == object
    then value seen place (formula_value seen earlier) formula.tree
    else formula_value seen earlier object place

-- the value of a tree over these formulas
abbrev pub tree_value : List FormulaTree → Seen → Place → Tree → Value
tree_value formulas seen place tree = value seen place (formula_value seen formulas) tree
