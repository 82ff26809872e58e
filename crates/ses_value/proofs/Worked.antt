-- Worked cases, each worked out by hand: what SHOW prints and what an assignment writes.
use Rattle.std.proofs.Common.{◌≡◌, ℕ, List, [], ◌∷◌, length, Option, Some, Ok, Err, refl, pos, true, false}
use Rattle.std.specs.Prelude.{codes}
use Rattle.aw_cell.specs.declared.cell.Cell.{Cell}
use Rattle.aw_cell.specs.declared.cell.Cell.TheVariants.{Na, Num, Int, Text as Chars, Bool, Slot}
use Rattle.aw_cell.specs.declared.cell.Kind.TheVariants as kind
use Rattle.aw_cell.specs.declared.comparison.Order.TheVariants.{Eq, Ne, Lt}
use Rattle.aw_cell.specs.declared.number.Arith.TheVariants.{Overflow, DivideByZero}
use Rattle.aw_cell.specs.Rounding.{rounded}
use Rattle.aw_schema.specs.declared.definition.DefKind.{DefKind}
use Rattle.aw_schema.specs.declared.definition.DefKind.TheVariants as definition
use Rattle.aw_var.specs.CellMap.{Cells}
use Rattle.aw_body.specs.declared.body.Body.{Body}
use Rattle.aw_body.specs.declared.body.Body.TheVariants.{Dim, Rel, Var}
use Rattle.mv_view.specs.ViewState.{ObjectView, ViewState}
use Rattle.dml_tree.specs.declared.expr.Joint.{Joint}
use Rattle.dml_tree.specs.declared.expr.Joint.TheVariants as joint
use Rattle.dml_kinds.specs.declared.types.ValueType.TheVariants.{Of}
use Rattle.dml_kinds.specs.declared.checking.TypedExpr.{TypedExpr}
use Rattle.dml_kinds.specs.declared.tree.FixedValue.{FixedValue}
use Rattle.dml_kinds.specs.declared.tree.Tree.{Tree, roll-Tree}
use Rattle.dml_kinds.specs.declared.tree.Tree.TheOpen.{Tree-F}
use Rattle.dml_kinds.specs.declared.tree.Tree.TheFolds.{fold-roll-Tree}
use Rattle.dml_loop.specs.declared.conversion.Target.TheVariants as target
use Rattle.dml_loop.specs.declared.fault.LoopFault.TheVariants.{Arith as Refused, NoValue, Empty}
use Rattle.ses_value.specs.declared.target.AssignedTo.{AssignedTo}
use Rattle.ses_value.specs.Evaluating.{shown_in, assigned_in}

-- ---- expressions and views

-- an expression over these dimensions
abbrev over : List ℕ → Tree → TypedExpr
over dimensions tree = record { kind = Of kind.Num; dimensions = dimensions; weight = 1; tree = tree; locals = [] }

abbrev literal : Cell → Tree
literal cell = roll-Tree (Tree-F.Literal cell)

abbrev joined : Joint → Tree → Tree → TypedExpr
joined one left right = over [] (roll-Tree (Tree-F.Joined one (Of kind.Num) left right))

abbrev seen_as : DefKind → Body → Option ObjectView
seen_as defined body = Some (record { kind = defined; number = 0; base = body; staged = body; private = body; owned = false; leaving = false })

abbrev integers : Cells → Option ObjectView
integers cells = seen_as (definition.Variable kind.Int []) (Var (record { slots = 0; kind = kind.Int; cells = cells }))

-- an INTEGER without dimensions that has no cell, and one that is 3
abbrev empty : ViewState
empty = record { who = 0; objects = integers [] ∷ [] }

abbrev three : ViewState
three = record { who = 0; objects = integers (([], Int (pos 3)) ∷ []) ∷ [] }

abbrev variable : List ℕ → List FixedValue → Tree
variable dimensions fixes = roll-Tree (Tree-F.Variable kind.Int (record { object = length dimensions; dimensions = dimensions; fixes = fixes }))

-- ---- arithmetic

pub sum_too_great : shown_in empty (joined joint.Add (literal (Num (pos 999999999999999999))) (literal (Num (pos 1)))) ≡ Err (Refused Overflow)
sum_too_great = simp (fold-roll-Tree) refl

pub product_rounded : shown_in empty (joined joint.Mul (literal (Num (pos 1))) (literal (Num (pos 5000)))) ≡ Ok (Num (pos 1))
unfolding rounded
product_rounded = simp (fold-roll-Tree) refl

pub quotient_rounded : shown_in empty (joined joint.Div (literal (Int (pos 2))) (literal (Int (pos 3)))) ≡ Ok (Num (pos 6667))
unfolding rounded
quotient_rounded = simp (fold-roll-Tree) refl

pub one_by_zero : shown_in empty (joined joint.Div (literal (Int (pos 1))) (literal (Int (pos 0)))) ≡ Err (Refused DivideByZero)
one_by_zero = simp (fold-roll-Tree) refl

pub na_by_zero : shown_in empty (joined joint.Div (literal Na) (literal (Int (pos 0)))) ≡ Ok Na
na_by_zero = simp (fold-roll-Tree) refl

-- ---- NA

pub na_is_na : shown_in empty (joined (joint.Compare Eq) (literal Na) (literal Na)) ≡ Ok (Bool true)
na_is_na = simp (fold-roll-Tree) refl

pub no_and_na : shown_in empty (joined joint.And (literal (Bool false)) (literal Na)) ≡ Ok (Bool false)
no_and_na = simp (fold-roll-Tree) refl

pub one_less_than_na : shown_in empty (joined (joint.Compare Lt) (literal (Int (pos 1))) (literal Na)) ≡ Ok Na
one_less_than_na = simp (fold-roll-Tree) refl

pub na_is_not_one : shown_in empty (joined (joint.Compare Ne) (literal Na) (literal (Int (pos 1)))) ≡ Ok (Bool true)
na_is_not_one = simp (fold-roll-Tree) refl

-- ---- a variable without dimensions

abbrev integer : AssignedTo
integer = record { target = target.Kind kind.Int; dimensions = []; fixes = [] }

pub no_cell : shown_in empty (over [] (variable [] [])) ≡ Ok Na
no_cell = simp (fold-roll-Tree) refl

pub a_cell : shown_in three (over [] (variable [] [])) ≡ Ok (Int (pos 3))
a_cell = simp (fold-roll-Tree) refl

pub one_cell_written : assigned_in empty integer (over [] (literal (Int (pos 3)))) ≡ Ok (([], Int (pos 3)) ∷ [])
one_cell_written = simp (fold-roll-Tree) refl

pub na_written : assigned_in three integer (over [] (literal Na)) ≡ Ok (([], Na) ∷ [])
na_written = simp (fold-roll-Tree) refl

-- ---- a dimension of two values, and an INTEGER over it

abbrev months : ViewState
months = record {
  who = 0;
  objects = seen_as definition.Dimension (Dim (record { entries = (2, codes "Jan") ∷ (1, codes "Feb") ∷ []; next = 3 }))
      ∷ seen_as (definition.Variable kind.Int (0 ∷ [])) (Var (record { slots = 1; kind = kind.Int; cells = (1 ∷ [], Int (pos 9)) ∷ [] }))
      ∷ seen_as (definition.Relation 0 0) (Rel (record { slots = 1; kind = kind.Slot; cells = (1 ∷ [], Slot 0) ∷ (2 ∷ [], Slot 1) ∷ [] }))
      ∷ seen_as definition.Dimension (Dim (record { entries = []; next = 7 }))
      ∷ [];
}

abbrev month : List ℕ → FixedValue
month name = record { dimension = 0; value = name }

abbrev related : List FixedValue → TypedExpr
related fixes = over [] (roll-Tree (Tree-F.Relation 0 (record { object = 2; dimensions = 0 ∷ []; fixes = fixes })))

pub at_the_first_value : shown_in months (over (0 ∷ []) (variable (0 ∷ []) [])) ≡ Ok Na
at_the_first_value = simp (fold-roll-Tree) refl

pub at_a_fixed_value : shown_in months (over [] (variable (0 ∷ []) (month (codes "Feb") ∷ []))) ≡ Ok (Int (pos 9))
at_a_fixed_value = simp (fold-roll-Tree) refl

pub no_such_value : shown_in months (over [] (variable (0 ∷ []) (month (codes "May") ∷ []))) ≡ Err (NoValue (codes "May"))
no_such_value = simp (fold-roll-Tree) refl

pub no_value_at_all : shown_in months (over (3 ∷ []) (roll-Tree (Tree-F.Dimension 3))) ≡ Err (Empty 3)
no_value_at_all = simp (fold-roll-Tree) refl

-- a value of the relation that was removed reads NA, the other one has its name
pub removed_value : shown_in months (related (month (codes "Feb") ∷ [])) ≡ Ok Na
removed_value = simp (fold-roll-Tree) refl

pub kept_value : shown_in months (related (month (codes "Jan") ∷ [])) ≡ Ok (Chars (codes "Feb"))
kept_value = simp (fold-roll-Tree) refl

-- each value of the dimension in its order, or the one that is fixed
pub in_loop_order : assigned_in months (record { target = target.Kind kind.Int; dimensions = 0 ∷ []; fixes = [] }) (over (0 ∷ []) (roll-Tree (Tree-F.Joined joint.NaFill (Of kind.Int) (variable (0 ∷ []) []) (literal (Int (pos 4)))))) ≡ Ok ((2 ∷ [], Int (pos 4)) ∷ (1 ∷ [], Int (pos 9)) ∷ [])
in_loop_order = simp (fold-roll-Tree) refl

pub at_one_value : assigned_in months (record { target = target.Kind kind.Int; dimensions = 0 ∷ []; fixes = record { dimension = 0; value = codes "Feb" } ∷ [] }) (over [] (literal (Num (pos 25000)))) ≡ Ok ((1 ∷ [], Int (pos 3)) ∷ [])
unfolding rounded
at_one_value = simp (fold-roll-Tree) refl

pub to_a_value : assigned_in months (record { target = target.Relation 0; dimensions = 0 ∷ []; fixes = record { dimension = 0; value = codes "Feb" } ∷ [] }) (over [] (literal (Chars (codes "Jan")))) ≡ Ok ((1 ∷ [], Slot 2) ∷ [])
to_a_value = simp (fold-roll-Tree) refl
