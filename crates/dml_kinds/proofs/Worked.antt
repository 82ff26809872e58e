-- Worked cases, each worked out by hand: what is answered of small expressions.
use Rattle.std.specs.Prelude.{ℕ, pos, ◌≡◌, true, List, [], ◌∷◌, Option, Some, None, Ok, codes, if◌then◌else◌}
use Rattle.std.proofs.Common.{refl}
use Rattle.aw_cell.specs.Names.{same_word}
use Rattle.aw_cell.specs.declared.cell.Cell.{Cell}
use Rattle.aw_cell.specs.declared.cell.Cell.TheVariants as cell
use Rattle.aw_cell.specs.declared.cell.Kind.TheVariants as kind
use Rattle.aw_cell.specs.declared.comparison.Order.{Order}
use Rattle.aw_cell.specs.declared.comparison.Order.TheVariants as order
use Rattle.dml_tree.specs.declared.expr.Fix.{Fix}
use Rattle.dml_tree.specs.declared.expr.Expr.{Expr}
use Rattle.dml_tree.specs.declared.expr.Expr.TheFolds.{fold-roll-Expr}
use Rattle.dml_tree.specs.declared.expr.Expr.TheOpen.{Expr-F}
use Rattle.dml_tree.specs.declared.expr.Expr.TheViews.{roll-Expr}
use Rattle.dml_tree.specs.declared.expr.Joint.{Joint}
use Rattle.dml_tree.specs.declared.expr.Joint.TheVariants as joint
use Rattle.dml_kinds.specs.declared.fault.TypeFault.TheVariants.{Unknown, WrongKind, Repeat, Mismatch, Dimensions, TooMany}
use Rattle.dml_kinds.specs.declared.meaning.Known.{Known}
use Rattle.dml_kinds.specs.declared.meaning.Meaning.{Meaning}
use Rattle.dml_kinds.specs.declared.meaning.Meaning.TheVariants.{Dimension, Variable, Formula, Program}
use Rattle.dml_kinds.specs.declared.types.ValueType.TheVariants.{Na, Of}
use Rattle.dml_kinds.specs.declared.tree.FixedValue.{FixedValue}
use Rattle.dml_kinds.specs.declared.tree.Taken.{Taken}
use Rattle.dml_kinds.specs.declared.tree.Tree.{Tree}
use Rattle.dml_kinds.specs.declared.tree.Tree.TheVariants as tree
use Rattle.dml_kinds.specs.declared.tree.Tree.TheViews.{outs-Literal, outs-Dimension, outs-Variable, outs-Formula, outs-Joined}
use Rattle.dml_kinds.specs.Meanings.{Names}
use Rattle.dml_kinds.specs.Types.{type_of}
use Rattle.dml_kinds.specs.FreeDimensions.{free_dimensions}
use Rattle.dml_kinds.specs.Trees.{tree_of}
use Rattle.dml_kinds.specs.Checking.{refusal, measure_answer, formula_refusal}

abbrev known_as : List ℕ → Meaning → Option Known
known_as name meaning = Some (record { name = name; meaning = meaning })

-- dimensions d and e, INTEGER v<d>, NUMBER x<e d>, y over six other dimensions, a program p, a formula f of NUMBER over e that
-- weighs 7, and an INTEGER h that weighs 4,094
abbrev names : Names
names name =
    if same_word name (codes "d") then known_as (codes "d") (Dimension 0)
    else if same_word name (codes "e") then known_as (codes "e") (Dimension 1)
    else if same_word name (codes "v") then known_as (codes "v") (Variable 2 kind.Int (0 ∷ []))
    else if same_word name (codes "x") then known_as (codes "x") (Variable 3 kind.Num (1 ∷ 0 ∷ []))
    else if same_word name (codes "y") then known_as (codes "y") (Variable 4 kind.Int (10 ∷ 11 ∷ 12 ∷ 13 ∷ 14 ∷ 15 ∷ []))
    else if same_word name (codes "p") then known_as (codes "p") (Program 5)
    else if same_word name (codes "f") then known_as (codes "f") (Formula 6 kind.Num (1 ∷ []) 7)
    else if same_word name (codes "h") then known_as (codes "h") (Formula 7 kind.Int [] 4094)
    else None

abbrev fix : List ℕ → Fix
fix dimension = record { dimension = dimension; value = codes "A" }

abbrev named : List ℕ → List Fix → Expr
named name fixes = roll-Expr (Expr-F.Object (record { name = name; fixes = fixes }))

abbrev object : List ℕ → Expr
object name = named name []

abbrev one : Expr
one = roll-Expr (Expr-F.Integer (pos 1))

abbrev half : Expr
half = roll-Expr (Expr-F.Number (pos 5000))

abbrev text : Expr
text = roll-Expr (Expr-F.Text (codes "A"))

abbrev yes : Expr
yes = roll-Expr (Expr-F.Truth true)

abbrev na : Expr
na = roll-Expr Expr-F.Na

abbrev grouped : Expr → Expr
grouped inner = roll-Expr (Expr-F.Grouped inner)

abbrev negative : Expr → Expr
negative operand = roll-Expr (Expr-F.Negative operand)

abbrev negation : Expr → Expr
negation operand = roll-Expr (Expr-F.Not operand)

abbrev joined : Joint → Expr → Expr → Expr
joined j left right = roll-Expr (Expr-F.Joined j left right)

abbrev compared : Order → Expr → Expr → Expr
compared o left right = joined (joint.Compare o) left right

abbrev choice : Expr → Expr → Expr → Expr
choice condition first second = roll-Expr (Expr-F.If condition first second)

-- ---- types

-- 1 + 0.5
pub wider_of_two : type_of names (joined joint.Add one half) ≡ Some (Of kind.Num)
wider_of_two = simp (fold-roll-Expr) refl

-- 1 + 'A'
pub text_is_no_number : type_of names (joined joint.Add one text) ≡ None
text_is_no_number = simp (fold-roll-Expr) refl

-- NA + NA
pub sum_of_na : type_of names (joined joint.Add na na) ≡ Some (Of kind.Int)
sum_of_na = simp (fold-roll-Expr) refl

-- 1 / 1
pub quotient : type_of names (joined joint.Div one one) ≡ Some (Of kind.Num)
quotient = simp (fold-roll-Expr) refl

-- NAFILL(NA, NA)
pub filled_with_na : type_of names (joined joint.NaFill na na) ≡ Some Na
filled_with_na = simp (fold-roll-Expr) refl

-- MAX('A', 'A')
pub greatest_text : type_of names (joined joint.Max text text) ≡ None
greatest_text = simp (fold-roll-Expr) refl

-- - NA
pub minus_na : type_of names (negative na) ≡ Some (Of kind.Int)
minus_na = simp (fold-roll-Expr) refl

-- - YES
pub minus_yes : type_of names (negative yes) ≡ None
minus_yes = simp (fold-roll-Expr) refl

-- d EQ 'A'
pub name_of_a_value : type_of names (compared order.Eq (object (codes "d")) text) ≡ Some (Of kind.Bool)
name_of_a_value = simp (fold-roll-Expr) refl

-- YES EQ NA
pub truths_compared : type_of names (compared order.Eq yes na) ≡ Some (Of kind.Bool)
truths_compared = simp (fold-roll-Expr) refl

-- YES LT NA
pub truths_have_no_order : type_of names (compared order.Lt yes na) ≡ None
truths_have_no_order = simp (fold-roll-Expr) refl

-- 'A' EQ 1
pub text_with_number : type_of names (compared order.Eq text one) ≡ None
text_with_number = simp (fold-roll-Expr) refl

-- NOT NA AND YES
pub na_is_a_truth : type_of names (joined joint.And (negation na) yes) ≡ Some (Of kind.Bool)
na_is_a_truth = simp (fold-roll-Expr) refl

-- NOT 1
pub no_truth : type_of names (negation one) ≡ None
no_truth = simp (fold-roll-Expr) refl

-- IF NA THEN 1 ELSE 0.5
pub branches_of_numbers : type_of names (choice na one half) ≡ Some (Of kind.Num)
branches_of_numbers = simp (fold-roll-Expr) refl

-- IF YES THEN NA ELSE 'A'
pub branch_of_na : type_of names (choice yes na text) ≡ Some (Of kind.Text)
branch_of_na = simp (fold-roll-Expr) refl

-- IF YES THEN 1 ELSE 'A'
pub branches_differ : type_of names (choice yes one text) ≡ None
branches_differ = simp (fold-roll-Expr) refl

-- IF 1 THEN 1 ELSE 1
pub condition_of_a_number : type_of names (choice one one one) ≡ None
condition_of_a_number = simp (fold-roll-Expr) refl

-- ---- free dimensions

-- v + x
pub in_order_of_appearance : free_dimensions names (joined joint.Add (object (codes "v")) (object (codes "x"))) ≡ 0 ∷ 1 ∷ []
in_order_of_appearance = simp (fold-roll-Expr) refl

-- x + (v)
pub each_dimension_once : free_dimensions names (joined joint.Add (object (codes "x")) (grouped (object (codes "v")))) ≡ 1 ∷ 0 ∷ []
each_dimension_once = simp (fold-roll-Expr) refl

-- x(E 'A')
pub fixed_is_not_free : free_dimensions names (named (codes "x") (fix (codes "E") ∷ [])) ≡ 0 ∷ []
fixed_is_not_free = simp (fold-roll-Expr) refl

-- ---- what is answered

-- F * 1
pub formula_counts_its_weight : measure_answer names (joined joint.Mul (object (codes "F")) one) ≡ Ok (record { kind = Of kind.Num; dimensions = 1 ∷ []; weight = 9 })
formula_counts_its_weight = simp (fold-roll-Expr) refl

-- p + zz
pub unknown_comes_first : refusal names (joined joint.Add (object (codes "p")) (object (codes "zz"))) ≡ Some (Unknown (codes "zz"))
unknown_comes_first = simp (fold-roll-Expr) refl

-- v(d 'A', d 'A') + P
pub wrong_kind_then : refusal names (joined joint.Add (named (codes "v") (fix (codes "d") ∷ fix (codes "d") ∷ [])) (object (codes "P"))) ≡ Some (WrongKind (codes "p"))
wrong_kind_then = simp (fold-roll-Expr) refl

-- 'A' + v(d 'A', D 'A')
pub repeat_then : refusal names (joined joint.Add text (named (codes "v") (fix (codes "d") ∷ fix (codes "D") ∷ []))) ≡ Some (Repeat (codes "d"))
repeat_then = simp (fold-roll-Expr) refl

-- v(e 'A') + 'A'
pub types_then : refusal names (joined joint.Add (named (codes "v") (fix (codes "e") ∷ [])) text) ≡ Some Mismatch
types_then = simp (fold-roll-Expr) refl

-- v(e 'A') + - h
pub dimensions_then : refusal names (joined joint.Add (named (codes "v") (fix (codes "e") ∷ [])) (negative (object (codes "h")))) ≡ Some Dimensions
dimensions_then = simp (fold-roll-Expr) refl

-- - h + 1, and h + 1
pub weight_at_last : refusal names (joined joint.Add (negative (object (codes "h"))) one) ≡ Some TooMany
weight_at_last = simp (fold-roll-Expr) refl

pub greatest_weight : refusal names (joined joint.Add (object (codes "h")) one) ≡ None
greatest_weight = simp (fold-roll-Expr) refl

-- y and y + v
pub six_dimensions : refusal names (object (codes "y")) ≡ None
six_dimensions = simp (fold-roll-Expr) refl

pub seven_dimensions : refusal names (joined joint.Add (object (codes "y")) (object (codes "v"))) ≡ Some Dimensions
seven_dimensions = simp (fold-roll-Expr) refl

-- NA alone is no formula
pub na_alone : measure_answer names na ≡ Ok (record { kind = Na; dimensions = []; weight = 1 })
na_alone = simp (fold-roll-Expr) refl

pub formula_of_na : formula_refusal names na ≡ Some Mismatch
formula_of_na = simp (fold-roll-Expr) refl

-- ---- trees

abbrev literal : Cell → Tree
literal c = tree.Literal c

abbrev fixed : ℕ → FixedValue
fixed d = record { dimension = d; value = codes "A" }

abbrev taken_at : ℕ → List ℕ → List FixedValue → Taken
taken_at number dimensions fixes = record { object = number; dimensions = dimensions; fixes = fixes }

-- x(E 'A')
pub name_at_a_value : tree_of names (named (codes "x") (fix (codes "E") ∷ [])) ≡ tree.Variable kind.Num (taken_at 3 (1 ∷ 0 ∷ []) (fixed 1 ∷ []))
name_at_a_value = simp (fold-roll-Expr) refl

-- v + 0.5
pub integer_meets_number : tree_of names (joined joint.Add (object (codes "v")) half) ≡ tree.Joined joint.Add (Of kind.Num) (tree.AsNumber (tree.Variable kind.Int (taken_at 2 (0 ∷ []) []))) (literal (cell.Num (pos 5000)))
integer_meets_number = simp (fold-roll-Expr, outs-Variable, outs-Literal) refl

-- (NA) + 1
pub na_meets_integer : tree_of names (joined joint.Add (grouped na) one) ≡ tree.Joined joint.Add (Of kind.Int) (literal cell.Na) (literal (cell.Int (pos 1)))
na_meets_integer = simp (fold-roll-Expr, outs-Literal) refl

-- IF d EQ 'A' THEN f ELSE NA
pub choice_of_a_formula : tree_of names (choice (compared order.Eq (object (codes "d")) text) (object (codes "f")) na) ≡ tree.If (Of kind.Num) (tree.Joined (joint.Compare order.Eq) (Of kind.Text) (tree.Dimension 0) (literal (cell.Text (codes "A")))) (tree.Formula kind.Num (taken_at 6 (1 ∷ []) [])) (literal cell.Na)
choice_of_a_formula = simp (fold-roll-Expr, outs-Dimension, outs-Literal, outs-Formula, outs-Joined) refl
