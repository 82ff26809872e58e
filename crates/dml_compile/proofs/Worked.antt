-- Worked cases, each worked out by hand: values of expressions.
use Rattle.std.proofs.Common.{◌≡◌, ℕ, ◌*◌, List, [], ◌∷◌, Ok, Err, refl, pos, false}
use Rattle.std.specs.Prelude.{codes}
use Rattle.aw_cell.specs.declared.cell.Cell.{Cell}
use Rattle.aw_cell.specs.declared.cell.Cell.TheVariants.{Na, Num, Int, Text as Chars, Bool}
use Rattle.aw_cell.specs.declared.cell.Kind.TheVariants as kind
use Rattle.aw_cell.specs.declared.number.Arith.TheVariants.{DivideByZero}
use Rattle.dml_tree.specs.declared.expr.Joint.TheVariants as joint
use Rattle.dml_kinds.specs.declared.types.ValueType.TheVariants.{Of}
use Rattle.dml_kinds.specs.declared.tree.FixedValue.{FixedValue}
use Rattle.dml_kinds.specs.declared.tree.Tree.{Tree, roll-Tree}
use Rattle.dml_kinds.specs.declared.tree.Tree.TheOpen.{Tree-F}
use Rattle.dml_kinds.specs.declared.tree.Tree.TheFolds.{fold-roll-Tree}
use Rattle.dml_compile.specs.Values.{Seen, Place, FormulaTree, tree_value}

-- a variable 1 over dimension 0, whose cell at a slot is ten times the slot, and 'A' and 'B' with the slots 4 and 7
abbrev seen : Seen
seen = record {
  cell = λ object slots. elim slots as (λ _. Cell) [ [] ↦ Na | slot ∷ rest ↦ Int (pos (slot * 10)) ];
  name = λ dimension slot. Chars (codes "A");
  slot = λ dimension value. elim value as (λ _. ℕ) [ [] ↦ 0 | first ∷ rest ↦ first ];
  locals = Int (pos 9) ∷ [];
}

abbrev place : Place
place = (0, 3) ∷ []

abbrev literal : Cell → Tree
literal cell = roll-Tree (Tree-F.Literal cell)

abbrev variable : List FixedValue → Tree
variable fixes = roll-Tree (Tree-F.Variable kind.Int (record { object = 1; dimensions = 0 ∷ []; fixes = fixes }))

abbrev fixed : FixedValue
fixed = record { dimension = 0; value = codes "A" }

-- a formula 2, which is the variable and one more
abbrev formulas : List FormulaTree
formulas = record { object = 2; kind = kind.Int; tree = roll-Tree (Tree-F.Joined joint.Add (Of kind.Int) (variable []) (literal (Int (pos 1)))) } ∷ []

pub na_by_zero : tree_value [] seen place (roll-Tree (Tree-F.Joined joint.Div (Of kind.Num) (literal Na) (literal (Num (pos 0))))) ≡ Ok Na
na_by_zero = simp (fold-roll-Tree) refl

pub one_by_zero : tree_value [] seen place (roll-Tree (Tree-F.Joined joint.Div (Of kind.Num) (literal (Num (pos 10000))) (literal (Num (pos 0))))) ≡ Err DivideByZero
one_by_zero = simp (fold-roll-Tree) refl

pub cell_at_the_place : tree_value [] seen place (variable []) ≡ Ok (Int (pos 30))
cell_at_the_place = simp (fold-roll-Tree) refl

pub cell_at_a_fixed_value : tree_value [] seen place (variable (fixed ∷ [])) ≡ Ok (Int (pos 650))
cell_at_a_fixed_value = simp (fold-roll-Tree) refl

pub other_branch_refused : tree_value [] seen place (roll-Tree (Tree-F.If (Of kind.Num) (literal (Bool false)) (roll-Tree (Tree-F.Joined joint.Div (Of kind.Num) (literal (Num (pos 10000))) (literal (Num (pos 0))))) (literal (Num (pos 5))))) ≡ Ok (Num (pos 5))
other_branch_refused = simp (fold-roll-Tree) refl

pub formula_at_the_place : tree_value formulas seen place (roll-Tree (Tree-F.Formula kind.Int (record { object = 2; dimensions = 0 ∷ []; fixes = [] }))) ≡ Ok (Int (pos 31))
formula_at_the_place = simp (fold-roll-Tree) refl

pub formula_at_a_fixed_value : tree_value formulas seen place (roll-Tree (Tree-F.Formula kind.Int (record { object = 2; dimensions = 0 ∷ []; fixes = fixed ∷ [] }))) ≡ Ok (Int (pos 651))
formula_at_a_fixed_value = simp (fold-roll-Tree) refl
