-- The formulas that an expression names, each with the dimensions that its name has.
use Rattle.std.specs.Prelude.{ℕ, ◌≡◌, ◌==◌, List, [], ◌∷◌, ◌++◌, All, if◌then◌else◌}
use Rattle.dml_kinds.specs.declared.tree.Taken.{Taken}
use Rattle.dml_kinds.specs.declared.tree.Tree.{Tree, fold-Tree}
use Rattle.dml_kinds.specs.declared.tree.Tree.TheOpen.{Tree-F}
use Rattle.dml_kinds.specs.FreeDimensions.{first_appearances}
use Rattle.dml_kinds.specs.TreeDimensions.{tree_dimensions}
use Rattle.dml_compile.specs.Values.{FormulaTree}

-- what one level of a tree names
abbrev pub level_formulas : Tree-F (List Taken) → List Taken
level_formulas (Tree-F.Formula kind taken) = taken ∷ []
level_formulas (Tree-F.Not operand) = operand
level_formulas (Tree-F.Negative kind operand) = operand
level_formulas (Tree-F.Abs kind operand) = operand
level_formulas (Tree-F.AsNumber operand) = operand
level_formulas (Tree-F.Joined j met left right) = left ++ right
level_formulas (Tree-F.If met condition first second) = condition ++ (first ++ second)
level_formulas _ = []

-- the names of formulas, from left to right
abbrev pub named_formulas : Tree → List Taken
named_formulas = fold-Tree (List Taken) level_formulas

-- the dimensions of a formula's expression
abbrev pub formula_dimensions : List FormulaTree → ℕ → List ℕ
formula_dimensions [] object = []
formula_dimensions (formula ∷ earlier) object =
    if formula.object == object then tree_dimensions formula.tree else formula_dimensions earlier object

-- each formula's name has the dimensions over which its expression lies
abbrev pub AreAsNamed : List FormulaTree → Tree → Type 0
AreAsNamed formulas tree =
    All (λ (taken : Taken). taken.dimensions ≡ first_appearances (formula_dimensions formulas taken.object)) (named_formulas tree)

-- so have the names in the formulas themselves, which name those before them
abbrev pub AllAreAsNamed : List FormulaTree → Type 0
AllAreAsNamed [] = Unit {0}
AllAreAsNamed (formula ∷ earlier) = AreAsNamed earlier formula.tree × AllAreAsNamed earlier
