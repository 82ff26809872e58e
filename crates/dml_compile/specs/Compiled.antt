-- What compiled code is: it has the value of its expression.
use Rattle.std.specs.Prelude.{ℕ, ◌≡◌, List, [], ◌∷◌, ◌++◌, ◌==◌, map, All, Some, if◌then◌else◌}
use Rattle.aw_cell.specs.declared.cell.Cell.TheVariants.{Text as Chars}
use Rattle.dml_kinds.specs.declared.tree.FixedValue.{FixedValue}
use Rattle.dml_kinds.specs.declared.tree.Tree.{Tree, fold-Tree}
use Rattle.dml_kinds.specs.declared.tree.Tree.TheOpen.{Tree-F}
use Rattle.dml_kinds.specs.FreeDimensions.{first_appearances}
use Rattle.dml_kinds.specs.TreeDimensions.{tree_dimensions}
use Rattle.dml_exec.specs.declared.code.Code.{Code}
use Rattle.dml_exec.specs.declared.kinds.Fix.{Fix}
use Rattle.dml_exec.specs.declared.kinds.Kinds.{Kinds}
use Rattle.dml_exec.specs.Meaning.{CodeInputs, meaning}
use Rattle.dml_exec.specs.CodeRuns.{Accepts, Fits}
use Rattle.dml_compile.specs.NamedFormulas.{AreAsNamed, AllAreAsNamed}
use Rattle.dml_compile.specs.Values.{Seen, FormulaTree, tree_value}

-- ---- the fixed values of an expression, formulas looked through, in order of appearance

abbrev pub fix_of : FixedValue → Fix
fix_of fix = record { dimension = fix.dimension; value = fix.value }

abbrev pub fixes_of : List FixedValue → List Fix
fixes_of fixes = map fix_of fixes

-- over the fixed values of the formulas, by their numbers
module _ (formula : ℕ → List Fix) where
  -- those inside a formula come before those of its name
  abbrev pub level_fixes : Tree-F (List Fix) → List Fix
  level_fixes (Tree-F.Variable kind taken) = fixes_of taken.fixes
  level_fixes (Tree-F.Relation target taken) = fixes_of taken.fixes
  level_fixes (Tree-F.Formula kind taken) = formula taken.object ++ fixes_of taken.fixes
  level_fixes (Tree-F.Not operand) = operand
  level_fixes (Tree-F.Negative kind operand) = operand
  level_fixes (Tree-F.Abs kind operand) = operand
  level_fixes (Tree-F.AsNumber operand) = operand
  level_fixes (Tree-F.Joined j met left right) = left ++ right
  level_fixes (Tree-F.If met condition first second) = condition ++ (first ++ second)
  level_fixes _ = []

  abbrev pub fixes_in : Tree → List Fix
  fixes_in = fold-Tree (List Fix) level_fixes

abbrev pub formula_fixes : List FormulaTree → ℕ → List Fix
formula_fixes [] object = []
formula_fixes (formula ∷ earlier) object =
    if formula.object == object then fixes_in (formula_fixes earlier) formula.tree else formula_fixes earlier object

abbrev pub tree_fixes : List FormulaTree → Tree → List Fix
tree_fixes formulas tree = fixes_in (formula_fixes formulas) tree

-- ---- a run of code beside the value of its expression

-- what an expression sees that code reads, where this is the slot of each value
abbrev pub seen_by : CodeInputs → (ℕ → List ℕ → ℕ) → Seen
seen_by r slot = record { cell = r.cell; name = r.name; slot = slot; locals = r.locals }

-- the slots of the fixed values were looked up, and have these names
pub record LooksUp (r : CodeInputs) (slot : ℕ → List ℕ → ℕ) (fixes : List Fix) : Type 0 where
  pub slots : r.fixed ≡ map (λ (fix : Fix). slot fix.dimension fix.value) fixes
  pub names : All (λ (fix : Fix). r.name fix.dimension (slot fix.dimension fix.value) ≡ Chars fix.value) fixes

-- Code of a tree over formulas: it is accepted over some kinds, fixes the values of the tree, and lies over its dimensions,
-- in order of first appearance, where the names of formulas have the dimensions of these. On all that fits it gives the value
-- of the tree, at every place.
pub record Compiles (formulas : List FormulaTree) (kinds : Kinds) (tree : Tree) (code : Code) : Type 0 where
  pub accepted : Accepts kinds code
  pub fixes : code.fixes ≡ tree_fixes formulas tree
  pub free : AllAreAsNamed formulas → AreAsNamed formulas tree → code.free ≡ first_appearances (tree_dimensions tree)
  pub value : (r : CodeInputs) (slot : ℕ → List ℕ → ℕ) → LooksUp r slot code.fixes → Fits kinds code r → meaning r code.ops ≡ Some (tree_value formulas (seen_by r slot) r.place tree)
