-- How formulas are kept with their code.
use Rattle.std.specs.Prelude.{◌≡◌, List, [], ◌∷◌, map, MatchOption, Option}
use Rattle.dml_exec.specs.declared.code.Code.{Code}
use Rattle.dml_compile.specs.Values.{FormulaTree}
use Rattle.dml_compile.specs.FormulasView.{formula_tree}
use Rattle.dml_compile.specs.declared.formulas.Formula.{Formula}
use Rattle.dml_compile.specs.inside.Emitted.{FormulaCode, formula_code, tree_code}

-- the last one first
abbrev pub trees_of : List Formula → List FormulaTree
trees_of formulas = map (λ (formula : Formula). formula_tree formula.object formula.expression) formulas

-- code has these ops, and fixes these values
pub record HasCode (code : Code) (of : FormulaCode) : Type 0 where
  pub ops : code.ops ≡ of.ops
  pub fixes : code.fixes ≡ of.fixes

-- each formula has the code of its expression, over those before it
abbrev pub AreCompiled : List Formula → Type 0
AreCompiled [] = Unit {0}
AreCompiled (formula ∷ earlier) =
    HasCode formula.code (tree_code (trees_of earlier) (formula_tree formula.object formula.expression)) × AreCompiled earlier

-- the code of a formula, or none, where it is unknown
abbrev pub IsCodeOf : FormulaCode → Option Code → Type 0
IsCodeOf of code = MatchOption code (of ≡ formula_code [] 0) (λ code. HasCode code of)
