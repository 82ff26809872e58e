-- The code of a formula is found.
use Rattle.std.proofs.Common.{◌≡◌, ℕ, Bool as Truth, true, false, cond, eqb, List, [], ◌∷◌, Some, None, refl, subst}
use Rattle.std.specs.List.{find}
use Rattle.dml_compile.specs.declared.formulas.Formula.{Formula}
use Rattle.dml_compile.specs.FormulasView.{formula_tree}
use Rattle.dml_compile.specs.inside.Emitted.{formula_code, tree_code}
use Rattle.dml_compile.specs.inside.Library.{trees_of, HasCode, AreCompiled}

abbrev has_number : ℕ → Formula → Truth
has_number object formula = eqb formula.object object

pub code_found : (formulas : List Formula) (object : ℕ) (formula : Formula) → AreCompiled formulas → find (λ (f : Formula). eqb f.object object) formulas ≡ Some formula → HasCode formula.code (formula_code (trees_of formulas) object)
code_found [] object formula are is = absurd (cc)
code_found (first ∷ formulas) object formula are is =
    by (eqb first.object object) (λ later. code_found formulas object formula are.1 later) is
  where
    by : (t : Truth) → (find (λ (f : Formula). eqb f.object object) formulas ≡ Some formula → HasCode formula.code (formula_code (trees_of formulas) object)) → cond t (Some first) (find (λ (f : Formula). eqb f.object object) formulas) ≡ Some formula → HasCode formula.code (cond t (tree_code (trees_of formulas) (formula_tree first.object first.expression)) (formula_code (trees_of formulas) object))
    by true later e = let same : first ≡ formula = cc in subst (λ (f : Formula). HasCode f.code (tree_code (trees_of formulas) (formula_tree first.object first.expression))) same are.0
    by false later e = later e

pub code_missing : (formulas : List Formula) (object : ℕ) → find (λ (f : Formula). eqb f.object object) formulas ≡ None → formula_code (trees_of formulas) object ≡ formula_code [] 0
code_missing [] object is = refl
code_missing (first ∷ formulas) object is =
    by (eqb first.object object) (λ later. code_missing formulas object later) is
  where
    by : (t : Truth) → (find (λ (f : Formula). eqb f.object object) formulas ≡ None → formula_code (trees_of formulas) object ≡ formula_code [] 0) → cond t (Some first) (find (λ (f : Formula). eqb f.object object) formulas) ≡ None → cond t (tree_code (trees_of formulas) (formula_tree first.object first.expression)) (formula_code (trees_of formulas) object) ≡ formula_code [] 0
    by true later e = absurd (cc)
    by false later e = later e
