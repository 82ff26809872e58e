use Rattle.std.proofs.Common.{◌≡◌, ◌∙◌, eqb, List, [], sym, ap, subst, reverse}
use Rattle.std.specs.List.{find}
use Rattle.dml_compile.specs.declared.formulas.Formula.{Formula}
use Rattle.dml_compile.specs.FormulasView.{FormulasView}
use Rattle.dml_compile.specs.inside.Emitted.{formula_code}
use Rattle.dml_compile.specs.inside.Library.{HasCode}
use Rattle.dml_compile.proofs.KeptCode.{code_found, code_missing}
use Rattle.dml_compile.proofs.formulas.Formulas.code.Goals as goal

pub returns-in-Some : goal.returns-in-Some
returns-in-Some c =
    subst (λ (v : FormulasView). HasCode c.in-Some.formula.now.code (formula_code v.trees c.args.object)) c.self.view_is
    (code_found (reverse c.self.inside.formulas.items) c.args.object c.in-Some.formula.now c.self.invariant.1
    (ap (λ (xs : List Formula). find (λ (f : Formula). eqb f.object c.args.object) (reverse xs)) (sym c.deref.ensures.value) ∙ sym c.in-Some.ensures))

pub returns-in-None : goal.returns-in-None
returns-in-None c =
    subst (λ (v : FormulasView). formula_code v.trees c.args.object ≡ formula_code [] 0) c.self.view_is
    (code_missing (reverse c.self.inside.formulas.items) c.args.object
    (ap (λ (xs : List Formula). find (λ (f : Formula). eqb f.object c.args.object) (reverse xs)) (sym c.deref.ensures.value) ∙ sym c.in-None.ensures))
