use Rattle.std.proofs.Common.{subst}
use Rattle.dml_kinds.specs.Meanings.{names_in}
use Rattle.dml_kinds.specs.Checking as spec
use Rattle.dml_kinds.specs.inside.Parts.{formula_answer_with}
use Rattle.dml_kinds.proofs.DimensionsOfTrees.{formula_dimensions}
use Rattle.dml_kinds.proofs.checking.check_formula.Goals as goal

-- the list of locals is empty
pub returns-clause-answer : goal.returns-clause-answer
returns-clause-answer c =
    subst
    (λ locals. spec.IsAnswer c.formula_in.result (formula_answer_with (names_in c.args.catalogue.now c.args.known.now locals) (spec.kinds_of locals) c.args.expr.now))
    c.new-locals.ensures c.formula_in.ensures

pub returns-clause-dimensions : goal.returns-clause-dimensions
returns-clause-dimensions c =
    formula_dimensions (names_in c.args.catalogue.now c.args.known.now c.new-locals.result) c.args.expr.now (spec.kinds_of c.new-locals.result) c.formula_in.result c.formula_in.ensures
