use Rattle.dml_kinds.specs.Meanings.{names_in}
use Rattle.dml_kinds.proofs.DimensionsOfTrees.{expression_dimensions}
use Rattle.dml_kinds.proofs.checking.check_expr.Goals as goal

pub returns-clause-dimensions : goal.returns-clause-dimensions
returns-clause-dimensions c =
    expression_dimensions (names_in c.args.catalogue.now c.args.known.now c.args.locals.now) c.args.locals.now c.args.expr.now c.expression_in.result c.expression_in.ensures
