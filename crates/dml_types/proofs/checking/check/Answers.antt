use Rattle.dml_kinds.specs.Meanings.{names_in}
use Rattle.dml_types.proofs.DimensionsOfStatements.{statement_dimensions}
use Rattle.dml_types.proofs.checking.check.Goals as goal

pub returns-clause-dimensions : goal.returns-clause-dimensions
returns-clause-dimensions c =
    statement_dimensions (names_in c.args.catalogue.now c.args.known.now c.args.locals.now) c.args.locals.now c.args.known.now c.args.statement.now c.answered.result
    c.answered.ensures
