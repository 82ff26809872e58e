use Rattle.std.proofs.Common.{◌≡◌}
use Rattle.dml_types.specs.declared.checking.Typed.{Typed}
use Rattle.dml_kinds.specs.declared.fault.TypeFault.{TypeFault}
use Rattle.dml_kinds.specs.Checking.{IsAnswer}
use Rattle.ses_step.specs.Refusing.{checked}
use Rattle.ses_step.proofs.SessionChecks.{checked_of, lines_checked, over_checked}
use Rattle.ses_step.proofs.refusing.checked.Goals as goal

pub returns-clause-answer : goal.returns-clause-answer
returns-clause-answer c =
    checked_of c.args.catalogue.now c.args.statement.now c.new-known.result c.new-locals.result c.check.result c.check.ensures.answer c.new-known.ensures c.new-locals.ensures

pub returns-clause-of_a_line : goal.returns-clause-of_a_line
returns-clause-of_a_line c =
    lines_checked c.args.catalogue.now c.args.statement.now c.check.result
    (checked_of c.args.catalogue.now c.args.statement.now c.new-known.result c.new-locals.result c.check.result c.check.ensures.answer c.new-known.ensures c.new-locals.ensures)
    c.check.ensures.dimensions

pub returns-clause-over : goal.returns-clause-over
returns-clause-over c =
    over_checked c.args.catalogue.now c.args.statement.now c.check.result
    (checked_of c.args.catalogue.now c.args.statement.now c.new-known.result c.new-locals.result c.check.result c.check.ensures.answer c.new-known.ensures c.new-locals.ensures)
