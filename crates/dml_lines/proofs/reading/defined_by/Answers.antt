use Rattle.std.proofs.Common.{refl}
use Rattle.dml_lines.proofs.LinesRead.{definition_is, no_definition_is}
use Rattle.dml_lines.proofs.reading.defined_by.Goals as goal

pub returns-in-Ok : goal.returns-in-Ok
returns-in-Ok c = definition_is c.args.lines.now c.in-Ok.definition c.in-Ok.ensures.accepted

pub returns-in-Err : goal.returns-in-Err
returns-in-Err c = no_definition_is c.args.lines.now c.in-Err.fault (c.in-Err.ensures.cause c.in-Err.fault refl)
