use Rattle.std.proofs.Common.{refl}
use Rattle.dml_lines.proofs.LinesRead.{statement_is, refused_is, lexical_is}
use Rattle.dml_lines.proofs.reading.read_statement.Goals as goal

pub returns-in-Ok-statement : goal.returns-in-Ok-statement
returns-in-Ok-statement c =
    statement_is c.args.line.now c.args.from c.requires.within c.in-Ok.tokens c.in-Ok.ensures.tokens c.in-Ok-statement.statement c.in-Ok-statement.ensures.accepted

pub returns-in-Ok : goal.returns-in-Ok
returns-in-Ok c =
    refused_is c.args.line.now c.args.from c.requires.within c.in-Ok.tokens c.in-Ok.ensures.tokens c.in-Err.fault (c.in-Err.ensures.cause c.in-Err.fault refl)

pub returns-in-Err-Lexical : goal.returns-in-Err-Lexical
returns-in-Err-Lexical c =
    let found = c.in-Err-Lexical.is in
    let fault = c.in-Err-Lexical.field-0-is in
    let column = c.in-Err-Lexical.column-is in
    lexical_is c.args.line.now c.args.from c.requires.within _ (c.tokens.ensures.fault _ cc)
