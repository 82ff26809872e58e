use Rattle.std.proofs.Common.{◌∙◌, ap}
use Rattle.dml_lines.specs.Lines.{front_of}
use Rattle.dml_lines.proofs.LinesRead.{definition_as, no_definition_as}
use Rattle.dml_lines.proofs.reading.read_definition.Goals as goal

pub returns-in-Ok-decided : goal.returns-in-Ok-decided
returns-in-Ok-decided c = definition_as c.args.lines.now c.in-Ok.front.tokens c.in-Ok.front.fault (c.in-Ok.ensures ∙ ap front_of c.as_slice.ensures) c.in-Ok-decided.definition c.in-Ok-decided.ensures

pub returns : goal.returns
returns c = no_definition_as c.args.lines.now c.in-Ok.front.tokens c.in-Ok.front.fault (c.in-Ok.ensures ∙ ap front_of c.as_slice.ensures) c.in-Err-decided.fault c.counted.result c.in-Err-decided.ensures c.counted.ensures
