use Rattle.std.proofs.Common.{◌∙◌, ap, sym, arith}
use Rattle.dml_tree.proofs.callers.Lines.{tokens_are, fault_is}
use Rattle.dml_lines.specs.Lines.{unless_end, refused_at, end_inside}
use Rattle.dml_lines.proofs.reading.read_line.Goals as goal

pub returns-in-Err-clause-fault : goal.returns-in-Err-clause-fault
returns-in-Err-clause-fault c column is =
    ap (unless_end c.args.last c.args.line.now) (fault_is c.args.line.now 0 (omega arith) column (c.tokens.ensures.fault column (c.in-Err.is ∙ is)))

pub returns-in-Some-clause-fault : goal.returns-in-Some-clause-fault
returns-in-Some-clause-fault c column is =
    ap (unless_end c.args.last c.args.line.now) (tokens_are c.args.line.now 0 (omega arith) c.in-Ok.tokens c.in-Ok.ensures.tokens)
    ∙ ap (refused_at c.in-Ok.tokens) (ap (end_inside c.args.last c.args.line.now) (sym c.as_slice.ensures) ∙ sym c.end_inside.ensures ∙ c.in-Some.is)
    ∙ is

pub returns-in-None-clause-tokens : goal.returns-in-None-clause-tokens
returns-in-None-clause-tokens c =
    ap (unless_end c.args.last c.args.line.now) (tokens_are c.args.line.now 0 (omega arith) c.in-Ok.tokens c.in-Ok.ensures.tokens)
    ∙ ap (refused_at c.in-Ok.tokens) (ap (end_inside c.args.last c.args.line.now) (sym c.as_slice.ensures) ∙ sym c.end_inside.ensures ∙ c.in-None.is)
