use Rattle.std.proofs.Common.{refl}
use Rattle.dml_grammar.specs.Grammar.{statement}
use Rattle.dml_grammar.proofs.callers.Answering.{is_answered}
use Rattle.dml_parse.proofs.statements.answer.Goals as goal

pub returns : goal.returns
returns c =
    is_answered statement _ c.whole_line-read.new.tokens.rest.now _ _ c.whole_line-read.result c.settled.result c.kept-most.ensures.longest c.whole_line-read.ensures.read refl c.settled.ensures
