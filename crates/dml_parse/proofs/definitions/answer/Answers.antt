use Rattle.std.proofs.Common.{refl}
use Rattle.dml_grammar.specs.Grammar.{definition}
use Rattle.dml_grammar.proofs.callers.Answering.{is_answered}
use Rattle.dml_parse.proofs.definitions.answer.Goals as goal

pub returns : goal.returns
returns c =
    is_answered definition _ c.whole_definition-read.new.tokens.rest.now _ _ c.whole_definition-read.result c.settled.result c.kept-most.ensures.longest c.whole_definition-read.ensures.read refl c.settled.ensures
