use Rattle.script_meaning.proofs.DefinitionLaws.{definitions_answered, blocks_open}
use Rattle.script_meaning.proofs.laws.definitions_are_answered.Goals as goal

pub returns-clause-ended : goal.returns-clause-ended
returns-clause-ended c = definitions_answered

pub returns-clause-open : goal.returns-clause-open
returns-clause-open c = blocks_open
