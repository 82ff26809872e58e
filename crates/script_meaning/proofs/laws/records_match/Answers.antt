use Rattle.script_meaning.proofs.ReachableWorlds.{always_match, always_end}
use Rattle.script_meaning.proofs.laws.records_match.Goals as goal

pub returns-clause-so_far : goal.returns-clause-so_far
returns-clause-so_far c = always_match

pub returns-clause-at_the_end : goal.returns-clause-at_the_end
returns-clause-at_the_end c = always_end
