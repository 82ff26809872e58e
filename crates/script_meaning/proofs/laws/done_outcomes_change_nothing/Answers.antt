use Rattle.script_meaning.proofs.callers.AllDone.{as_with_none}
use Rattle.script_meaning.proofs.laws.done_outcomes_change_nothing.Goals as goal

pub returns : goal.returns
returns c = as_with_none
