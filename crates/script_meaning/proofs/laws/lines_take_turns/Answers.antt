use Rattle.script_meaning.proofs.callers.TakingTurns.{lines_take_turns}
use Rattle.script_meaning.proofs.laws.lines_take_turns.Goals as goal

pub returns : goal.returns
returns c = lines_take_turns
