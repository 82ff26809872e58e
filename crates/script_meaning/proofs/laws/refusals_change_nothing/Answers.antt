use Rattle.script_meaning.proofs.RefusedLines.{refusals_change_nothing}
use Rattle.script_meaning.proofs.laws.refusals_change_nothing.Goals as goal

pub returns : goal.returns
returns c = refusals_change_nothing
