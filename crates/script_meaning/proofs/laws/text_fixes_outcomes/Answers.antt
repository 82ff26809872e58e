use Rattle.script_meaning.proofs.OneLineAnswers.{text_fixes_outcomes}
use Rattle.script_meaning.proofs.laws.text_fixes_outcomes.Goals as goal

pub returns : goal.returns
returns c = text_fixes_outcomes
