use Rattle.script_world.proofs.callers.NoSession.{sessions_are_answered}
use Rattle.script_meaning.specs.LineAnswers.{IsOneLine}
use Rattle.script_meaning.specs.Language.{by_history}
use Rattle.script_meaning.proofs.OneLineAnswers.{speaks}
use Rattle.script_meaning.proofs.laws.session_lines_are_answered_once.Goals as goal

pub returns : goal.returns
returns c coming = sessions_are_answered (by_history coming) IsOneLine (speaks coming)
