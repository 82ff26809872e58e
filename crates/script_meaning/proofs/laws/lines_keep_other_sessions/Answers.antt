use Rattle.script_world.proofs.callers.OtherSessions.{keeps_others}
use Rattle.script_meaning.specs.Language.{by_history}
use Rattle.script_meaning.proofs.laws.lines_keep_other_sessions.Goals as goal

pub returns : goal.returns
returns c coming = keeps_others (by_history coming)
