use Rattle.script_world.proofs.callers.NoSession.{leaves_apart, malformed_is_refused, closes_exactly}
use Rattle.script_meaning.specs.Language.{by_history}
use Rattle.script_meaning.proofs.laws.lines_of_no_session_stay_apart.Goals as goal

pub returns-clause-apart : goal.returns-clause-apart
returns-clause-apart c coming = leaves_apart (by_history coming)

pub returns-clause-malformed : goal.returns-clause-malformed
returns-clause-malformed c coming = malformed_is_refused (by_history coming)

pub returns-clause-closing : goal.returns-clause-closing
returns-clause-closing c coming = closes_exactly (by_history coming)
