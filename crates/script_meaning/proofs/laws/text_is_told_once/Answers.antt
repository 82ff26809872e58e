use Rattle.script_world.proofs.callers.UnusedOutcomes.{list_told_once, goes_on}
use Rattle.script_meaning.specs.Language.{store_writing, history_machine}
use Rattle.script_meaning.specs.Transcript.{opening}
use Rattle.script_meaning.proofs.laws.text_is_told_once.Goals as goal

pub returns-clause-told : goal.returns-clause-told
returns-clause-told c names records coming more events = list_told_once store_writing history_machine (opening names records) coming more events

pub returns-clause-goes_on : goal.returns-clause-goes_on
returns-clause-goes_on c names records coming new events event = goes_on store_writing history_machine (opening names records) coming new events event
