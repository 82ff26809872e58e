use Rattle.script_meaning.proofs.LineAnswers.{shows_what_is_read}
use Rattle.script_meaning.proofs.ShownSingles.{singles_shown, integers_assigned}
use Rattle.script_meaning.proofs.SnapshotReads.{attach_gives_latest, own_commands_move}
use Rattle.script_meaning.proofs.SnapshotReadsOfRuns.{sees_its_own, keeps_owned}
use Rattle.script_meaning.proofs.laws.sessions_read_their_own.Goals as goal

pub returns-clause-attached : goal.returns-clause-attached
returns-clause-attached c = attach_gives_latest

pub returns-clause-moved : goal.returns-clause-moved
returns-clause-moved c = own_commands_move

pub returns-clause-shown : goal.returns-clause-shown
returns-clause-shown c = shows_what_is_read

pub returns-clause-named : goal.returns-clause-named
returns-clause-named c = singles_shown

pub returns-clause-integer : goal.returns-clause-integer
returns-clause-integer c = integers_assigned

pub returns-clause-since : goal.returns-clause-since
returns-clause-since c names records coming events can = sees_its_own names records coming can events

pub returns-clause-owned : goal.returns-clause-owned
returns-clause-owned c names records coming events event can = keeps_owned names records coming events can event
