use Rattle.script_meaning.specs.Language.{written}
use Rattle.script_play.specs.inside.StoreWorlds.{definitions_in}
use Rattle.script_play.proofs.LineSteps.{begun-sees, said_turned, replied_turned, asked_wants}
use Rattle.script_play.proofs.Told.{told_none}
use Rattle.script_play.proofs.turn.take_turn.Goals as goal

pub returns-in-Said-clause-ok : goal.returns-in-Said-clause-ok
returns-in-Said-clause-ok g c =
    said_turned g.D.Disk.faults g.D.Disk.clock g.D.Disk.crash (definitions_in c.args.store.now) c.args.names.now (written c.args.line.now c.args.from) c.in-Said.answer c.args.session.now.known c.begin.new.session c.args.store.now (rw c.in-Said.is at c.in_ok-answer.ensures.begun)

pub returns-clause-err : goal.returns-clause-err
returns-clause-err g c =
    asked_wants g.D.Disk.faults g.D.Disk.clock g.D.Disk.crash (definitions_in c.args.store.now) c.args.names.now (written c.args.line.now c.args.from) c.in-Ask.entry c.args.session.now.known c.begin.new.session c.args.store.now _ (rw c.in-Ask.is at c.in_ok-answer.ensures.begun) c.in-Err.ensures.err

pub returns-in-Ok-clause-ok : goal.returns-in-Ok-clause-ok
returns-in-Ok-clause-ok g c =
    replied_turned g.D.Disk.faults g.D.Disk.clock g.D.Disk.crash (definitions_in c.args.store.now) c.args.names.now (written c.args.line.now c.args.from) c.in-Ask.entry c.in-Ok.answer c.args.session.now.known c.begin.new.session _ c.args.store.now _ (rw c.in-Ask.is at c.in_ok-answer.ensures.begun) c.in-Ok.ensures.ok

pub ask_and_finish-requires-clause-sees : goal.ask_and_finish-requires-clause-sees
ask_and_finish-requires-clause-sees g c =
    begun-sees (definitions_in c.args.store.now) (written c.args.line.now c.args.from) c.in-Ask.entry c.args.session.now.known c.begin.new.session (rw c.in-Ask.is at c.in_ok-answer.ensures.begun) c.requires.sees

pub returns-in_err-answer-clause-told : goal.returns-in_err-answer-clause-told
returns-in_err-answer-clause-told g c = told_none

pub returns-in-Said-clause-told : goal.returns-in-Said-clause-told
returns-in-Said-clause-told g c = told_none
