use Rattle.script_play.proofs.LineSteps.{replied_so}
use Rattle.script_play.proofs.turn.ask_and_finish.Goals as goal

pub returns-in-Ok-finish-clause-ok : goal.returns-in-Ok-finish-clause-ok
returns-in-Ok-finish-clause-ok g c =
    replied_so g.D.Disk.faults g.D.Disk.clock g.D.Disk.crash c.args.names.now c.args.entry.now c.in-Ok.reply c.in-Ok-finish.answer c.args.session.now _ c.args.store.now c.ask.new.store c.requires.closed c.in-Ok.ensures.ok
    (c.in-Ok.ensures.allowed c.args.session.now c.requires.sees c.requires.ready) c.in-Ok-finish.ensures
