use Rattle.script_play.proofs.ScriptEnd.{Finishes-so, StopsAtEnd-so}
use Rattle.script_play.proofs.Told.{told_then}
use Rattle.script_play.proofs.player.Player+Store+D.finish.Goals as goal

pub returns-in-Ok-finish-clause-finishes : goal.returns-in-Ok-finish-clause-finishes
returns-in-Ok-finish-clause-finishes g c =
    Finishes-so g.D.Disk.faults g.D.Disk.clock g.D.Disk.crash _ _ c.end_script.new.self.world c.finish.new.self _ _ c.in-Ok.ensures.ends c.in-Ok-finish.ensures.finishes

pub returns-in-Err-finish-clause-finishes : goal.returns-in-Err-finish-clause-finishes
returns-in-Err-finish-clause-finishes g c =
    StopsAtEnd-so g.D.Disk.faults g.D.Disk.clock g.D.Disk.crash c.in-Err-finish.stop _ _ c.end_script.new.self.world c.finish.new.self _ _ c.in-Ok.ensures.ends c.in-Err-finish.ensures.finishes

pub returns-in-Ok-finish-clause-told : goal.returns-in-Ok-finish-clause-told
returns-in-Ok-finish-clause-told g c = told_then c.end_script.ensures.told c.finish.ensures.told

pub returns-in-Err-finish-clause-told : goal.returns-in-Err-finish-clause-told
returns-in-Err-finish-clause-told g c = told_then c.end_script.ensures.told c.finish.ensures.told
