use Rattle.script_play.specs.inside.Playing.{play_of}
use Rattle.script_play.proofs.ScriptReading.{ends_reading, ends_script}
use Rattle.script_play.proofs.Told.{told_then}
use Rattle.script_play.proofs.whole_run.play_with.Goals as goal

pub returns-in-Ok-clause-ends : goal.returns-in-Ok-clause-ends
returns-in-Ok-clause-ends g c =
    ends_script g.D.Disk.faults g.D.Disk.clock g.D.Disk.crash (play_of c.args.player.now) c.finish.result _ _ _ _ _ (play_of c.read.new.player) _ c.in-Ok.ensures.reads c.finish.ensures.finishes

pub returns-in-Err-clause-ends : goal.returns-in-Err-clause-ends
returns-in-Err-clause-ends g c =
    ends_reading g.D.Disk.faults g.D.Disk.clock g.D.Disk.crash (play_of c.args.player.now) c.in-Err.ending _ _ _ _ (play_of c.read.new.player) c.in-Err.ensures.reads

pub returns-in-Ok-clause-told : goal.returns-in-Ok-clause-told
returns-in-Ok-clause-told g c = told_then c.read.ensures.told c.finish.ensures.told
