use Rattle.script_play.proofs.ScriptEnd.{EndsBlock-so, StopsAtEnd-block}
use Rattle.script_play.proofs.Told.{told_same, told_then}
use Rattle.script_play.proofs.player.Player+Store+D.end_script.Goals as goal

pub returns-in-Ok-respond_to_end-clause-ends : goal.returns-in-Ok-respond_to_end-clause-ends
returns-in-Ok-respond_to_end-clause-ends g c =
    EndsBlock-so g.D.Disk.faults g.D.Disk.clock g.D.Disk.crash c.in-Ok.refused c.in-Ok-respond_to_end.block _ c.end_lines.new.self.world c.respond_to_end.new.world _ _ _ c.in-Ok.ensures.ends c.in-Ok-respond_to_end.ensures.responded

pub returns-in-Err-respond_to_end-clause-ends : goal.returns-in-Err-respond_to_end-clause-ends
returns-in-Err-respond_to_end-clause-ends g c =
    StopsAtEnd-block g.D.Disk.faults g.D.Disk.clock g.D.Disk.crash c.in-Err-respond_to_end.stop c.in-Ok.refused _ c.end_lines.new.self.world c.respond_to_end.new.world _ _ _ c.in-Ok.ensures.ends c.in-Err-respond_to_end.ensures.responded

pub returns-in-Ok-respond_to_end-clause-told : goal.returns-in-Ok-respond_to_end-clause-told
returns-in-Ok-respond_to_end-clause-told g c = told_then c.end_lines.ensures.told (told_same _ c.end_lines.new.self.world.store _ c.respond_to_end.ensures.store)

pub returns-in-Err-respond_to_end-clause-told : goal.returns-in-Err-respond_to_end-clause-told
returns-in-Err-respond_to_end-clause-told g c = told_then c.end_lines.ensures.told (told_same _ c.end_lines.new.self.world.store _ c.respond_to_end.ensures.store)
