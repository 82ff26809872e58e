use Rattle.script_play.proofs.ScriptEnd.{EndsLines-none, EndsLines-one, StopsAtEnd-one}
use Rattle.script_play.proofs.Told.{told_none}
use Rattle.script_play.proofs.player.Player+Store+D.end_lines.Goals as goal

pub returns-then-is_empty-clause-ends : goal.returns-then-is_empty-clause-ends
returns-then-is_empty-clause-ends g c = EndsLines-none g.D.Disk.faults g.D.Disk.clock g.D.Disk.crash _ _ c.as_slice-line.result.now c.as_slice-line.ensures.value c.if-is_empty.ensures

pub returns-in-Ok-clause-ends : goal.returns-in-Ok-clause-ends
returns-in-Ok-clause-ends g c =
    EndsLines-one g.D.Disk.faults g.D.Disk.clock g.D.Disk.crash _ _ _ _ c.as_slice-line.result.now c.in-Ok.refused c.as_slice-line.ensures.value c.if-is_empty.ensures c.in-Ok.ensures.responded

pub returns-in-Err-clause-ends : goal.returns-in-Err-clause-ends
returns-in-Err-clause-ends g c =
    StopsAtEnd-one g.D.Disk.faults g.D.Disk.clock g.D.Disk.crash c.in-Err.stop _ c.respond.new.world _ _ c.as_slice-line.result.now c.as_slice-line.ensures.value c.if-is_empty.ensures c.in-Err.ensures.responded

pub returns-then-is_empty-clause-told : goal.returns-then-is_empty-clause-told
returns-then-is_empty-clause-told g c = told_none
