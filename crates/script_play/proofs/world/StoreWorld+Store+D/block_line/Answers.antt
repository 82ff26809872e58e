use Rattle.std.proofs.Common.{sym, true, false, None}
use Rattle.script_play.proofs.Lines.{block_form_as, joined_answers}
use Rattle.script_play.proofs.world.StoreWorld+Store+D.block_line.Goals as goal

pub returns-in-Ok-clause-ok : goal.returns-in-Ok-clause-ok
returns-in-Ok-clause-ok g c = block_form_as g.D.Disk.faults g.D.Disk.clock g.D.Disk.crash c.args.line.now true c.in-Ok.response c.args.self.now c.end_definition.new.self (sym c.if-is_end.ensures) c.in-Ok.ensures.ok

pub returns-in-Ok-keep_line-clause-ok : goal.returns-in-Ok-keep_line-clause-ok
returns-in-Ok-keep_line-clause-ok g c =
    block_form_as g.D.Disk.faults g.D.Disk.clock g.D.Disk.crash c.args.line.now false None c.args.self.now c.keep_line.new.self (sym c.if-is_end.ensures) (joined_answers g.D.Disk.faults g.D.Disk.clock g.D.Disk.crash c.args.line.now c.args.self.now c.keep_line.new.self c.in-Ok-keep_line.ensures.ok)
