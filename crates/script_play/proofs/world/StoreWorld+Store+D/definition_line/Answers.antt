use Rattle.std.proofs.Common.{sym, true, false, None}
use Rattle.script_play.proofs.Lines.{first_form_as, joined_answers}
use Rattle.script_play.proofs.world.StoreWorld+Store+D.definition_line.Goals as goal

pub returns-in-Ok-clause-ok : goal.returns-in-Ok-clause-ok
returns-in-Ok-clause-ok g c =
    first_form_as g.D.Disk.faults g.D.Disk.clock g.D.Disk.crash c.args.line.now true None c.args.self.now c.keep_line.new.self (sym c.if-opens_block.ensures) (joined_answers g.D.Disk.faults g.D.Disk.clock g.D.Disk.crash c.args.line.now c.args.self.now c.keep_line.new.self c.in-Ok.ensures.ok)

pub returns-in-Ok-end_definition-clause-ok : goal.returns-in-Ok-end_definition-clause-ok
returns-in-Ok-end_definition-clause-ok g c = first_form_as g.D.Disk.faults g.D.Disk.clock g.D.Disk.crash c.args.line.now false c.in-Ok-end_definition.response c.args.self.now c.end_definition.new.self (sym c.if-opens_block.ensures) c.in-Ok-end_definition.ensures.ok
