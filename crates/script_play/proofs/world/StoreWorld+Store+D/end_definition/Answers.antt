use Rattle.script_play.proofs.Lines.{kept_sound, ended_answers}
use Rattle.script_play.proofs.world.StoreWorld+Store+D.end_definition.Goals as goal

pub define_open-requires : goal.define_open-requires
define_open-requires g c = kept_sound g.D.Disk.faults g.D.Disk.clock g.D.Disk.crash c.args.line.now c.args.self.now c.keep_line.new.self c.in-Ok.ensures.ok c.requires

pub returns-in-Ok-define_open-clause-ok : goal.returns-in-Ok-define_open-clause-ok
returns-in-Ok-define_open-clause-ok g c =
    ended_answers g.D.Disk.faults g.D.Disk.clock g.D.Disk.crash c.args.line.now c.in-Ok-define_open.response c.args.self.now c.keep_line.new.self c.define_open.new.self c.in-Ok.ensures.ok c.in-Ok-define_open.ensures.ok
