use Rattle.script_meaning.specs.Language.{written}
use Rattle.script_play.proofs.Lines.{closes_open, closes_paired, closes_seen, named_answers, named_wants}
use Rattle.script_play.proofs.Told.{told_then}
use Rattle.script_play.proofs.world.StoreWorld+Store+D.under_name.Goals as goal

pub session_line-requires-clause-paired : goal.session_line-requires-clause-paired
session_line-requires-clause-paired g c = closes_paired g.D.Disk.faults g.D.Disk.clock g.D.Disk.crash c.args.self.now c.open_once.new.self c.in-Ok.ensures.closes c.requires.sound.paired

pub session_line-requires-clause-closed : goal.session_line-requires-clause-closed
session_line-requires-clause-closed g c = closes_open g.D.Disk.faults g.D.Disk.clock g.D.Disk.crash c.args.self.now c.open_once.new.self c.in-Ok.ensures.closes

pub session_line-requires-clause-seen : goal.session_line-requires-clause-seen
session_line-requires-clause-seen g c = closes_seen g.D.Disk.faults g.D.Disk.clock g.D.Disk.crash c.args.self.now c.open_once.new.self c.in-Ok.ensures.closes c.requires.sound

pub returns-in-Ok-session_line : goal.returns-in-Ok-session_line
returns-in-Ok-session_line g c = record {
  responds = named_answers g.D.Disk.faults g.D.Disk.clock g.D.Disk.crash c.args.name (written c.args.line.now c.args.from) _ c.args.self.now c.open_once.new.self _ c.in-Ok.ensures.closes c.in-Ok-session_line.ensures.ok;
  told = told_then c.open_once.ensures.told c.session_line.ensures.told;
}

pub returns-in-Err-session_line : goal.returns-in-Err-session_line
returns-in-Err-session_line g c = record {
  responds = named_wants g.D.Disk.faults g.D.Disk.clock g.D.Disk.crash c.args.name (written c.args.line.now c.args.from) c.args.self.now c.open_once.new.self _ c.requires.sound c.in-Ok.ensures.closes c.in-Err-session_line.ensures.err;
  told = told_then c.open_once.ensures.told c.session_line.ensures.told;
}
