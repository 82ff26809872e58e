use Rattle.std.proofs.lemmas.Bool.{ne_eqb}
use Rattle.script_play.specs.inside.Playing.{play_of}
use Rattle.script_play.proofs.FedBytes.{Feeds-more, StopsIn-nothing}
use Rattle.script_play.proofs.Told.{told_none}
use Rattle.script_play.proofs.player.Player+Store+D.play_byte.Goals as goal

pub returns-in-Ok-clause-feeds : goal.returns-in-Ok-clause-feeds
returns-in-Ok-clause-feeds g c =
    Feeds-more g.D.Disk.faults g.D.Disk.clock g.D.Disk.crash c.args.byte (play_of c.args.self.now) c.push.new.self.items (g.K.Sink.written c.args.out.now) (ne_eqb _ _ c.if-byte-eq10.false) c.in-Ok.ensures.items

pub returns-in-Err-clause-feeds : goal.returns-in-Err-clause-feeds
returns-in-Err-clause-feeds g c =
    StopsIn-nothing g.D.Disk.faults g.D.Disk.clock g.D.Disk.crash _ (play_of c.args.self.now) c.push.new.self.items (g.K.Sink.written c.args.out.now)

pub returns-in-Ok-clause-told : goal.returns-in-Ok-clause-told
returns-in-Ok-clause-told g c = told_none

pub returns-in-Err-clause-told : goal.returns-in-Err-clause-told
returns-in-Err-clause-told g c = told_none
