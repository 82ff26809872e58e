use Rattle.std.proofs.Common.{◌≡◌, ◌≤◌, ◌+◌, ◌-◌, length, take, arith}
use Rattle.std.proofs.lemmas.List.{length-take}
use Rattle.script_play.specs.inside.Playing.{play_of}
use Rattle.script_play.proofs.ScriptReading.{read_nothing, read_more, reads_stopped, reads_end, reads_broken, reads_full}
use Rattle.script_play.proofs.Told.{told_none, told_then}
use Rattle.script_play.proofs.reading.read.Goals as goal

pub returns-in-Err-clause-reads : goal.returns-in-Err-clause-reads
returns-in-Err-clause-reads g c =
    let taken = c.in-Got.ensures.taken in
    let fits : length (take c.in-Got.count c.take.new.into) ≤ c.loop-room.room = omega (arith, length-take c.in-Got.count c.take.new.into, taken.within, c.take.auto.into, length-take c.min-len.result c.loop-room.buffer, c.min-len.ensures) in
    reads_stopped g.D.Disk.faults g.D.Disk.clock g.D.Disk.crash (play_of c.args.player.now) c.in-Err.stop _ (take c.in-Got.count c.take.new.into) c.ending_of.ensures c.loop-room.invariant.read taken.gives c.in-Err.ensures.feeds fits

pub loop-room-preserved : goal.loop-room-preserved
loop-room-preserved g c =
    let taken = c.in-Got.ensures.taken in
    let size : length (take c.in-Got.count c.take.new.into) + (c.loop-room.room - c.in-Got.count) ≡ c.loop-room.room = omega (arith, length-take c.in-Got.count c.take.new.into, taken.within, c.take.auto.into, length-take c.min-len.result c.loop-room.buffer, c.min-len.ensures) in
    record {
      sound = c.in-Ok.ensures.sound;
      read = read_more g.D.Disk.faults g.D.Disk.clock g.D.Disk.crash (play_of c.args.player.now) (take c.in-Got.count c.take.new.into) c.loop-room.invariant.read taken.gives c.in-Ok.ensures.feeds size;
      told = told_then c.loop-room.invariant.told c.play_bytes.ensures.told;
      source_faults = omega arith;
      sink_faults = omega arith;
    }

pub returns-in-End-clause-reads : goal.returns-in-End-clause-reads
returns-in-End-clause-reads g c =
    reads_end g.D.Disk.faults g.D.Disk.clock g.D.Disk.crash (play_of c.args.player.now) c.loop-room.invariant.read c.in-End.ensures.taken.0 c.in-End.ensures.taken.1

pub returns-in-Failed-clause-reads : goal.returns-in-Failed-clause-reads
returns-in-Failed-clause-reads g c =
    reads_broken g.D.Disk.faults g.D.Disk.clock g.D.Disk.crash (play_of c.args.player.now) c.loop-room.invariant.read c.in-Failed.ensures.taken

pub returns-clause-reads : goal.returns-clause-reads
returns-clause-reads g c =
    reads_full g.D.Disk.faults g.D.Disk.clock g.D.Disk.crash (play_of c.args.player.now) _ _ _ _ _ (play_of c.loop-room.player) c.loop-room.room c.expect_end.result
    c.loop-room.invariant.read c.loop-room-test.false c.expect_end.ensures.ends

pub loop-room-init : goal.loop-room-init
loop-room-init g c = record {
  sound = c.requires.sound;
  read = read_nothing g.D.Disk.faults g.D.Disk.clock g.D.Disk.crash (play_of c.args.player.now) (g.S.Source.left c.args.script.now) (g.K.Sink.written c.args.out.now);
  told = told_none;
  source_faults = omega arith;
  sink_faults = omega arith;
}

pub returns-in-Err-clause-told : goal.returns-in-Err-clause-told
returns-in-Err-clause-told g c = told_then c.loop-room.invariant.told c.play_bytes.ensures.told
