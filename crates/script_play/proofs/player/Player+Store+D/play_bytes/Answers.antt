use Rattle.std.proofs.Common.{◌<◌, ◌+◌, ◌∙◌, ◌++◌, List, ℕ, length, drop, sym, ap, subst, arith, take-append-drop}
use Rattle.std.proofs.lemmas.List.{take_more}
use Rattle.script_play.specs.inside.Playing.{Feeds, StopsIn, play_of}
use Rattle.script_play.proofs.FedBytes.{Feeds-nothing, Feeds-append, StopsIn-append, StopsIn-more}
use Rattle.script_play.proofs.Told.{told_none, told_then}
use Rattle.script_play.proofs.player.Player+Store+D.play_bytes.Goals as goal

pub returns-in-Err-clause-feeds : goal.returns-in-Err-clause-feeds
returns-in-Err-clause-feeds g c =
    let bytes = c.args.bytes.now in
    let i = c.loop-byte.byte-index in
    let within : i < length bytes = omega arith in
    subst (λ (all : List ℕ). StopsIn g.D.Disk.faults g.D.Disk.clock g.D.Disk.crash c.in-Err.stop all (play_of c.args.self.now) (g.K.Sink.written c.args.out.now) (play_of c.play_byte.new.self) (g.K.Sink.written c.play_byte.new.out))
    (ap (λ front. front ++ drop (i + 1) bytes) (sym (take_more bytes i 0 within)) ∙ take-append-drop (i + 1) bytes)
    (StopsIn-more g.D.Disk.faults g.D.Disk.clock g.D.Disk.crash (drop (i + 1) bytes) (StopsIn-append g.D.Disk.faults g.D.Disk.clock g.D.Disk.crash c.loop-byte.invariant.fed c.in-Err.ensures.feeds))

pub loop-byte-init : goal.loop-byte-init
loop-byte-init g c = record {
  sound = c.requires;
  fed = Feeds-nothing g.D.Disk.faults g.D.Disk.clock g.D.Disk.crash (play_of c.args.self.now) (g.K.Sink.written c.args.out.now);
  told = told_none;
  faults = omega arith;
}

pub loop-byte-preserved : goal.loop-byte-preserved
loop-byte-preserved g c =
    let bytes = c.args.bytes.now in
    let i = c.loop-byte.byte-index in
    let within : i < length bytes = omega arith in
    record {
      sound = c.in-Ok.ensures.sound;
      fed = subst (λ (all : List ℕ). Feeds g.D.Disk.faults g.D.Disk.clock g.D.Disk.crash all (play_of c.args.self.now) (g.K.Sink.written c.args.out.now) (play_of c.play_byte.new.self) (g.K.Sink.written c.play_byte.new.out))
          (sym (take_more bytes i 0 within)) (Feeds-append g.D.Disk.faults g.D.Disk.clock g.D.Disk.crash c.loop-byte.invariant.fed c.in-Ok.ensures.feeds);
      told = told_then c.loop-byte.invariant.told c.play_byte.ensures.told;
      faults = omega arith;
    }

pub returns-in-Err-clause-told : goal.returns-in-Err-clause-told
returns-in-Err-clause-told g c = told_then c.loop-byte.invariant.told c.play_byte.ensures.told
