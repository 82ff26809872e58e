use Rattle.std.proofs.Common.{◌≤◌, take}
use Rattle.script_play.specs.inside.StoreWorlds.{IsSound}
use Rattle.script_play.specs.inside.Playing.{Feeds, play_of}
use Rattle.script_play.specs.inside.Telling.{HasTold, listening_by}
use Rattle.script_play.proofs.player.Player+Store+D.play_bytes.Given as goal

-- the bytes up to this place were fed
abbrev pub invariant-loop-byte : goal.invariant-loop-byte
invariant-loop-byte g l = record {
  sound : IsSound l.self.world;
  fed : Feeds g.D.Disk.faults g.D.Disk.clock g.D.Disk.crash (take l.byte-index l.bytes) (play_of l.fn.self) (g.K.Sink.written l.fn.out) (play_of l.self) (g.K.Sink.written l.out);
  told : HasTold (listening_by l.fn.feed.listeners.items (λ listener. record { told = (g.dyn-1.0.entry listener.vtable).1.told listener.value; last = (g.dyn-1.0.entry listener.vtable).1.last listener.value }))
      (listening_by l.feed.listeners.items (λ listener. record { told = (g.dyn-1.0.entry listener.vtable).1.told listener.value; last = (g.dyn-1.0.entry listener.vtable).1.last listener.value })) l.fn.self.world.store l.self.world.store;
  faults : g.K.Sink.faults l.fn.out ≤ g.K.Sink.faults l.out;
}
