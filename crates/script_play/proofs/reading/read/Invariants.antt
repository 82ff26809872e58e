use Rattle.std.proofs.Common.{◌≤◌}
use Rattle.script_play.specs.inside.StoreWorlds.{IsSound}
use Rattle.script_play.specs.inside.Playing.{play_of}
use Rattle.script_play.specs.inside.ScriptReading.{HasReadFrom}
use Rattle.script_play.specs.inside.Telling.{HasTold, listening_by}
use Rattle.script_play.specs.Runs.{streams}
use Rattle.script_play.proofs.reading.read.Given as goal

-- all that was taken is played, and the room is what may still come
abbrev pub invariant-loop-room : goal.invariant-loop-room
invariant-loop-room g l = record {
  sound : IsSound l.player.world;
  read : HasReadFrom g.D.Disk.faults g.D.Disk.clock g.D.Disk.crash (play_of l.fn.player) (streams (g.S.Source.left l.fn.script) (g.S.Source.left l.script) (g.K.Sink.written l.fn.out) (g.K.Sink.written l.out)) (play_of l.player) l.room;
  told : HasTold (listening_by l.fn.feed.listeners.items (λ listener. record { told = (g.dyn-1.0.entry listener.vtable).1.told listener.value; last = (g.dyn-1.0.entry listener.vtable).1.last listener.value }))
      (listening_by l.feed.listeners.items (λ listener. record { told = (g.dyn-1.0.entry listener.vtable).1.told listener.value; last = (g.dyn-1.0.entry listener.vtable).1.last listener.value })) l.fn.player.world.store l.player.world.store;
  source_faults : g.S.Source.faults l.fn.script ≤ g.S.Source.faults l.script;
  sink_faults : g.K.Sink.faults l.fn.out ≤ g.K.Sink.faults l.out;
}

abbrev pub decreases-loop-room : goal.decreases-loop-room
decreases-loop-room g l = l.room
