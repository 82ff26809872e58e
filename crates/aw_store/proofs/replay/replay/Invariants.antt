use Rattle.std.proofs.Common.{map, take}
use Rattle.aw_store.specs.inside.ReplaySteps.{bytes_of, AreReplayed}
use Rattle.aw_store.proofs.replay.replay.Given as goal

abbrev pub invariant-loop-payload : goal.invariant-loop-payload
invariant-loop-payload l = AreReplayed (take l.payload-index (map bytes_of l.payloads)) l.replayed.catalogue l.replayed.shared
