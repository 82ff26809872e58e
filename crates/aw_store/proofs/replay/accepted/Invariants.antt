use Rattle.std.proofs.Common.{length}
use Rattle.aw_store.proofs.Taking.{AcceptsFirst}
use Rattle.aw_store.proofs.replay.accepted.Given as goal

abbrev pub invariant-loop-def : goal.invariant-loop-def
invariant-loop-def l = AcceptsFirst l.fn.definitions l.catalogue (length l.yielded)
