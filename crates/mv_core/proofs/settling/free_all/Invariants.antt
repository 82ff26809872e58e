use Rattle.mv_core.proofs.Each.{FreesAll}
use Rattle.mv_core.proofs.settling.free_all.Given as goal

abbrev pub invariant-loop-at : goal.invariant-loop-at
invariant-loop-at l = FreesAll l.who l.at l.objects l.initial.objects
