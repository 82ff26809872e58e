use Rattle.std.proofs.Common.{◌≡◌, ◌++◌, drop}
use Rattle.mv_core.specs.Lookups.{latest_from}
use Rattle.mv_core.proofs.asking.all_latest.Given as goal

abbrev pub invariant-loop-at : goal.invariant-loop-at
invariant-loop-at l = l.latest.items ++ latest_from l.at (drop l.at l.objects) ≡ latest_from 0 l.objects
