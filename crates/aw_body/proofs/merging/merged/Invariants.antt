use Rattle.std.proofs.Common.{◌≡◌, ◌≤◌, ◌+◌, ◌-◌, ◌++◌, length, drop}
use Rattle.aw_var.specs.CellPatch.{composed}
use Rattle.aw_var.specs.Laws.{IsRising}
use Rattle.aw_body.proofs.merging.merged.Given as goal

abbrev pub invariant-loop-i : goal.invariant-loop-i
invariant-loop-i l = record {
  within : l.i ≤ length l.first;
  second_within : l.j ≤ length l.second;
  rising : IsRising (drop l.j l.second);
  same : l.all.items ++ composed (drop l.i l.first) (drop l.j l.second) ≡ composed l.first l.second;
}

abbrev pub decreases-loop-i : goal.decreases-loop-i
decreases-loop-i l = (length l.initial.first - l.i) + (length l.initial.second - l.j)
