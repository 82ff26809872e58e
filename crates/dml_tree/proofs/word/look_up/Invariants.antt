use Rattle.std.proofs.Common.{◌≡◌, length, map}
use Rattle.dml_tree.specs.inside.Scanning.{looked_up}
use Rattle.dml_tree.proofs.word.look_up.Given as goal

abbrev pub invariant-loop-table : goal.invariant-loop-table
invariant-loop-table l = looked_up (map (λ k. (k.0.now, k.1)) l.table) l.written ≡ looked_up (map (λ k. (k.0.now, k.1)) l.initial.table) l.written

abbrev pub decreases-loop-table : goal.decreases-loop-table
decreases-loop-table l = length l.table
