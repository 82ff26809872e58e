use Rattle.std.proofs.Common.{◌≡◌, length, take}
use Rattle.dml_loop.specs.Evaluation.{slots_at}
use Rattle.dml_loop.proofs.evaluation.coordinate.Given as goal

abbrev pub invariant-loop-at : goal.invariant-loop-at
invariant-loop-at l = record {
  len : length l.slots ≡ 6;
  done : take l.at l.slots ≡ slots_at (take l.at l.place);
}
