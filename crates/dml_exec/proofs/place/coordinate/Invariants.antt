use Rattle.std.proofs.Common.{◌≡◌, length, take, drop}
use Rattle.dml_exec.specs.Meaning.{slots_of}
use Rattle.dml_exec.proofs.AxisSlots.{slots_behind}
use Rattle.dml_exec.proofs.place.coordinate.Given as goal

abbrev pub invariant-loop-at : goal.invariant-loop-at
invariant-loop-at l = record {
  len : length l.slots ≡ 6;
  same : slots_behind l.place l.fixed (take l.at l.slots) (drop l.at l.axes) ≡ slots_of l.place l.fixed l.axes;
}
