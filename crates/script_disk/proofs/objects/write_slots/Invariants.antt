use Rattle.std.proofs.Common.{◌≤◌, length, drop}
use Rattle.std.specs.List.{flat_map}
use Rattle.script_meaning.specs.Dump.{slot_line}
use Rattle.script_disk.proofs.Written.{HasPut}
use Rattle.script_disk.proofs.objects.write_slots.Given as goal

abbrev pub invariant-loop-at : goal.invariant-loop-at
invariant-loop-at g l = record {
  within : l.at ≤ length l.slots;
  has : HasPut (g.K.Sink.written l.initial.out) (g.K.Sink.written l.out) (flat_map slot_line (drop l.at l.slots)) (flat_map slot_line l.slots);
  later : g.K.Sink.faults l.initial.out ≤ g.K.Sink.faults l.out;
}
