use Rattle.std.proofs.Common.{◌≤◌, length, drop}
use Rattle.std.specs.List.{flat_map}
use Rattle.script_meaning.specs.Dump.{value_line}
use Rattle.script_disk.proofs.Written.{HasPut}
use Rattle.script_disk.proofs.objects.write_values.Given as goal

abbrev pub invariant-loop-at : goal.invariant-loop-at
invariant-loop-at g l = record {
  within : l.at ≤ length l.values;
  has : HasPut (g.K.Sink.written l.initial.out) (g.K.Sink.written l.out) (flat_map value_line (drop l.at l.values)) (flat_map value_line l.values);
  later : g.K.Sink.faults l.initial.out ≤ g.K.Sink.faults l.out;
}
