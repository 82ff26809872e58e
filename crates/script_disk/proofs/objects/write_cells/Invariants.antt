use Rattle.std.proofs.Common.{◌≤◌}
use Rattle.std.specs.List.{flat_map}
use Rattle.script_meaning.specs.Dump.{cell_line}
use Rattle.script_disk.proofs.Written.{HasPut}
use Rattle.script_disk.proofs.objects.write_cells.Given as goal

abbrev pub invariant-loop-key : goal.invariant-loop-key
invariant-loop-key g l = record {
  has : HasPut (g.K.Sink.written l.initial.out) (g.K.Sink.written l.out) (flat_map cell_line l.key-iterator) (flat_map cell_line l.cells.cells);
  later : g.K.Sink.faults l.initial.out ≤ g.K.Sink.faults l.out;
}
