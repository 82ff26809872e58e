use Rattle.std.proofs.Common.{◌≤◌, drop}
use Rattle.script_meaning.specs.Dump.{dumped}
use Rattle.script_disk.proofs.Written.{HasPut}
use Rattle.script_disk.proofs.objects.write_objects.Given as goal

abbrev pub invariant-loop-object : goal.invariant-loop-object
invariant-loop-object g l = record {
  has : HasPut (g.K.Sink.written l.initial.out) (g.K.Sink.written l.out) (dumped (drop l.object l.catalogue) (drop l.object l.store.table.objects)) (dumped l.catalogue l.store.table.objects);
  later : g.K.Sink.faults l.initial.out ≤ g.K.Sink.faults l.out;
}
