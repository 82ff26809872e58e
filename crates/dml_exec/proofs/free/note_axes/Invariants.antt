use Rattle.std.proofs.Common.{◌≡◌, drop}
use Rattle.dml_exec.specs.Free.{free_in_axes, with_all}
use Rattle.dml_exec.proofs.free.note_axes.Given as goal

abbrev pub invariant-loop-axis : goal.invariant-loop-axis
invariant-loop-axis l = with_all l.free.items (free_in_axes (drop l.axis-index l.axes)) ≡ with_all l.initial.free.items (free_in_axes l.axes)
