use Rattle.std.proofs.Common.{◌≡◌, [], drop}
use Rattle.dml_exec.specs.Free.{free_in, with_all}
use Rattle.dml_exec.proofs.free.free_dimensions.Given as goal

abbrev pub invariant-loop-op : goal.invariant-loop-op
invariant-loop-op l = with_all l.free.items (free_in (drop l.op-index l.ops)) ≡ with_all [] (free_in l.ops)
