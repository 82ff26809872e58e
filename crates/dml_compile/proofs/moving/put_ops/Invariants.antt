use Rattle.std.proofs.Common.{◌≡◌, ◌++◌, map, drop}
use Rattle.dml_compile.specs.inside.Emitted.{moved}
use Rattle.dml_compile.proofs.moving.put_ops.Given as goal

abbrev pub invariant-loop-op : goal.invariant-loop-op
invariant-loop-op l = l.into.items ++ map (moved l.to.fixes.now l.to.start l.to.base l.to.first) (drop l.op-index l.ops) ≡ l.initial.into.items ++ map (moved l.to.fixes.now l.to.start l.to.base l.to.first) l.ops
