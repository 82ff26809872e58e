use Rattle.std.proofs.Common.{◌≡◌, ◌++◌, drop}
use Rattle.dml_compile.proofs.moving.put_inner.Given as goal

abbrev pub invariant-loop-fix : goal.invariant-loop-fix
invariant-loop-fix l = l.into.items ++ drop l.fix-index l.fixes ≡ l.initial.into.items ++ l.fixes
