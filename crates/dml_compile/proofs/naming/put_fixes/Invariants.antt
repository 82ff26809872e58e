use Rattle.std.proofs.Common.{◌≡◌, ◌++◌, drop}
use Rattle.dml_compile.specs.Compiled.{fixes_of}
use Rattle.dml_compile.proofs.naming.put_fixes.Given as goal

abbrev pub invariant-loop-fix : goal.invariant-loop-fix
invariant-loop-fix l = l.into.items ++ fixes_of (drop l.fix-index l.fixes) ≡ l.initial.into.items ++ fixes_of l.fixes
