use Rattle.std.proofs.Common.{◌≡◌, drop}
use Rattle.dml_loop.specs.Fixes.{slots_of_fixes}
use Rattle.dml_loop.specs.inside.Progress.{behind}
use Rattle.dml_loop.proofs.fixes.fixed_slots.Given as goal

abbrev pub invariant-loop-fix : goal.invariant-loop-fix
invariant-loop-fix g l = behind l.fixed (slots_of_fixes (g.S.Slots.slot_of l.slots) (drop l.fix-index l.fixes)) ≡ slots_of_fixes (g.S.Slots.slot_of l.slots) l.fixes
