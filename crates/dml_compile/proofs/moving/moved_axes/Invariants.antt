use Rattle.std.proofs.Common.{◌≡◌, ◌++◌, map, drop}
use Rattle.dml_compile.specs.inside.Emitted.{moved_axis}
use Rattle.dml_compile.proofs.moving.moved_axes.Given as goal

abbrev pub invariant-loop-axis : goal.invariant-loop-axis
invariant-loop-axis l = l.moved.items ++ map (moved_axis l.to.fixes.now l.to.base l.to.first) (drop l.axis-index l.axes) ≡ map (moved_axis l.to.fixes.now l.to.base l.to.first) l.axes
