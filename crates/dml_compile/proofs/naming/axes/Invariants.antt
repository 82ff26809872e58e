use Rattle.std.proofs.Common.{◌≡◌, ◌++◌, map, drop}
use Rattle.dml_compile.specs.inside.Emitted.{axis_of}
use Rattle.dml_compile.proofs.naming.axes.Given as goal

abbrev pub invariant-loop-dimension : goal.invariant-loop-dimension
invariant-loop-dimension l = l.axes.items ++ map (axis_of l.taken.fixes l.first) (drop l.dimension-index l.dimension-items) ≡ map (axis_of l.taken.fixes l.first) l.dimension-items
