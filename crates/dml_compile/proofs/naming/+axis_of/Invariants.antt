use Rattle.std.proofs.Common.{length}
use Rattle.dml_compile.proofs.naming.+axis_of.Given as goal

abbrev pub decreases-axis_of : goal.decreases-axis_of
decreases-axis_of l = length l.fixes.now
