use Rattle.std.proofs.Common.{◌<◌, ◌≤◌}
use Rattle.aw_rel.specs.Hierarchy.{IsHierarchy}
use Rattle.agg_run.proofs.Heights.{AreNoDeeper}
use Rattle.agg_run.proofs.levels.height.Given as goal

abbrev pub invariant-loop-place : goal.invariant-loop-place
invariant-loop-place l = (l.height ≤ l.most) × AreNoDeeper l.tree l.dimension.entries l.place l.height × (0 < l.place → IsHierarchy l.tree)
