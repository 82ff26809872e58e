use Rattle.std.proofs.Common.{◌-◌, ◌+◌, ◌<◌, ◌≤◌, ◌≡◌}
use Rattle.aw_rel.specs.Hierarchy.{IsHierarchy}
use Rattle.agg_run.specs.inside.Levels.{depth_within}
use Rattle.agg_run.proofs.levels.depth.Given as goal

abbrev pub invariant-loop-steps : goal.invariant-loop-steps
invariant-loop-steps l = (l.steps ≤ l.most) × (l.steps + depth_within l.tree (l.most - l.steps) l.value ≡ depth_within l.tree l.most l.slot) × (0 < l.steps → IsHierarchy l.tree)

abbrev pub decreases-loop-steps : goal.decreases-loop-steps
decreases-loop-steps l = l.most - l.steps
