use Rattle.std.proofs.Common.{◌≡◌, ◌+◌, ◌-◌, suc, sym, ◌∙◌, arith}
use Rattle.agg_run.proofs.Depths.{depth_step}
use Rattle.agg_run.proofs.levels.depth.Goals as goal

pub loop-steps-preserved : goal.loop-steps-preserved
loop-steps-preserved c =
    let before = c.loop-steps.invariant in
    let left : c.args.most - c.loop-steps.steps ≡ suc (c.args.most - (c.loop-steps.steps + 1)) = omega (arith, c.loop-steps-test.true) in
    let step = depth_step c.args.tree.now (c.args.most - c.loop-steps.steps) (c.args.most - (c.loop-steps.steps + 1)) c.loop-steps.value c.in-Some.parent left (sym c.parent.ensures.parent ∙ c.in-Some.is) in
    (omega (arith, c.loop-steps-test.true), omega (arith, before.1, step), λ _. c.parent.ensures.valid)
