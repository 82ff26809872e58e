use Rattle.std.proofs.Common.{◌≡◌, ◌∙◌, sym, ap, arith}
use Rattle.dml_parse.proofs.BlockLoops.{steps_from, steps_more}
use Rattle.dml_parse.proofs.blocks.Blocks.all.Goals as goal

pub loop-tokens-init : goal.loop-tokens-init
loop-tokens-init o c = (steps_from _ _ c.new-steps.ensures, omega arith)

pub loop-tokens-preserved : goal.loop-tokens-preserved
loop-tokens-preserved o c = (c.loop-tokens.invariant.0 ∙ steps_more _ _ _ _ _ (sym c.sees_step.ensures ∙ c.loop-tokens-test.true) c.in_ok-next.ensures.read c.in_ok-push.ensures.ok, omega arith)
