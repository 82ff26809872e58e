use Rattle.std.proofs.Common.{◌∙◌, sym, arith}
use Rattle.dml_simple.proofs.Lists.{ranges_first, ranges_more}
use Rattle.dml_simple.proofs.selects.ranges.Goals as goal

pub loop-tokens-init : goal.loop-tokens-init
loop-tokens-init c = (ranges_first _ _ _ _ _ c.in_ok-first.ensures.read c.new-ranges.ensures c.in_ok-push.ensures.ok, omega arith)

pub loop-tokens-preserved : goal.loop-tokens-preserved
loop-tokens-preserved c = (c.loop-tokens.invariant.0 ∙ ranges_more _ _ _ _ _ (sym c.sees_any.ensures ∙ c.loop-tokens-test.true) c.in_ok-next.ensures.read c.in_ok-push-2.ensures.ok, omega arith)
