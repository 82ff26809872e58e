use Rattle.std.proofs.Common.{◌∙◌, sym, arith}
use Rattle.dml_exprs.proofs.Chains.{sum_first, sum_more, taken, same_left}
use Rattle.dml_exprs.proofs.exprs.Expressions.sum.Goals as goal

pub loop-left-init : goal.loop-left-init
loop-left-init o c = (sum_first _ _ _ c.in_ok-left.ensures.read, omega arith)

pub loop-left-preserved : goal.loop-left-preserved
loop-left-preserved o c = (c.loop-left.invariant.0 ∙ sum_more _ _ _ _ _ _ _ (sym c.sees_sign.ensures ∙ c.loop-left-test.true) (taken _ c.additive.result _ c.additive.new.self.rest.now c.additive.ensures.read c.in_ok-first.ensures.0) (taken _ c.product-in-loop-left.result _ c.product-in-loop-left.new.tokens.rest.now c.product-in-loop-left.ensures.read c.in_ok-first-2.ensures.0) (same_left _ _ _ _ _ _ c.in_ok-first.ensures.1 c.in_ok-first-2.ensures.1 c.in_ok-left-2.ensures), omega arith)
