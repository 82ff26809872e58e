use Rattle.std.proofs.Common.{◌∙◌, sym, arith}
use Rattle.dml_exprs.proofs.Chains.{or_first, or_more, taken, same_left}
use Rattle.dml_exprs.proofs.exprs.Expressions.disjunction.Goals as goal

pub loop-left-init : goal.loop-left-init
loop-left-init o c = (or_first _ _ _ c.in_ok-left.ensures.read, omega arith)

pub loop-left-preserved : goal.loop-left-preserved
loop-left-preserved o c = (c.loop-left.invariant.0 ∙ or_more _ _ _ _ _ _ (sym c.sees_word.ensures ∙ c.loop-left-test.true) (taken _ c.word.result _ c.word.new.self.rest.now c.word.ensures.read c.in_ok-first.ensures.0) (taken _ c.conjunction-in-loop-left.result _ c.conjunction-in-loop-left.new.tokens.rest.now c.conjunction-in-loop-left.ensures.read c.in_ok-first-2.ensures.0) (same_left _ _ _ _ _ _ c.in_ok-first.ensures.1 c.in_ok-first-2.ensures.1 c.in_ok-left-2.ensures), omega arith)
