use Rattle.std.proofs.Common.{◌∙◌, sym, arith}
use Rattle.dml_exprs.proofs.Lists.{names_first, names_more}
use Rattle.dml_exprs.proofs.targets.names.Goals as goal

pub loop-tokens-init : goal.loop-tokens-init
loop-tokens-init c = (names_first _ _ _ _ _ c.in_ok-first.ensures.read c.new-names.ensures c.in_ok-push.ensures.ok, omega arith)

pub loop-tokens-preserved : goal.loop-tokens-preserved
loop-tokens-preserved c = (c.loop-tokens.invariant.0 ∙ names_more _ _ _ _ _ (sym c.sees_any.ensures ∙ c.loop-tokens-test.true) c.in_ok-next.ensures.read c.in_ok-push-2.ensures.ok, omega arith)
