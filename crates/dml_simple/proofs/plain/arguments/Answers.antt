use Rattle.std.proofs.Common.{◌∙◌, sym, arith}
use Rattle.dml_simple.proofs.Lists.{arguments_first, arguments_more}
use Rattle.dml_simple.proofs.plain.arguments.Goals as goal

pub loop-alloc-init : goal.loop-alloc-init
loop-alloc-init c = (arguments_first _ _ _ _ _ c.in_ok-first.ensures.read c.new-arguments.ensures c.in_ok-push.ensures.ok, omega arith)

pub loop-alloc-preserved : goal.loop-alloc-preserved
loop-alloc-preserved c = (c.loop-alloc.invariant.0 ∙ arguments_more _ _ _ _ _ _ (sym c.sees_symbol.ensures ∙ c.loop-alloc-test.true) c.in_ok-symbol.ensures.read c.in_ok-next.ensures.read c.in_ok-push-2.ensures.ok, omega arith)
