use Rattle.std.proofs.Common.{◌≡◌, ◌∙◌, sym, ap, arith}
use Rattle.dml_parse.proofs.BlockLoops.{ending_from, ending_more}
use Rattle.dml_parse.proofs.programs.with_locals.Goals as goal

pub loop-alloc-init : goal.loop-alloc-init
loop-alloc-init c = (ending_from _ _ _ _ c.new-steps.ensures, omega arith)

pub loop-alloc-preserved : goal.loop-alloc-preserved
loop-alloc-preserved c = (c.loop-alloc.invariant.0 ∙ ending_more _ _ _ _ _ _ _ (sym c.sees_step.ensures ∙ c.loop-alloc-test.true) c.in_ok-next.ensures.read c.in_ok-push.ensures.ok, omega arith)
