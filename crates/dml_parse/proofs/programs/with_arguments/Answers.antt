use Rattle.std.proofs.Common.{◌≡◌, ◌∙◌, sym, ap, arith}
use Rattle.dml_parse.proofs.BlockLoops.{variables_from, variables_more}
use Rattle.dml_parse.proofs.programs.with_arguments.Goals as goal

pub loop-tokens-init : goal.loop-tokens-init
loop-tokens-init c = (variables_from _ _ _ c.new-variables.ensures, omega arith)

pub loop-tokens-preserved : goal.loop-tokens-preserved
loop-tokens-preserved c = (c.loop-tokens.invariant.0 ∙ variables_more _ _ _ _ _ _ _ _ (sym c.sees_word.ensures ∙ c.loop-tokens-test.true) c.in_ok-line.ensures.read c.in_ok-next.ensures.read c.in_ok-push.ensures.ok, omega arith)
