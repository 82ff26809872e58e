use Rattle.std.proofs.Common.{◌≡◌, ◌∙◌, sym, ap, arith}
use Rattle.dml_parse.proofs.BlockLoops.{map_first, map_more}
use Rattle.dml_parse.proofs.maps.map.Goals as goal

pub loop-tokens-init : goal.loop-tokens-init
loop-tokens-init c = (map_first _ _ _ _ _ c.in_ok-first.ensures.read c.new-lines.ensures c.in_ok-push.ensures.ok, omega arith)

pub loop-tokens-preserved : goal.loop-tokens-preserved
loop-tokens-preserved c = (c.loop-tokens.invariant.0 ∙ map_more _ _ _ _ _ (sym c.sees_word.ensures ∙ c.loop-tokens-test.true) c.in_ok-next.ensures.read c.in_ok-push-2.ensures.ok, omega arith)
