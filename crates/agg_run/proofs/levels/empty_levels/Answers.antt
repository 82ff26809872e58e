use Rattle.std.proofs.Common.{◌+◌, ◌∙◌, ap, length}
use Rattle.agg_run.specs.inside.Levels.{Levels, on_level}
use Rattle.agg_run.proofs.Rising.{on_level-empty, length-pushed}
use Rattle.agg_run.proofs.levels.empty_levels.Goals as goal

pub loop-preserved : goal.loop-preserved
loop-preserved c = (
  ap (λ (l : Levels). length l) c.in_ok-push.ensures.items ∙ length-pushed c.loop.levels.items c.new.result ∙ ap (λ n. n + 1) c.loop.invariant.0,
  λ depth key.
      ap (λ (l : Levels). on_level l depth key) c.in_ok-push.ensures.items ∙ on_level-empty c.loop.levels.items c.new.result depth key c.new.ensures.empty c.loop.invariant.1,
)
