use Rattle.std.proofs.Common.{◌==◌, List, ℕ, length, ap, ◌∙◌}
use Rattle.agg_run.proofs.Rising.{leaf_test}
use Rattle.agg_run.proofs.levels.is_leaf.Goals as goal

pub returns : goal.returns
returns c = c.is_empty.ensures ∙ ap (λ (l : List ℕ). length l == 0) c.children.ensures ∙ leaf_test c.args.tree.now c.args.slot
