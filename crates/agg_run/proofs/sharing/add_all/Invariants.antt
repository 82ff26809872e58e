use Rattle.std.proofs.Common.{ℕ, ◌≡◌, List}
use Rattle.agg_run.specs.inside.Folds.{with}
use Rattle.agg_run.specs.inside.Levels.{fold_at}
use Rattle.agg_run.specs.inside.Sharing.{gathered}
use Rattle.agg_run.proofs.sharing.add_all.Given as goal

abbrev pub invariant-loop-at : goal.invariant-loop-at
invariant-loop-at l = (key : List ℕ) → with l.operator (fold_at l.above.entries key) (gathered l.operator l.at-iterator key) ≡ with l.operator (fold_at l.initial.above.entries key) (gathered l.operator l.sums.entries key)
