use Rattle.std.proofs.Common.{ℕ, ◌≡◌, List, drop}
use Rattle.agg_run.specs.inside.Folds.{with}
use Rattle.agg_run.specs.inside.Levels.{fold_at}
use Rattle.agg_run.specs.inside.Sharing.{gathered}
use Rattle.agg_run.proofs.sharing.sums.Given as goal

abbrev pub invariant-loop-place : goal.invariant-loop-place
invariant-loop-place l = (key : List ℕ) → with l.operator (fold_at l.sums.entries key) (gathered l.operator (drop l.place l.cells) key) ≡ gathered l.operator l.cells key
