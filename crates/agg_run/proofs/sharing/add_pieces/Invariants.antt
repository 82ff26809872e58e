use Rattle.std.proofs.Common.{ℕ, ◌≡◌, List, drop, IfOk}
use Rattle.std.specs.List.{AllZip}
use Rattle.agg_run.specs.inside.Folds.{with, summed}
use Rattle.agg_run.specs.inside.Levels.{Folds, fold_at}
use Rattle.agg_run.specs.inside.Sharing.{gathered, AreSumsOf}
use Rattle.agg_run.proofs.sharing.add_pieces.Given as goal

-- what is added, with what is left to add, is all
abbrev pub invariant-loop-number : goal.invariant-loop-number
invariant-loop-number l = (parts : List Folds) → AllZip (λ part sums. IfOk sums (λ of. AreSumsOf l.operator part of.entries)) parts l.pieces →
    (key : List ℕ) → with l.operator (fold_at l.above.entries key) (summed l.operator (λ part. gathered l.operator part key) (drop l.number parts)) ≡ with l.operator (fold_at l.initial.above.entries key) (summed l.operator (λ part. gathered l.operator part key) parts)
