use Rattle.std.proofs.Common.{ℕ, ◌≡◌, ◌+◌, List, length}
use Rattle.agg_run.specs.inside.Folds.{with, summed}
use Rattle.agg_run.specs.inside.Levels.{on_level, placed_on}
use Rattle.agg_run.proofs.levels.leaf_levels.Given as goal

-- what was placed, with what is left to place, is all
abbrev pub invariant-loop-at : goal.invariant-loop-at
invariant-loop-at l = (length l.levels.items ≡ l.height + 1) × ((depth : ℕ) (key : List ℕ) →
    with l.operator (on_level l.levels.items depth key) (summed l.operator (placed_on l.tree l.place depth key) l.at-iterator) ≡ summed l.operator (placed_on l.tree l.place depth key) l.numbers.entries)
