use Rattle.std.proofs.Common.{ℕ, ◌≡◌, List, length, None}
use Rattle.agg_run.specs.inside.Levels.{on_level}
use Rattle.agg_run.proofs.levels.empty_levels.Given as goal

abbrev pub invariant-loop : goal.invariant-loop
invariant-loop l = (length l.levels.items ≡ l.counter) × ((depth : ℕ) (key : List ℕ) → on_level l.levels.items depth key ≡ None)
