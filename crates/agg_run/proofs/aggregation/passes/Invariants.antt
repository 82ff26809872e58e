use Rattle.std.proofs.Common.{ℕ, ◌≡◌, List, length, drop}
use Rattle.agg_run.specs.Aggregates.{passes}
use Rattle.agg_run.specs.inside.Levels.{held_at}
use Rattle.agg_run.specs.inside.Lines.{lines_with}
use Rattle.agg_run.specs.inside.Passes.{HaveRoom}
use Rattle.agg_run.proofs.aggregation.passes.Given as goal

-- the lines that are left give the same as all
abbrev pub invariant-loop-number : goal.invariant-loop-number
invariant-loop-number g l = ((key : List ℕ) → length key ≡ length l.over → passes l.kind (drop l.number (lines_with l.map.lines l.map.dimensions l.over l.trees)) (held_at l.numbers.entries) key ≡ passes l.kind (lines_with l.map.lines l.map.dimensions l.over l.trees) (held_at l.initial.numbers.entries) key)
    × HaveRoom (length l.over) (drop l.number (lines_with l.map.lines l.map.dimensions l.over l.trees)) (held_at l.numbers.entries)
