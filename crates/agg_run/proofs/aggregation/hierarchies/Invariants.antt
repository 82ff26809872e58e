use Rattle.std.proofs.Common.{◌≡◌, take, drop}
use Rattle.agg_run.specs.Aggregates.{first_line_with_loop}
use Rattle.agg_run.specs.Calls.{lines_of}
use Rattle.agg_run.specs.inside.Lines.{trees_of}
use Rattle.agg_run.proofs.aggregation.hierarchies.Given as goal

abbrev pub invariant-loop-line : goal.invariant-loop-line
invariant-loop-line l = (l.trees ≡ trees_of (take l.line (lines_of l.map l.over l.dimensions l.parents)))
    × (first_line_with_loop l.line (drop l.line (lines_of l.map l.over l.dimensions l.parents)) ≡ first_line_with_loop 0 (lines_of l.map l.over l.dimensions l.parents))
