use Rattle.std.proofs.Common.{◌≡◌, drop}
use Rattle.agg_map.specs.Maps as spec
use Rattle.agg_map.specs.Sound.{IsSound}
use Rattle.agg_map.specs.inside.Telling.{lines_behind}
use Rattle.agg_map.proofs.reading.lines_in.Given as goal

abbrev pub invariant-loop-line : goal.invariant-loop-line
invariant-loop-line l =
    (lines_behind l.catalogue (record { lines = l.lines; dimensions = l.dimensions }) (drop l.line-index l.written) ≡ spec.lines_in l.catalogue l.written)
    × IsSound l.lines l.dimensions
