use Rattle.std.proofs.Common.{◌≡◌, ◌++◌, [], not, map, filter, take, drop}
use Rattle.dml_kinds.specs.FreeDimensions.{appearing, first_appearances}
use Rattle.dml_kinds.proofs.dimensions.first_appearances.Given as goal

abbrev pub invariant-loop-dimension : goal.invariant-loop-dimension
invariant-loop-dimension l = l.found.items ++ appearing l.found.items (drop l.dimension-index l.all) ≡ first_appearances l.all
