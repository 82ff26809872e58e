use Rattle.std.proofs.Common.{◌≡◌, ◌++◌, drop}
use Rattle.ses_value.specs.Evaluating as spec
use Rattle.ses_value.proofs.selecting.statuses.Given as goal

abbrev pub invariant-loop-dimension : goal.invariant-loop-dimension
invariant-loop-dimension l = l.selections ++ spec.lists_in l.view (drop l.dimension-index l.dimensions) ≡ spec.lists_in l.view l.dimensions
