use Rattle.std.proofs.Common.{◌≡◌, ◌++◌, drop, map}
use Rattle.ses_value.specs.Evaluating as spec
use Rattle.ses_value.proofs.selecting.target_selections.Given as goal

abbrev pub invariant-loop-dimension : goal.invariant-loop-dimension
invariant-loop-dimension l = l.selections ++ map (spec.list_for l.view l.to.fixes) (drop l.dimension-index l.dimensions) ≡ map (spec.list_for l.view l.to.fixes) l.dimensions
