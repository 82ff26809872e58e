use Rattle.std.proofs.Common.{◌≡◌, ◌++◌, drop}
use Rattle.mv_core.proofs.opening.definitions_of.Given as goal

abbrev pub invariant-loop-at : goal.invariant-loop-at
invariant-loop-at l = l.definitions.items ++ drop l.at l.catalogue ≡ l.catalogue
