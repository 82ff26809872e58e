use Rattle.std.proofs.Common.{◌≡◌, [], take, drop}
use Rattle.dim_maintain.specs.Causes.{first_cause, new_cause}
use Rattle.dim_maintain.proofs.causes.first_new_cause.Given as goal

abbrev pub invariant-loop-at : goal.invariant-loop-at
invariant-loop-at l = first_cause (new_cause l.dimension) (take l.at l.names) (drop l.at l.names) ≡ first_cause (new_cause l.dimension) [] l.names
