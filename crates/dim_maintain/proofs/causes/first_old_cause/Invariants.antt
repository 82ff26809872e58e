use Rattle.std.proofs.Common.{◌≡◌, [], take, drop}
use Rattle.dim_maintain.specs.Causes.{first_cause, old_cause}
use Rattle.dim_maintain.proofs.causes.first_old_cause.Given as goal

abbrev pub invariant-loop-at : goal.invariant-loop-at
invariant-loop-at l = first_cause (old_cause l.dimension) (take l.at l.names) (drop l.at l.names) ≡ first_cause (old_cause l.dimension) [] l.names
