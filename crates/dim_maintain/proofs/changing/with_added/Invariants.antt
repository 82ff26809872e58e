use Rattle.std.proofs.Common.{◌≡◌, take}
use Rattle.dim_maintain.proofs.Adding.{added_at}
use Rattle.dim_maintain.proofs.changing.with_added.Given as goal

abbrev pub invariant-loop-at : goal.invariant-loop-at
invariant-loop-at l = l.made ≡ added_at l.dimension (take l.at l.names) l.first
