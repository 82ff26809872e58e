use Rattle.std.proofs.Common.{◌≡◌, take}
use Rattle.dim_maintain.specs.Maintained.{deleted}
use Rattle.dim_maintain.proofs.changing.with_deleted.Given as goal

abbrev pub invariant-loop-name : goal.invariant-loop-name
invariant-loop-name l = l.made ≡ deleted l.dimension (take l.name-index l.names)
