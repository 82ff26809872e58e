use Rattle.std.proofs.Common.{◌≡◌, take}
use Rattle.dim_maintain.proofs.Behind.{behind_all}
use Rattle.dim_maintain.proofs.changing.move_all_behind.Given as goal

abbrev pub invariant-loop-name : goal.invariant-loop-name
invariant-loop-name l = l.made ≡ behind_all l.fn.made (take l.name-index l.names)
