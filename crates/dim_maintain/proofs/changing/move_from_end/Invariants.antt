use Rattle.std.proofs.Common.{◌≡◌}
use Rattle.dim_maintain.proofs.Turning.{Turned}
use Rattle.dim_maintain.proofs.changing.move_from_end.Given as goal

abbrev pub invariant-loop : goal.invariant-loop
invariant-loop l = Turned l.fn.made.entries l.at l.counter l.made.entries × (l.made.next ≡ l.fn.made.next)
