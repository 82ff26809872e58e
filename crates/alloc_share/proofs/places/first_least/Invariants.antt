use Rattle.std.proofs.Common.{int_lt}
use Rattle.std.specs.List.{IsFirstBest}
use Rattle.alloc_share.proofs.places.first_least.Given as goal

abbrev pub invariant-loop-other : goal.invariant-loop-other
invariant-loop-other l = IsFirstBest int_lt l.weights l.other l.place
