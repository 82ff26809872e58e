use Rattle.std.proofs.Common.{int_lt}
use Rattle.std.specs.List.{IsFirstBest}
use Rattle.alloc_share.proofs.places.first_greatest.Given as goal

abbrev pub invariant-loop-other : goal.invariant-loop-other
invariant-loop-other l = IsFirstBest (λ x y. int_lt y x) l.weights l.other l.place
