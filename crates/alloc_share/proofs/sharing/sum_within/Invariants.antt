use Rattle.std.proofs.Common.{◌≡◌, ◌≤◌, ◌*◌, take, unsigned_abs, Some}
use Rattle.alloc_share.specs.Shares.{shares_by}
use Rattle.alloc_share.specs.inside.Sums.{sum_within}
use Rattle.alloc_share.proofs.sharing.sum_within.Given as goal

abbrev pub invariant-loop-weight : goal.invariant-loop-weight
invariant-loop-weight l =
    (sum_within l.limit (shares_by l.how l.amount l.all_parts (take l.weight-index l.weights)) ≡ Some l.sum)
    × (unsigned_abs l.sum ≤ l.weight-index * 9223372036854775807)
