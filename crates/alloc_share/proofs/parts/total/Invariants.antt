use Rattle.std.proofs.Common.{◌≡◌, ◌≤◌, ◌*◌, take, unsigned_abs}
use Rattle.alloc_share.specs.Shares.{total}
use Rattle.alloc_share.proofs.parts.total.Given as goal

abbrev pub invariant-loop-weight : goal.invariant-loop-weight
invariant-loop-weight l = (l.sum ≡ total (take l.weight-index l.weights)) × (unsigned_abs l.sum ≤ l.weight-index * 999999999999999999)
