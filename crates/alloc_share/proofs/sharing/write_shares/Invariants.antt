use Rattle.std.proofs.Common.{◌≡◌, ◌++◌, take, drop}
use Rattle.alloc_share.specs.Shares.{shares_by}
use Rattle.alloc_share.proofs.sharing.write_shares.Given as goal

abbrev pub invariant-loop-place : goal.invariant-loop-place
invariant-loop-place l = l.into ≡ shares_by l.how l.amount l.all_parts (take l.place l.weights) ++ drop l.place l.initial.into
