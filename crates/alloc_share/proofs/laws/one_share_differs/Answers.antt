use Rattle.alloc_share.proofs.SharesLaws.{one_share_differs}
use Rattle.alloc_share.proofs.laws.one_share_differs.Goals as goal

pub returns : goal.returns
returns c = one_share_differs
