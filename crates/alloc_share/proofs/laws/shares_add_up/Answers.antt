use Rattle.alloc_share.proofs.SharesLaws.{shares_add_up}
use Rattle.alloc_share.proofs.laws.shares_add_up.Goals as goal

pub returns : goal.returns
returns c = shares_add_up
