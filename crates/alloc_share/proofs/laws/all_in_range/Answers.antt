use Rattle.alloc_share.proofs.SharesLaws.{all_in_range}
use Rattle.alloc_share.proofs.laws.all_in_range.Goals as goal

pub returns : goal.returns
returns c = all_in_range
