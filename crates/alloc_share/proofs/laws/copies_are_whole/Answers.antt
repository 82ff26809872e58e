use Rattle.alloc_share.proofs.SharesLaws.{copies_are_whole}
use Rattle.alloc_share.proofs.laws.copies_are_whole.Goals as goal

pub returns : goal.returns
returns c = copies_are_whole
