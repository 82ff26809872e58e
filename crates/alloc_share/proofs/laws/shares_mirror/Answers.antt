use Rattle.alloc_share.proofs.Mirrored.{shares_mirror}
use Rattle.alloc_share.proofs.laws.shares_mirror.Goals as goal

pub returns : goal.returns
returns c = shares_mirror
