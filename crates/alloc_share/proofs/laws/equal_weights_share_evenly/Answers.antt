use Rattle.alloc_share.proofs.Mirrored.{equal_weights_share_evenly}
use Rattle.alloc_share.proofs.laws.equal_weights_share_evenly.Goals as goal

pub returns : goal.returns
returns c = equal_weights_share_evenly
