use Rattle.std.proofs.Common.{arith}
use Rattle.aw_lists.proofs.laws.counts_rise.Goals as goal

pub returns : goal.returns
returns c count = ((λ below. omega arith), (λ at. omega arith))
