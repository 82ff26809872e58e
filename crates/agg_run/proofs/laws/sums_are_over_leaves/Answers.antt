use Rattle.agg_run.proofs.SumLaw.{sums_law}
use Rattle.agg_run.proofs.laws.sums_are_over_leaves.Goals as goal

pub returns : goal.returns
returns c = sums_law
