use Rattle.aw_var.proofs.Iterating.{gives_in_order}
use Rattle.aw_var.proofs.variable.Variable.iter.Goals as goal

pub returns-clause-runs : goal.returns-clause-runs
returns-clause-runs c = gives_in_order
