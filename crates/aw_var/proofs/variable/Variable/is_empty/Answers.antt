use Rattle.aw_var.proofs.Valid.{variable_valid, empty_variable}
use Rattle.aw_var.proofs.variable.Variable.is_empty.Goals as goal

pub returns-clause-empty : goal.returns-clause-empty
returns-clause-empty c = empty_variable c.self.inside.slots c.self.inside.cells c.args.self.now c.is_empty.result c.self.view_is c.is_empty.ensures.empty

pub returns-clause-valid : goal.returns-clause-valid
returns-clause-valid c = variable_valid c.self.inside.slots c.self.inside.cells c.args.self.now c.self.invariant c.self.view_is c.is_empty.ensures.valid
