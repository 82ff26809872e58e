use Rattle.aw_var.specs.SameContents.{same_contents, same_contents-Decides}
use Rattle.aw_var.proofs.Unpacking.{same-variables, as_decided}
use Rattle.aw_var.proofs.variable.VariablePartialEq.eq.Goals as goal

pub returns-then-self-other-clause-equal : goal.returns-then-self-other-clause-equal
returns-then-self-other-clause-equal c = same-variables c.self.inside.slots c.other.inside.slots c.self.inside.cells c.other.inside.cells c.args.self.now c.args.other.now c.is_same.result c.self.invariant c.other.invariant c.self.view_is c.other.view_is c.if-self-other.true c.is_same.ensures

pub returns-then-self-other-clause-same : goal.returns-then-self-other-clause-same
returns-then-self-other-clause-same c = as_decided c.is_same.result (same_contents c.args.self.now c.args.other.now) _ (returns-then-self-other-clause-equal c) (same_contents-Decides c.args.self.now c.args.other.now)
