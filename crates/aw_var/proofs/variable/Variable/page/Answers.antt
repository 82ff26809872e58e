use Rattle.aw_var.proofs.PageCells.{page-none, page-cells}
use Rattle.aw_var.proofs.variable.Variable.page.Goals as goal

pub returns-clause-none : goal.returns-clause-none
returns-clause-none c = page-none c.self.inside.slots c.args.number c.self.inside.cells c.args.self.now _ c.self.invariant.below c.self.view_is c.page.ensures.none

pub returns-clause-cells : goal.returns-clause-cells
returns-clause-cells c = page-cells c.self.inside.slots c.args.number c.self.inside.cells c.args.self.now c.page.result c.self.invariant.below c.self.view_is c.page.ensures.cells
