use Rattle.aw_var.proofs.PageCounts.{no_cells}
use Rattle.aw_var.proofs.Valid.{numbered_valid}
use Rattle.aw_var.proofs.numbered.Numbered.is_empty.Goals as goal

pub returns-clause-empty : goal.returns-clause-empty
returns-clause-empty c = no_cells c.self.inside.kind c.self.inside.sheets.entries c.args.self.now c.is_empty.result c.self.invariant.sheets c.self.view_is c.is_empty.ensures

pub returns-clause-valid : goal.returns-clause-valid
returns-clause-valid c = numbered_valid c.self.inside.kind c.self.inside.sheets.entries c.args.self.now c.self.invariant.sheets c.self.view_is
