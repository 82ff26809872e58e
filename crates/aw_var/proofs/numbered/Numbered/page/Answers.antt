use Rattle.aw_var.proofs.PageCells.{lent-none, lent-cells, none-lent}
use Rattle.std.proofs.Common.{refl}
use Rattle.aw_var.proofs.numbered.Numbered.page.Goals as goal

pub returns-in-Some-clause-none : goal.returns-in-Some-clause-none
returns-in-Some-clause-none c = lent-none c.self.inside.kind c.self.inside.sheets.entries c.args.number c.in-Some.sheet.now c.args.self.now _ c.self.invariant.sheets c.self.view_is c.in-Some.ensures.value c.plain.ensures.none

pub returns-in-Some-clause-cells : goal.returns-in-Some-clause-cells
returns-in-Some-clause-cells c = lent-cells c.self.inside.kind c.self.inside.sheets.entries c.args.number c.in-Some.sheet.now c.args.self.now c.plain.result c.self.invariant.sheets c.self.view_is c.in-Some.ensures.value c.plain.ensures.cells

pub returns-in-None-clause-none : goal.returns-in-None-clause-none
returns-in-None-clause-none c = (λ _. none-lent c.self.inside.kind c.self.inside.sheets.entries c.args.number c.args.self.now c.self.invariant.sheets c.self.view_is c.in-None.ensures.value, λ _. refl)
