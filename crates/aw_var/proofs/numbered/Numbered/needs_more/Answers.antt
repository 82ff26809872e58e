use Rattle.std.proofs.Common.{arith}
use Rattle.aw_var.proofs.PageCounts.{pages-most, not_more}
use Rattle.aw_var.proofs.numbered.Numbered.needs_more.Goals as goal

pub returns-else-len-most : goal.returns-else-len-most
returns-else-len-most c =
    let most = pages-most c.self.inside.kind c.self.inside.sheets.entries c.args.number c.args.cell.now c.args.self.now c.self.invariant.sheets c.self.view_is c.requires in
    not_more c.args.most _ c.len.result (omega arith) (omega (arith, most, c.len.ensures.len))
