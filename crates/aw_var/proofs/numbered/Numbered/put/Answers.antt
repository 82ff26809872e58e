use Rattle.std.proofs.Common.{◌∙◌, ap, Ok}
use Rattle.aw_page.specs.Fitting.{is_of_kind}
use Rattle.aw_var.specs.inside.NumberedMap.{NumberedMap}
use Rattle.aw_var.proofs.Puts.{cells-after}
use Rattle.aw_var.proofs.Counting.{count_most, before_most, AreCounted-put}
use Rattle.aw_var.proofs.numbered.Numbered.put.Goals as goal

pub recounted-self-inside-requires-clause-few : goal.recounted-self-inside-requires-clause-few
recounted-self-inside-requires-clause-few c = count_most c.self.inside.kind c.self.inside.sheets.entries c.self.inside.count c.len-pages.result c.self.invariant c.len-pages.ensures.len

pub recounted-self-inside-requires-clause-some : goal.recounted-self-inside-requires-clause-some
recounted-self-inside-requires-clause-some c = before_most c.self.inside.kind c.self.inside.sheets.entries c.self.inside.count c.args.number c.in_ok-before.before c.self.invariant c.in_ok-before.ensures.before

pub invariant_of-self-2 : goal.invariant_of-self-2
invariant_of-self-2 c = AreCounted-put c.self.inside.kind c.self.inside.sheets.entries c.change.new.sheets.entries c.self.inside.count c.recounted-self-inside.result c.args.number c.in_ok-before.before c.args.cell c.self.invariant
    (ap (λ (m : NumberedMap). is_of_kind m.kind c.args.cell) c.self.view_is ∙ c.requires) c.in_ok-before.ensures.ok c.in_ok-before.ensures.before c.recounted-self-inside.ensures

pub returns-clause-ok : goal.returns-clause-ok
returns-clause-ok c = cells-after c.self.inside.kind c.self.inside.sheets.entries c.change.new.sheets.entries c.args.number c.args.cell (Ok tt) c.args.self.now c.self.invariant.sheets
    (ap (λ (m : NumberedMap). is_of_kind m.kind c.args.cell) c.self.view_is ∙ c.requires) c.in_ok-before.ensures.ok c.self.view_is
