use Rattle.std.proofs.Common.{Option, ◌%◌, sym, ap, ◌∙◌}
use Rattle.std.proofs.lemmas.Option.{get_or_from_slice_get}
use Rattle.aw_cell.specs.declared.cell.Cell.TheVariants.{Na}
use Rattle.aw_var.specs.inside.NumberedMap.{NumberedMap, cell_of}
use Rattle.aw_var.specs.inside.Sheets.{SheetCells}
use Rattle.aw_var.specs.inside.Differences.{cell_on}
use Rattle.aw_var.proofs.Sheets.{cell_of-all}
use Rattle.aw_var.proofs.numbered.Numbered.get.Goals as goal

pub returns-in-Some : goal.returns-in-Some
returns-in-Some c =
    sym (get_or_from_slice_get c.in-Some.sheet.now.1 (c.args.number % 64) c.get-in-Some.result Na c.get-in-Some.ensures.cell)
    ∙ ap (λ (s : Option SheetCells). cell_on s (c.args.number % 64)) c.in-Some.ensures.value
    ∙ sym (cell_of-all c.self.inside.kind c.args.number c.self.inside.sheets.entries c.self.invariant.sheets)
    ∙ ap (λ (m : NumberedMap). cell_of m.cells c.args.number) c.self.view_is

pub returns-in-None : goal.returns-in-None
returns-in-None c =
    ap (λ (s : Option SheetCells). cell_on s (c.args.number % 64)) c.in-None.ensures.value
    ∙ sym (cell_of-all c.self.inside.kind c.args.number c.self.inside.sheets.entries c.self.invariant.sheets)
    ∙ ap (λ (m : NumberedMap). cell_of m.cells c.args.number) c.self.view_is
