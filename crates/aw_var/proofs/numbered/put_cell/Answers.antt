use Rattle.std.proofs.Common.{sym, ap, ◌∙◌, Option, Ok}
use Rattle.std.proofs.lemmas.Option.{get_or_from_slice_get}
use Rattle.aw_cell.specs.declared.cell.Cell.TheVariants.{Na}
use Rattle.aw_var.specs.inside.Sheets.{SheetCells}
use Rattle.aw_var.specs.inside.Differences.{cell_on}
use Rattle.aw_var.proofs.Puts.{held-on, PutsCell-after, kept-after, on_err, PutsCell-inserted}
use Rattle.aw_var.proofs.numbered.put_cell.Goals as goal

pub put-requires-clause-fitting : goal.put-requires-clause-fitting
put-requires-clause-fitting c = held-on c.args.kind c.args.sheets.now.entries c.args.page c.in-Some.sheet.now c.args.cell c.requires.sheets c.in-Some.ensures.value c.requires.fitting

pub returns-in_err-put-clause-err : goal.returns-in_err-put-clause-err
returns-in_err-put-clause-err c = on_err c.from_residual.result (kept-after c.args.sheets.now (c.get_mut.follows.lender c.put.new.self) c.args.page c.in-Some.sheet.now c.put.new.self c.in-Some.ensures.value c.in_err-put.ensures.err (c.get_mut.follows.holds c.put.new.self))

pub returns-in-Some-clause-ok : goal.returns-in-Some-clause-ok
returns-in-Some-clause-ok c = PutsCell-after c.args.kind c.args.sheets.now (c.get_mut.follows.lender c.put.new.self) c.args.page c.args.at c.args.cell c.in-Some.sheet.now c.put.new.self (Ok tt) c.requires.sheets c.requires.place c.requires.present c.in-Some.ensures.value c.in_ok-put.ensures.ok (c.get_mut.follows.holds c.put.new.self)

pub returns-in-Some-clause-before : goal.returns-in-Some-clause-before
returns-in-Some-clause-before c =
    sym (get_or_from_slice_get c.in-Some.sheet.now.1 c.args.at c.get-before.result Na c.get-before.ensures.cell)
    ∙ ap (λ (s : Option SheetCells). cell_on s c.args.at) c.in-Some.ensures.value

pub returns-clause-ok : goal.returns-clause-ok
returns-clause-ok c = PutsCell-inserted c.args.kind c.args.sheets.now c.get_mut.follows.lender-at-none c.insert.new.self c.args.page c.args.at c.args.cell c.in_ok-sheet.sheet c.put-2.new.self c.get_mut.follows.holds-at-none c.requires.place c.requires.present c.in_default.ensures.value c.in_ok-sheet.ensures c.in_ok-put-2.ensures.ok c.in_ok-insert.ensures.ordered c.in_ok-insert.ensures.updates.0
