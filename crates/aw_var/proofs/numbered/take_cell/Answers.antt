use Rattle.std.proofs.Common.{sym, subst, ℕ}
use Rattle.std.specs.BTreeMap.{BTreeMap}
use Rattle.aw_cell.specs.declared.cell.Cell.TheVariants.{Na}
use Rattle.aw_var.specs.inside.Sheets.{SheetCells, PutsCell}
use Rattle.aw_var.proofs.Puts.{PutsCell-none, on_err, kept-after}
use Rattle.aw_var.proofs.numbered.take_cell.Goals as goal

pub returns-in_default-clause-ok : goal.returns-in_default-clause-ok
returns-in_default-clause-ok c =
    subst (λ (m : BTreeMap ℕ SheetCells). PutsCell c.args.kind c.args.sheets.now.entries m.entries c.args.page c.args.at Na) (sym c.get_mut.follows.holds-at-none)
    (PutsCell-none c.args.kind c.args.sheets.now.entries c.args.page c.args.at c.requires.sheets c.in_default.ensures.value)

pub returns-in_err-put-clause-err : goal.returns-in_err-put-clause-err
returns-in_err-put-clause-err c = on_err c.from_residual.result (kept-after c.args.sheets.now (c.get_mut.follows.lender c.put.new.self) c.args.page c.in-Some.sheet.now c.put.new.self c.in-Some.ensures.value c.in_err-put.ensures.err (c.get_mut.follows.holds c.put.new.self))
