use Rattle.std.specs.Prelude.{◌≡◌, ◌<◌, IsTrue, Err}
use Rattle.aw_var.specs.declared.fault.VarFault.{VarFault}
use Rattle.std.proofs.Common.{◌∙◌, ap, sym, subst}
use Rattle.aw_cell.specs.declared.cell.Cell.{Cell}
use Rattle.aw_page.specs.Fitting.{is_of_kind}
use Rattle.aw_var.specs.CellMap.{Cells, set_at}
use Rattle.aw_var.specs.Pages.{page_count}
use Rattle.aw_var.specs.Variable.{Contents}
use Rattle.mv_view.proofs.Setting.{set_at-same, cell_at-kind}
use Rattle.mv_view.proofs.writing.within_pages.Goals as goal

pub set-requires-clause-kind : goal.set-requires-clause-kind
set-requires-clause-kind c = subst (λ (cell : Cell). IsTrue (is_of_kind c.args.variable.kind cell)) (sym c.get-cell.ensures) (cell_at-kind c.args.variable c.in-Some.at c.is_empty.ensures.valid)

pub returns-in-Ok-clause-value : goal.returns-in-Ok-clause-value
returns-in-Ok-clause-value c =
    let same = ap (set_at c.args.variable.cells c.in-Some.at) c.get-cell.ensures ∙ set_at-same c.args.variable.cells c.in-Some.at c.is_empty.ensures.valid.map in
    c.in-Ok.ensures.ok ∙ ap (λ (cells : Cells). let v : Contents = record c.args.variable { cells = cells } in v) same

pub returns-in-Err-Full-clause-full : goal.returns-in-Err-Full-clause-full
returns-in-Err-Full-clause-full c =
    let same = ap (set_at c.args.variable.cells c.in-Some.at) c.get-cell.ensures ∙ set_at-same c.args.variable.cells c.in-Some.at c.is_empty.ensures.valid.map in
    λ e. subst (λ (cells : Cells). 65536 < page_count cells) same (c.set.ensures.full.0 (subst (λ (fault : VarFault). c.set.result ≡ Err fault) c.in-Err-Full.field-0-is c.in-Err-Full.is))
