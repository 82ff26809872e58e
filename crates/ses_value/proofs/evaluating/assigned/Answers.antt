use Rattle.std.proofs.Common.{rules, ◌≡◌, ◌∙◌, ◌≤◌, ℕ, List, length, Result, Ok, Err, sym, ap, subst}
use Rattle.aw_var.specs.CellMap.{Cells}
use Rattle.dml_loop.specs.declared.fault.LoopFault.{LoopFault}
use Rattle.dml_loop.specs.Fixes.{slots_of_fixes, Answers}
use Rattle.ses_value.specs.Evaluating.{target_lists, assigned_in}
use Rattle.ses_value.specs.Seeing.{slot_in}
use Rattle.ses_value.proofs.Evaluated.{assign_runs, cells_refused, cells_answer}
use Rattle.ses_value.proofs.evaluating.assigned.Goals as goal

pub stored_cells-requires-clause-few : goal.stored_cells-requires-clause-few
stored_cells-requires-clause-few c =
    let same = c.as_slice-3.ensures.value ∙ c.in_ok-lists.ensures ∙ c.as_slice-2.ensures in
    subst (λ (lists : List (ℕ × List ℕ)). length lists ≤ 6) (sym same) c.in_ok-selections.ensures.few

pub stored_cells-requires-clause-runs : goal.stored_cells-requires-clause-runs
stored_cells-requires-clause-runs c =
    let are : c.as_slice-3.result.now ≡ target_lists c.args.view.now c.args.to.now = c.as_slice-3.ensures.value ∙ c.in_ok-lists.ensures ∙ c.as_slice-2.ensures ∙ c.in_ok-selections.ensures.lists in
    assign_runs c.args.view.now c.args.catalogue.now c.args.expression.now c.in_ok-prepared.prepared.code c.in_ok-prepared.prepared.fixed c.in_ok-prepared.ensures.ok c.args.to.now c.requires.over c.as_slice-3.result.now are

pub returns-in_err-cells-clause-cells : goal.returns-in_err-cells-clause-cells
returns-in_err-cells-clause-cells c =
    let view = c.args.view.now in
    let to = c.args.to.now in
    let are : c.as_slice-3.result.now ≡ target_lists view to = c.as_slice-3.ensures.value ∙ c.in_ok-lists.ensures ∙ c.as_slice-2.ensures ∙ c.in_ok-selections.ensures.lists in
    let known : slots_of_fixes (slot_in view) to.fixes ≡ Ok c.in_ok-fixed_slots.field-0 = ap (slots_of_fixes (slot_in view)) (sym c.as_slice.ensures) ∙ c.in_ok-fixed_slots.ensures in
    let refused = cells_refused view c.args.catalogue.now c.args.expression.now c.in_ok-prepared.prepared.code c.in_ok-prepared.prepared.fixed c.in_ok-prepared.ensures.ok to c.requires.over c.as_slice-3.result.now are c.in_ok-fixed_slots.field-0 known c.in_err-cells.field-0.0 c.in_err-cells.ensures in
    let is : c.from_residual-in_err-cells.result ≡ Err c.in_err-cells.field-0.0 = search rules in
    subst (λ (r : Result Cells LoopFault). Answers (assigned_in view to c.args.expression.now) r) (sym is) refused

pub returns-clause-cells : goal.returns-clause-cells
returns-clause-cells c =
    let view = c.args.view.now in
    let to = c.args.to.now in
    let are : c.as_slice-3.result.now ≡ target_lists view to = c.as_slice-3.ensures.value ∙ c.in_ok-lists.ensures ∙ c.as_slice-2.ensures ∙ c.in_ok-selections.ensures.lists in
    let known : slots_of_fixes (slot_in view) to.fixes ≡ Ok c.in_ok-fixed_slots.field-0 = ap (slots_of_fixes (slot_in view)) (sym c.as_slice.ensures) ∙ c.in_ok-fixed_slots.ensures in
    cells_answer view c.args.catalogue.now c.args.expression.now c.in_ok-prepared.prepared.code c.in_ok-prepared.prepared.fixed c.in_ok-prepared.ensures.ok to c.requires.over c.as_slice-3.result.now are c.in_ok-fixed_slots.field-0 known
    c.in_ok-cells.cells c.held.result c.in_ok-cells.ensures c.held.ensures.cells
