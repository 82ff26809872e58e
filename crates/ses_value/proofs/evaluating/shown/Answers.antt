use Rattle.std.proofs.Common.{◌≡◌, ◌∙◌, ℕ, List, sym, ap, subst}
use Rattle.dml_loop.specs.Evaluation.{shown, first_places}
use Rattle.dml_loop.specs.Fixes.{Answers}
use Rattle.ses_value.specs.Evaluating.{lists_in}
use Rattle.ses_value.specs.inside.Running.{Runs, code_value}
use Rattle.ses_value.proofs.Evaluated.{show_runs, show_answers}
use Rattle.ses_value.proofs.evaluating.shown.Goals as goal

pub shown-requires : goal.shown-requires
shown-requires c =
    let view = c.args.view.now in
    let lists = c.as_slice-3.result.now in
    let code = c.in_ok-prepared.prepared.code in
    let are : lists ≡ lists_in view c.args.expression.now.dimensions =
    c.as_slice-3.ensures.value ∙ c.in_ok-lists.ensures ∙ c.as_slice.ensures ∙ c.in_ok-selections.ensures ∙ ap (lists_in view) c.slots.ensures.value
    in
    subst (λ (fixed : List ℕ). Runs view code fixed (first_places lists)) (sym c.as_slice-2.ensures)
    (show_runs view c.args.catalogue.now c.args.expression.now code c.in_ok-prepared.prepared.fixed c.in_ok-prepared.ensures.ok lists are)

pub returns : goal.returns
returns c =
    let view = c.args.view.now in
    let lists = c.as_slice-3.result.now in
    let code = c.in_ok-prepared.prepared.code in
    let are : lists ≡ lists_in view c.args.expression.now.dimensions =
    c.as_slice-3.ensures.value ∙ c.in_ok-lists.ensures ∙ c.as_slice.ensures ∙ c.in_ok-selections.ensures ∙ ap (lists_in view) c.slots.ensures.value
    in
    show_answers view c.args.catalogue.now c.args.expression.now code c.in_ok-prepared.prepared.fixed c.in_ok-prepared.ensures.ok lists are c.shown.result
    (subst (λ (fixed : List ℕ). Answers (shown (code_value view code fixed) lists) c.shown.result) c.as_slice-2.ensures c.shown.ensures)
