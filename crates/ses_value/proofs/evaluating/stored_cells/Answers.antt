use Rattle.std.proofs.Common.{rules, ◌≡◌, ℕ, List, false, sym, subst}
use Rattle.std.specs.Prelude.{is_none, nat_le}
use Rattle.dml_exec.specs.Operators.{when}
use Rattle.dml_loop.specs.Fixes.{Answers}
use Rattle.dml_loop.specs.Loops.{places, combinations}
use Rattle.ses_value.specs.inside.Running.{Runs, code_value, stored_at}
use Rattle.ses_value.proofs.Evaluated.{counted}
use Rattle.ses_value.proofs.evaluating.stored_cells.Goals as goal

pub assigned-requires-clause-fits : goal.assigned-requires-clause-fits
assigned-requires-clause-fits c =
    subst (λ (fixed : List ℕ). Runs c.args.view.now c.args.prepared.now.code fixed (places c.args.lists.now)) (sym c.as_slice.ensures) c.requires.runs

pub returns : goal.returns
returns c =
    let view = c.args.view.now in
    let lists = c.args.lists.now in
    let code = c.args.prepared.now.code in
    let some : is_none (when (nat_le (combinations lists) 4194304) (combinations lists)) ≡ false = search rules in
    counted (nat_le (combinations lists) 4194304) (combinations lists) (stored_at view c.args.target (code_value view code c.args.prepared.now.fixed) lists) c.assigned.result some
    (subst (λ (fixed : List ℕ). Answers (stored_at view c.args.target (code_value view code fixed) lists) c.assigned.result) c.as_slice.ensures c.assigned.ensures)
