use Rattle.std.proofs.Common.{◌≡◌, ℕ, List, cond, refl, sym, ap, subst, ◌∙◌, not, is_some}
use Rattle.std.specs.BTreeMap.{is_at}
use Rattle.std.specs.Cmp.Lexicographic.{nat_list_cmp_total}
use Rattle.aw_cell.specs.declared.cell.Cell.TheVariants.{Na}
use Rattle.aw_var.specs.CellMap.{by_slots, cell_at, IsCellMap}
use Rattle.aw_var.specs.Variable.{Contents}
use Rattle.aw_var.proofs.callers.FiniteMaps.{both_true, cell-set, IsMapBy-set}
use Rattle.agg_run.specs.Aggregates.{is_combination}
use Rattle.agg_run.specs.Calls.{values_of}
use Rattle.agg_run.specs.inside.Levels.{held_at}
use Rattle.agg_run.specs.inside.Cells.{is_cleared, is_in}
use Rattle.agg_run.proofs.Gathering.{combination_length, clear_first, clear_step, cell_kept}
use Rattle.agg_run.proofs.opening.clear.Goals as goal

pub loop-at-init : goal.loop-at-init
loop-at-init c =
    let all = c.into_iter-at-iterator.ensures.into_iter_gives ∙ c.iter-at-items.ensures.rest in
    subst (λ (v : Contents). ((key : List ℕ) → cond (is_in c.into_iter-at-iterator.result key) (cond (is_cleared (values_of c.args.dimensions.now) c.args.numbers.now.entries key) Na (cell_at v.cells key)) (cell_at v.cells key) ≡ cond (is_cleared (values_of c.args.dimensions.now) c.args.numbers.now.entries key) Na (cell_at c.args.cells.now.cells key))
    × IsCellMap v.cells × (v.slots ≡ c.args.cells.now.slots) × (v.kind ≡ c.args.cells.now.kind)) (sym c.in_ok-cleared.ensures)
    (λ key. clear_first c.args.cells.now.cells c.into_iter-at-iterator.result (is_cleared (values_of c.args.dimensions.now) c.args.numbers.now.entries key) key all, c.requires.map, refl, refl)

pub put-requires-clause-slots : goal.put-requires-clause-slots
put-requires-clause-slots c =
    let there = both_true (is_combination (values_of c.args.dimensions.now) c.in-Some.at) (not (is_some (held_at c.args.numbers.now.entries c.in-Some.at))) (sym c.is_cleared.ensures ∙ c.if-is_cleared.true) in
    combination_length c.args.dimensions.now c.in-Some.at there.0 ∙ sym c.requires.slots ∙ sym c.loop-at.invariant.2

pub loop-at-preserved-in-Continue-branch-2 : goal.loop-at-preserved-in-Continue-branch-2
loop-at-preserved-in-Continue-branch-2 c =
    let ok = c.in_ok-put.ensures.ok in (
      λ key. clear_step (is_cleared (values_of c.args.dimensions.now) c.args.numbers.now.entries) c.in-Some.at c.in-Some.field-0-1 c.loop-at.at-iterator c.next.new.self c.loop-at.cleared.cells c.put.new.self.cells c.is_cleared.result key _ c.in-Some.ensures.steps c.is_cleared.ensures
          (ap (λ (v : Contents). cell_at v.cells key) ok ∙ cell-set nat_list_cmp_total key c.in-Some.at Na c.loop-at.cleared.cells ∙ ap (λ f. cond (is_at (by_slots key) c.in-Some.at) (cond f Na (cell_at c.loop-at.cleared.cells key)) (cell_at c.loop-at.cleared.cells key)) (sym c.if-is_cleared.true))
          (c.loop-at.invariant.0 key),
      subst (λ (v : Contents). IsCellMap v.cells) (sym ok) (IsMapBy-set nat_list_cmp_total c.in-Some.at Na c.loop-at.cleared.cells c.loop-at.invariant.1),
      ap (λ (v : Contents). v.slots) ok ∙ c.loop-at.invariant.2,
      ap (λ (v : Contents). v.kind) ok ∙ c.loop-at.invariant.3,
    )

pub loop-at-preserved : goal.loop-at-preserved
loop-at-preserved c = (
  λ key. clear_step (is_cleared (values_of c.args.dimensions.now) c.args.numbers.now.entries) c.in-Some.at c.in-Some.field-0-1 c.loop-at.at-iterator c.next.new.self c.loop-at.cleared.cells c.loop-at.cleared.cells c.is_cleared.result key _ c.in-Some.ensures.steps c.is_cleared.ensures
      (cell_kept (is_at (by_slots key) c.in-Some.at) c.is_cleared.result (cell_at c.loop-at.cleared.cells key) c.if-is_cleared.false)
      (c.loop-at.invariant.0 key),
  c.loop-at.invariant.1,
  c.loop-at.invariant.2,
  c.loop-at.invariant.3,
)
