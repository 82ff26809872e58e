use Rattle.std.proofs.Common.{rules, ◌≡◌, ℤ, Option, Some, None, FitsSigned, cond, sym, ap, subst, ◌∙◌}
use Rattle.std.specs.Int.{w128}
use Rattle.std.specs.BTreeMap.{is_at}
use Rattle.std.specs.List.{IsDistinct}
use Rattle.std.specs.Map.{keys_of}
use Rattle.std.specs.Ordering.{eq_by_cmp}
use Rattle.std.specs.Cmp.Lexicographic.{nat_list_cmp_total}
use Rattle.std.proofs.lemmas.Int.{to_z-of_z}
use Rattle.std.proofs.lemmas.Map.Keys.{IsDistinct-from_sorted}
use Rattle.aw_cell.specs.declared.cell.Cell.{Cell}
use Rattle.aw_var.specs.CellMap.{by_slots, cell_at, IsCellMap}
use Rattle.aw_var.specs.Variable.{Contents}
use Rattle.aw_var.proofs.callers.FiniteMaps.{cell-set, IsMapBy-set}
use Rattle.agg_run.specs.Calls.{values_of}
use Rattle.agg_run.specs.inside.Levels.{Held}
use Rattle.agg_run.specs.inside.Cells.{combined_cell, written}
use Rattle.agg_run.proofs.Gathering.{distinct_rest, written_first, written_step, cell_unwritten}
use Rattle.agg_run.proofs.opening.closing.Goals as goal

pub loop-at-init : goal.loop-at-init
loop-at-init c =
    let all = c.into_iter-at-iterator.ensures.into_iter_gives ∙ c.iter-at-items.ensures.rest in (
      subst (λ (l : Held). IsDistinct (eq_by_cmp by_slots) (keys_of l)) (sym all) (IsDistinct-from_sorted by_slots (keys_of c.args.numbers.now.entries) c.iter-at-items.ensures.ordered),
      λ key. written_first c.args.kind (values_of c.args.dimensions.now) c.into_iter-at-iterator.result c.args.numbers.now.entries c.args.cells.now.cells c.in_ok-closing.closing.cells key all (c.in_ok-closing.ensures.cells key),
      c.in_ok-closing.ensures.map,
      c.in_ok-closing.ensures.same.0,
      c.in_ok-closing.ensures.same.1 ∙ c.requires.kind,
    )

pub loop-at-preserved-in-Continue-branch-2 : goal.loop-at-preserved-in-Continue-branch-2
loop-at-preserved-in-Continue-branch-2 c =
    let fits : FitsSigned w128 c.in-Some.number.now = search rules in
    let ok = c.in_ok-put.ensures.ok in
    let combined : combined_cell c.args.kind (values_of c.args.dimensions.now) (c.in-Some.at.now, c.in-Some.number.now) ≡ Some c.in-Some-fitting.cell =
    ap (λ (n : ℤ). combined_cell c.args.kind (values_of c.args.dimensions.now) (c.in-Some.at.now, n)) (sym (to_z-of_z w128 c.in-Some.number.now fits)) ∙ sym c.fitting.ensures.value ∙ c.in-Some-fitting.is in (
      distinct_rest c.loop-at.at-iterator c.next.new.self c.in-Some.at.now c.in-Some.number.now (search rules) c.loop-at.invariant.0,
      λ key. written_step c.args.kind (values_of c.args.dimensions.now) c.in-Some.at.now c.in-Some.number.now c.loop-at.at-iterator c.next.new.self c.loop-at.closing.cells c.put.new.self.cells key _ (search rules) c.loop-at.invariant.0
          (ap (λ (v : Contents). cell_at v.cells key) ok ∙ cell-set nat_list_cmp_total key c.in-Some.at.now c.in-Some-fitting.cell c.loop-at.closing.cells ∙ ap (λ (o : Option Cell). cond (is_at (by_slots key) c.in-Some.at.now) (written o (cell_at c.loop-at.closing.cells key)) (cell_at c.loop-at.closing.cells key)) (sym combined))
          (c.loop-at.invariant.1 key),
      subst (λ (v : Contents). IsCellMap v.cells) (sym ok) (IsMapBy-set nat_list_cmp_total c.in-Some.at.now c.in-Some-fitting.cell c.loop-at.closing.cells c.loop-at.invariant.2),
      ap (λ (v : Contents). v.slots) ok ∙ c.loop-at.invariant.3,
      ap (λ (v : Contents). v.kind) ok ∙ c.loop-at.invariant.4,
    )

pub loop-at-preserved : goal.loop-at-preserved
loop-at-preserved c =
    let fits : FitsSigned w128 c.in-Some.number.now = search rules in
    let combined : combined_cell c.args.kind (values_of c.args.dimensions.now) (c.in-Some.at.now, c.in-Some.number.now) ≡ None =
    ap (λ (n : ℤ). combined_cell c.args.kind (values_of c.args.dimensions.now) (c.in-Some.at.now, n)) (sym (to_z-of_z w128 c.in-Some.number.now fits)) ∙ sym c.fitting.ensures.value ∙ c.in_default.is in (
      distinct_rest c.loop-at.at-iterator c.next.new.self c.in-Some.at.now c.in-Some.number.now (search rules) c.loop-at.invariant.0,
      λ key. written_step c.args.kind (values_of c.args.dimensions.now) c.in-Some.at.now c.in-Some.number.now c.loop-at.at-iterator c.next.new.self c.loop-at.closing.cells c.loop-at.closing.cells key _ (search rules) c.loop-at.invariant.0
          (cell_unwritten (is_at (by_slots key) c.in-Some.at.now) (combined_cell c.args.kind (values_of c.args.dimensions.now) (c.in-Some.at.now, c.in-Some.number.now)) (cell_at c.loop-at.closing.cells key) combined)
          (c.loop-at.invariant.1 key),
      c.loop-at.invariant.2,
      c.loop-at.invariant.3,
      c.loop-at.invariant.4,
    )
