use Rattle.std.proofs.Common.{rules, ◌≡◌, [], FitsSigned, ◌∙◌, sym, ap, arith}
use Rattle.std.specs.Int.{w128}
use Rattle.std.proofs.lemmas.Int.{to_z-of_z}
use Rattle.std.specs.Map.{keys_of}
use Rattle.std.proofs.lemmas.Map.Keys.{IsDistinct-from_sorted}
use Rattle.aw_var.specs.CellMap.{by_slots}
use Rattle.agg_run.specs.inside.Folds.{with, summed, fold_of}
use Rattle.agg_run.specs.inside.Levels.{Held, depth_within, placed_on, on_level}
use Rattle.agg_run.proofs.Joining.{with-none}
use Rattle.agg_run.proofs.Rising.{placed_step, placed_here, leaf_cells}
use Rattle.agg_run.proofs.levels.leaf_levels.Goals as goal

pub put_on-requires : goal.put_on-requires
put_on-requires c =
    let deep = c.requires.deepest c.slot_at-slot.result in
    let size = c.loop-at.invariant.0 in
    let is = c.depth-level.ensures.value in
    let same = ap (λ n. depth_within c.args.tree.now n c.slot_at-slot.result) c.requires.most in
    omega (arith, deep, size, is, same)

pub loop-at-preserved-in-Continue-branch-2 : goal.loop-at-preserved-in-Continue-branch-2
loop-at-preserved-in-Continue-branch-2 c =
    let fits : FitsSigned w128 c.in-Some.number.now = search rules in (
      c.in_ok-put_on.ensures.as_many ∙ c.loop-at.invariant.0,
      λ depth key.
          placed_step c.args.operator c.loop-at.at-iterator c.next.new.self (on_level c.loop-at.levels.items depth key) (on_level c.put_on.new.levels.items depth key) _ _ (placed_on c.args.tree.now c.args.place depth key) (c.in-Some.at.now, c.in-Some.number.now)
          (search rules) (c.in_ok-put_on.ensures.added depth key)
          (placed_here c.args.tree.now c.args.place depth key c.in-Some.at.now c.in-Some.number.now c.slot_at-slot.result c.depth-level.result c.is_leaf.result c.of.result c.slot_at-slot.ensures c.is_leaf.ensures c.if-is_leaf.true (c.depth-level.ensures.value ∙ ap (λ n. depth_within c.args.tree.now n c.slot_at-slot.result) c.requires.most) (c.of.ensures ∙ ap fold_of (to_z-of_z w128 c.in-Some.number.now fits)))
          (c.loop-at.invariant.1 depth key),
    )

pub returns-clause-cells : goal.returns-clause-cells
returns-clause-cells c = λ depth key.
    let all = c.into_iter-at-iterator.ensures.into_iter_gives ∙ c.iter-at-items.ensures.rest in
    let none : c.loop-at.at-iterator ≡ [] = c.in-None.ensures.steps.0 in
    sym (with-none c.args.operator (on_level c.loop-at.levels.items depth key))
    ∙ ap (λ (l : Held). with c.args.operator (on_level c.loop-at.levels.items depth key) (summed c.args.operator (placed_on c.args.tree.now c.args.place depth key) l)) (sym none)
    ∙ c.loop-at.invariant.1 depth key
    ∙ leaf_cells c.args.operator c.args.tree.now c.args.place depth key c.args.numbers.now.entries (IsDistinct-from_sorted by_slots (keys_of c.args.numbers.now.entries) c.iter-at-items.ensures.ordered)
