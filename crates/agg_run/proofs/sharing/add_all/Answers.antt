use Rattle.std.proofs.Common.{rules, ◌≡◌, [], sym, ap, ◌∙◌}
use Rattle.std.specs.Map.{keys_of}
use Rattle.std.proofs.lemmas.Map.Keys.{IsDistinct-from_sorted}
use Rattle.aw_var.specs.CellMap.{by_slots}
use Rattle.agg_run.specs.inside.Folds.{with}
use Rattle.agg_run.specs.inside.Levels.{fold_at}
use Rattle.agg_run.proofs.Pieces.{gathered_more, gathered_none, gathered_map}
use Rattle.agg_run.proofs.sharing.add_all.Goals as goal

pub loop-at-preserved : goal.loop-at-preserved
loop-at-preserved c = λ key.
    gathered_more c.args.operator (fold_at c.loop-at.above.entries key) (fold_at c.add.new.folds.entries key) c.in-Some.at.now c.in-Some.fold.now c.loop-at.at-iterator c.next.new.self key _ (search rules) (c.in_ok-add.ensures.added key) (c.loop-at.invariant key)

pub returns : goal.returns
returns c = λ key.
    let none : c.loop-at.at-iterator ≡ [] = c.in-None.ensures.steps.0 in
    sym (gathered_none c.args.operator (fold_at c.loop-at.above.entries key) c.loop-at.at-iterator key none) ∙ c.loop-at.invariant key
    ∙ ap (with c.args.operator (fold_at c.args.above.now.entries key)) (gathered_map c.args.operator c.args.sums.now.entries key (IsDistinct-from_sorted by_slots (keys_of c.args.sums.now.entries) c.iter-at-items.ensures.ordered))
