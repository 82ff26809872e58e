use Rattle.std.proofs.Common.{ℕ, List, cond, Some, None, ◌+◌, ap, ◌∙◌, arith}
use Rattle.std.specs.BTreeMap.{is_at}
use Rattle.aw_var.specs.CellMap.{by_slots}
use Rattle.agg_run.specs.inside.Folds.{with}
use Rattle.agg_run.specs.inside.Levels.{fold_at}
use Rattle.agg_run.specs.declared.folding.Fold.{Fold}
use Rattle.agg_run.proofs.Pieces.{dropped_more}
use Rattle.agg_run.proofs.sharing.sums.Goals as goal

pub loop-place-preserved : goal.loop-place-preserved
loop-place-preserved c = λ key.
    dropped_more c.args.operator (fold_at c.loop-place.sums.entries key) (fold_at c.add.new.folds.entries key) c.args.cells.now c.loop-place.place (c.loop-place.place + 1) c.index-cells-place.result key _ (omega arith) (omega arith)
    (c.in_ok-add.ensures.added key ∙ ap (λ (e : List ℕ × Fold). with c.args.operator (fold_at c.loop-place.sums.entries key) (cond (is_at (by_slots e.0) key) (Some e.1) None)) c.index-cells-place.is)
    (c.loop-place.invariant key)
