use Rattle.std.proofs.Common.{IfOk, sym, ap, subst, ◌∙◌, arith}
use Rattle.std.specs.List.{AllZip}
use Rattle.std.specs.Map.{keys_of}
use Rattle.std.proofs.lemmas.Map.Keys.{IsDistinct-from_sorted}
use Rattle.rayon.specs.Lists.{chunks_of}
use Rattle.rayon.proofs.ToStd.{chunks_of-concat}
use Rattle.aw_var.specs.CellMap.{by_slots}
use Rattle.agg_run.specs.inside.Folds.{with}
use Rattle.agg_run.specs.inside.Levels.{Folds, fold_at}
use Rattle.agg_run.specs.inside.Sharing.{gathered, AreSumsOf}
use Rattle.agg_run.proofs.Lifting.{summed-lifted}
use Rattle.agg_run.proofs.Pieces.{gathered_pieces, gathered_raised}
use Rattle.agg_run.proofs.Rising.{on_ok}
use Rattle.agg_run.proofs.sharing.climb.Goals as goal

pub returns : goal.returns
returns g c =
    let zip = subst (λ ps. AllZip (λ part sums. IfOk sums (λ of. AreSumsOf c.args.operator part of.entries)) (chunks_of 4096 c.in_ok-cells.cells.items) ps) (sym c.as_slice-2.ensures.value)
    (subst (λ (l : Folds). AllZip (λ part sums. IfOk sums (λ of. AreSumsOf c.args.operator part of.entries)) (chunks_of 4096 l) c.in_ok-pieces.pieces.items) c.as_slice.ensures.value c.in_ok-pieces.ensures) in
    on_ok c.add_pieces.result (λ added key within.
    added (chunks_of 4096 c.in_ok-cells.cells.items) zip key
    ∙ ap (with c.args.operator (fold_at c.args.above.now.entries key))
    (gathered_pieces c.args.operator (chunks_of 4096 c.in_ok-cells.cells.items) key
    ∙ ap (λ (l : Folds). gathered c.args.operator l key) (chunks_of-concat 4096 c.in_ok-cells.cells.items (omega arith) ∙ c.in_ok-cells.ensures.cells)
    ∙ gathered_raised c.args.operator c.args.tree.now c.args.place c.args.level.now.entries key
    ∙ summed-lifted c.args.operator c.args.tree.now c.args.place key c.requires within c.args.level.now.entries (IsDistinct-from_sorted by_slots (keys_of c.args.level.now.entries) c.in_ok-cells.ensures.ordered))) c.add_pieces.ensures
