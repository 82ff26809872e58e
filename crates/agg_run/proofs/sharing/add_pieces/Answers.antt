use Rattle.std.proofs.Common.{◌+◌, sym, ◌∙◌, arith}
use Rattle.agg_run.specs.inside.Folds.{with, summed}
use Rattle.agg_run.specs.inside.Levels.{fold_at}
use Rattle.agg_run.specs.inside.Sharing.{gathered}
use Rattle.agg_run.proofs.Pieces.{pieces_more, pieces_all}
use Rattle.agg_run.proofs.sharing.add_pieces.Goals as goal

pub loop-number-preserved : goal.loop-number-preserved
loop-number-preserved c = λ parts zip.
    pieces_more c.args.operator parts c.args.pieces.now c.loop-number.number (c.loop-number.number + 1) c.index-pieces-number.result (fold_at c.loop-number.above.entries) (fold_at c.add_piece.new.above.entries)
    (λ key. with c.args.operator (fold_at c.args.above.now.entries key) (summed c.args.operator (λ part. gathered c.args.operator part key) parts)) (omega arith) (omega arith) zip c.index-pieces-number.is c.in_ok-add_piece.ensures (c.loop-number.invariant parts zip)

pub returns : goal.returns
returns c = λ parts zip key.
    sym (pieces_all c.args.operator parts c.args.pieces.now c.loop-number.number (fold_at c.loop-number.above.entries key) key zip (omega arith)) ∙ c.loop-number.invariant parts zip key
