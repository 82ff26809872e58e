use Rattle.std.proofs.Common.{◌≡◌, ◌++◌, map, take}
use Rattle.agg_map.proofs.reading.add_pieces.Given as goal

abbrev pub invariant-loop-piece : goal.invariant-loop-piece
invariant-loop-piece l = l.into ≡ l.initial.into ++ map (λ piece. piece.now) (take l.piece-index l.pieces)
