use Rattle.aw_dim.specs.inside.Index.{ArePlaced}
use Rattle.aw_dim.proofs.making.are_placed.Given as goal

abbrev pub invariant-loop-place : goal.invariant-loop-place
invariant-loop-place l = ArePlaced l.entries l.places l.place
