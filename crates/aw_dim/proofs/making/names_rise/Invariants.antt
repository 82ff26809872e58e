use Rattle.std.proofs.Common.{ℕ, true, ◌≡◌, ◌+◌, ◌<◌, slice_index}
use Rattle.aw_dim.specs.inside.Index.{indexed_name, precedes}
use Rattle.aw_dim.proofs.making.names_rise.Given as goal

abbrev pub invariant-loop-at : goal.invariant-loop-at
invariant-loop-at l =
    (at : ℕ) → at + 1 < l.at → precedes (indexed_name l.entries l.places (slice_index l.by_name at)) (indexed_name l.entries l.places (slice_index l.by_name (at + 1))) ≡ true
