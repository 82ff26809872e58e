use Rattle.std.proofs.Common.{◌≡◌, length}
use Rattle.aw_dim.specs.inside.Index.{ArePlaced, SlotsFit}
use Rattle.aw_dim.proofs.index.mark_places.Given as goal

abbrev pub invariant-loop-place : goal.invariant-loop-place
invariant-loop-place l =
    (SlotsFit l.entries (length l.initial.places.items) → ArePlaced l.entries l.initial.places.items l.from → ArePlaced l.entries l.places.items l.place)
    × (length l.places.items ≡ length l.initial.places.items)
