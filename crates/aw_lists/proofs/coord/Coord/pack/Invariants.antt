use Rattle.std.proofs.Common.{◌≡◌, ◌<◌, ◌^◌, take}
use Rattle.aw_lists.specs.Coord.{packed}
use Rattle.aw_lists.proofs.coord.Coord.pack.Given as goal

abbrev pub invariant-loop-slot : goal.invariant-loop-slot
invariant-loop-slot l = record {
  number : l.number ≡ packed (take l.slot-index l.slot-items);
  below : l.number < 65536 ^ l.slot-index;
}
