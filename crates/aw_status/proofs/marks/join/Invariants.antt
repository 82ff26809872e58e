use Rattle.std.proofs.Common.{◌≡◌, drop, length}
use Rattle.aw_status.specs.Rules.{joined}
use Rattle.aw_status.specs.inside.Marks.{AreMarks}
use Rattle.aw_status.proofs.marks.join.Given as goal

abbrev pub invariant-loop-slot : goal.invariant-loop-slot
invariant-loop-slot l = record {
  marked : AreMarks (length l.initial.marks.items) l.selected.items l.marks.items;
  len : length l.marks.items ≡ length l.initial.marks.items;
  same : joined l.selected.items (drop l.slot-index l.slots) ≡ joined l.initial.selected.items l.slots;
}
