use Rattle.std.proofs.Common.{take}
use Rattle.aw_status.specs.inside.Marks.{AreMarks}
use Rattle.aw_status.proofs.marks.marks_of.Given as goal

abbrev pub invariant-loop-slot : goal.invariant-loop-slot
invariant-loop-slot l = AreMarks l.room (take l.slot-index l.slots) l.marks.items
