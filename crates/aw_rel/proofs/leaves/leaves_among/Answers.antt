use Rattle.std.proofs.Common.{get_or, refl}
use Rattle.aw_rel.proofs.Filling.{at_index}
use Rattle.aw_rel.proofs.leaves.leaves_among.Goals as goal

pub is_leaf-requires-clause-children : goal.is_leaf-requires-clause-children
is_leaf-requires-clause-children c = c.requires.children (get_or c.args.slots.now c.loop-slot.slot-index 0) (at_index c.args.slots.now c.loop-slot.slot-index (get_or c.args.slots.now c.loop-slot.slot-index 0) c.loop-slot-test.true refl)

pub is_leaf-requires-clause-marks : goal.is_leaf-requires-clause-marks
is_leaf-requires-clause-marks c = c.requires.marks (get_or c.args.slots.now c.loop-slot.slot-index 0) (at_index c.args.slots.now c.loop-slot.slot-index (get_or c.args.slots.now c.loop-slot.slot-index 0) c.loop-slot-test.true refl)
