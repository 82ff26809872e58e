use Rattle.std.proofs.Common.{get_or, refl}
use Rattle.aw_rel.proofs.Filling.{at_index, settled-next}
use Rattle.aw_rel.proofs.clearing.cleared.Goals as goal

pub climb-requires-clause-from : goal.climb-requires-clause-from
climb-requires-clause-from c = c.requires.below (get_or c.args.slots.now c.loop-slot.slot-index 0) (at_index c.args.slots.now c.loop-slot.slot-index (get_or c.args.slots.now c.loop-slot.slot-index 0) c.loop-slot-test.true refl)

pub loop-slot-preserved : goal.loop-slot-preserved
loop-slot-preserved c = (
  c.in_ok-climb.ensures.clearing,
  settled-next c.args.parents.now c.args.children.now c.loop-slot.clearing.cleared.items c.climb.new.self.cleared.items c.climb.new.self.passed.items c.climb.new.self.upward.items c.args.slots.now c.loop-slot.slot-index (get_or c.args.slots.now c.loop-slot.slot-index 0) c.loop-slot-test.true refl c.in_ok-climb.ensures c.loop-slot.invariant.1,
)
