use Rattle.std.proofs.Common.{arith, ◌≡◌, ◌∙◌, ◌+◌, ◌*◌, ◌<◌, ap, take, get_or}
use Rattle.std.proofs.lemmas.List.{take_more}
use Rattle.aw_lists.specs.Coord.{packed}
use Rattle.aw_lists.proofs.callers.Packing.{packed-push, below-push, packed-fits}
use Rattle.aw_lists.proofs.coord.Coord.pack.Goals as goal

pub overflow_mul-number : goal.overflow_mul-number
overflow_mul-number c = omega (arith, packed-fits c.loop-slot.number c.loop-slot.slot-index c.loop-slot.invariant.below (omega arith))

pub overflow_add-number : goal.overflow_add-number
overflow_add-number c =
    omega (arith, c.type_inv.slot-items c.loop-slot.slot-index, packed-fits c.loop-slot.number c.loop-slot.slot-index c.loop-slot.invariant.below (omega arith))

pub loop-slot-preserved : goal.loop-slot-preserved
loop-slot-preserved c =
    let slots = c.slots-slot-items.result.now in
    let at = c.loop-slot.slot-index in
    let more : packed (take (at + 1) slots) ≡ packed (take at slots) * 65536 + get_or slots at 0 =
    ap packed (take_more slots at 0 c.loop-slot-test.true) ∙ packed-push (take at slots) (get_or slots at 0) in
    let is_slot : c.from.result < 65536 = omega (arith, c.type_inv.slot-items at) in
    record {
      number = omega (arith, more, c.loop-slot.invariant.number);
      below = below-push c.loop-slot.number c.from.result at c.loop-slot.invariant.below is_slot;
    }
