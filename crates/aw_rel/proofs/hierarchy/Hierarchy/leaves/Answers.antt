use Rattle.aw_rel.proofs.Within.{among_held, leaves-picked}
use Rattle.std.proofs.Common.{length, List, Bool, ap, arith}
use Rattle.aw_rel.proofs.hierarchy.Hierarchy.leaves.Goals as goal

pub leaves_among-requires-clause-marks : goal.leaves_among-requires-clause-marks
leaves_among-requires-clause-marks c = λ slot among.
    let room = c.in_ok-within.ensures.room slot (among_held c.self.inside.slots.items c.as_slice-slots.result.now c.self.inside.parents.items c.args.self.now slot c.self.view_is c.as_slice-slots.ensures.value among) in
    omega (arith, room, ap (λ (l : List Bool). length l) c.as_slice.ensures.value)

pub returns : goal.returns
returns c = leaves-picked c.self.inside.slots.items c.as_slice-slots.result.now c.self.inside.parents.items c.self.inside.children c.as_slice-children.result.now c.self.inside.upward.items c.in_ok-within.within.items c.as_slice.result.now c.args.slot c.args.self.now c.leaves_among.result
    c.self.invariant c.self.view_is c.as_slice-slots.ensures.value c.as_slice-children.ensures c.as_slice.ensures.value c.in_ok-within.ensures.within c.leaves_among.ensures
