use Rattle.std.proofs.Common.{◌∙◌, ◌-◌, ◌||◌, ◌==◌, ℕ, List, Option, length, get_or, ap, arith}
use Rattle.std.proofs.Math.ListN.{length-set}
use Rattle.aw_rel.proofs.Within.{within-step, within-done, within-room, upward-room}
use Rattle.aw_rel.proofs.hierarchy.Hierarchy.within.Goals as goal

pub bounds-parents-at : goal.bounds-parents-at
bounds-parents-at c = upward-room c.self.inside.slots.items c.self.inside.parents.items c.as_slice-parents.result.now c.self.inside.children c.self.inside.upward.items c.as_slice-upward.result.now c.loop-left.left c.from-at.result c.self.invariant c.as_slice-upward.ensures.value c.as_slice-parents.ensures.value c.loop-left-test.true c.loop-left.invariant.2 c.from-at.ensures

pub index_mut-requires : goal.index_mut-requires
index_mut-requires c =
    let room = upward-room c.self.inside.slots.items c.self.inside.parents.items c.as_slice-parents.result.now c.self.inside.children c.self.inside.upward.items c.as_slice-upward.result.now c.loop-left.left c.from-at.result c.self.invariant c.as_slice-upward.ensures.value c.as_slice-parents.ensures.value c.loop-left-test.true c.loop-left.invariant.2 c.from-at.ensures in
    omega (arith, room, c.loop-left.invariant.1, c.loop-left.within.ok.0)

pub loop-left-preserved : goal.loop-left-preserved
loop-left-preserved c = (
  within-step c.self.inside.slots.items c.self.inside.parents.items c.as_slice-parents.result.now c.self.inside.children c.self.inside.upward.items c.as_slice-upward.result.now c.loop-left.within.items c.as_slice.result.now c.args.slot c.loop-left.left c.from-at.result c.is_marked-above.result c.args.self.now
      c.self.invariant c.self.view_is c.as_slice-upward.ensures.value c.as_slice-parents.ensures.value c.as_slice.ensures.value c.loop-left-test.true c.loop-left.invariant.2 c.from-at.ensures c.loop-left.invariant.1 c.is_marked-above.ensures c.loop-left.invariant.0,
  length-set c.loop-left.within.items c.from-at.result ((c.args.slot == get_or c.as_slice-upward.result.now (c.loop-left.left - 1) 0) || c.is_marked-above.result) ∙ c.loop-left.invariant.1,
  omega (arith, c.loop-left.invariant.2),
)

pub returns-clause-within : goal.returns-clause-within
returns-clause-within c = within-done c.self.inside.slots.items c.self.inside.parents.items c.self.inside.children c.self.inside.upward.items c.as_slice-upward.result.now c.loop-left.within.items c.args.slot c.loop-left.left c.args.self.now c.self.invariant c.self.view_is c.as_slice-upward.ensures.value (omega (arith, c.loop-left-test.false)) c.loop-left.invariant.0

pub returns-clause-room : goal.returns-clause-room
returns-clause-room c = λ value among.
    let room = within-room c.self.inside.slots.items c.self.inside.parents.items c.self.inside.children c.self.inside.upward.items c.args.self.now value c.self.invariant c.self.view_is among in
    omega (arith, room, c.loop-left.invariant.1, ap (λ (l : List (Option ℕ)). length l) c.as_slice-parents.ensures.value)
