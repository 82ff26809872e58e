use Rattle.std.proofs.Common.{◌∙◌}
use Rattle.aw_rel.proofs.Checking.{room_of, below_of, made_of, kin_of, value_below, mark_below, first_of, held_of, tree-is}
use Rattle.aw_rel.proofs.hierarchy.Hierarchy.check.Goals as goal

pub parents_of-requires-clause-room : goal.parents_of-requires-clause-room
parents_of-requires-clause-room c = λ slot among. room_of c.args.dimension.now c.in_ok-slots.slots.items c.as_slice.result.now c.next-room.result slot c.next-room.ensures.valid c.in_ok-slots.ensures c.as_slice.ensures.value c.next-room.ensures.value among

pub children_of-requires : goal.children_of-requires
children_of-requires c = below_of c.args.dimension.now c.args.parents.now.cells c.in_ok-slots.slots.items c.as_slice.result.now c.as_slice-2.result.now c.in_ok-parents.parents.items c.as_slice-3.result.now c.next-room.result
    c.next-room.ensures.valid c.in_ok-slots.ensures c.as_slice.ensures.value c.as_slice-2.ensures.value c.as_slice-3.ensures.value c.next-room.ensures.value c.in_ok-parents.ensures.parents c.in_ok-parents.ensures.size

pub cleared-requires-clause-kin : goal.cleared-requires-clause-kin
cleared-requires-clause-kin c =
    let made = made_of c.args.dimension.now c.args.parents.now.cells c.in_ok-slots.slots.items c.as_slice.result.now c.as_slice-2.result.now c.in_ok-parents.parents.items c.as_slice-3.result.now c.in_ok-children.children c.next-room.result
    c.next-room.ensures.valid c.in_ok-slots.ensures c.as_slice.ensures.value c.as_slice-2.ensures.value c.as_slice-3.ensures.value c.next-room.ensures.value c.in_ok-parents.ensures.parents c.in_ok-parents.ensures.size c.in_ok-children.ensures.children c.in_ok-children.ensures.size in
    kin_of c.args.dimension.now c.args.parents.now.cells c.in_ok-slots.slots.items c.in_ok-parents.parents.items c.as_slice-5.result.now c.in_ok-children.children c.as_slice-6.result.now made c.as_slice-5.ensures.value c.as_slice-6.ensures

pub cleared-requires-clause-below : goal.cleared-requires-clause-below
cleared-requires-clause-below c =
    let made = made_of c.args.dimension.now c.args.parents.now.cells c.in_ok-slots.slots.items c.as_slice.result.now c.as_slice-2.result.now c.in_ok-parents.parents.items c.as_slice-3.result.now c.in_ok-children.children c.next-room.result
    c.next-room.ensures.valid c.in_ok-slots.ensures c.as_slice.ensures.value c.as_slice-2.ensures.value c.as_slice-3.ensures.value c.next-room.ensures.value c.in_ok-parents.ensures.parents c.in_ok-parents.ensures.size c.in_ok-children.ensures.children c.in_ok-children.ensures.size in
    λ slot among. value_below c.args.dimension.now c.args.parents.now.cells c.in_ok-slots.slots.items c.as_slice-4.result.now c.in_ok-parents.parents.items c.as_slice-5.result.now c.in_ok-children.children slot made c.as_slice-4.ensures.value c.as_slice-5.ensures.value among

pub first_uncleared-requires : goal.first_uncleared-requires
first_uncleared-requires c =
    let made = made_of c.args.dimension.now c.args.parents.now.cells c.in_ok-slots.slots.items c.as_slice.result.now c.as_slice-2.result.now c.in_ok-parents.parents.items c.as_slice-3.result.now c.in_ok-children.children c.next-room.result
    c.next-room.ensures.valid c.in_ok-slots.ensures c.as_slice.ensures.value c.as_slice-2.ensures.value c.as_slice-3.ensures.value c.next-room.ensures.value c.in_ok-parents.ensures.parents c.in_ok-parents.ensures.size c.in_ok-children.ensures.children c.in_ok-children.ensures.size in
    λ slot among. mark_below c.args.dimension.now c.args.parents.now.cells c.in_ok-slots.slots.items c.as_slice-7.result.now c.in_ok-parents.parents.items c.as_slice-5.result.now c.in_ok-children.children c.as_slice-6.result.now c.in_ok-clearing.clearing.cleared.items c.as_slice-8.result.now c.in_ok-clearing.clearing.passed.items c.in_ok-clearing.clearing.upward.items slot made
    c.as_slice-7.ensures.value c.as_slice-5.ensures.value c.as_slice-8.ensures.value c.in_ok-clearing.ensures.clearing among

pub invariant_of-result : goal.invariant_of-result
invariant_of-result c =
    let made = made_of c.args.dimension.now c.args.parents.now.cells c.in_ok-slots.slots.items c.as_slice.result.now c.as_slice-2.result.now c.in_ok-parents.parents.items c.as_slice-3.result.now c.in_ok-children.children c.next-room.result
    c.next-room.ensures.valid c.in_ok-slots.ensures c.as_slice.ensures.value c.as_slice-2.ensures.value c.as_slice-3.ensures.value c.next-room.ensures.value c.in_ok-parents.ensures.parents c.in_ok-parents.ensures.size c.in_ok-children.ensures.children c.in_ok-children.ensures.size in
    held_of c.args.dimension.now c.args.parents.now.cells c.in_ok-slots.slots.items c.as_slice-4.result.now c.as_slice-7.result.now c.in_ok-parents.parents.items c.as_slice-5.result.now c.in_ok-children.children c.as_slice-6.result.now c.in_ok-clearing.clearing.cleared.items c.as_slice-8.result.now c.in_ok-clearing.clearing.passed.items c.in_ok-clearing.clearing.upward.items c.first_uncleared.result made
    c.as_slice-4.ensures.value c.as_slice-5.ensures.value c.as_slice-6.ensures c.as_slice-7.ensures.value c.as_slice-8.ensures.value c.in_ok-clearing.ensures.clearing c.in_ok-clearing.ensures.settled c.first_uncleared.ensures c.in-None.is

pub returns-in-Some-clause-cause : goal.returns-in-Some-clause-cause
returns-in-Some-clause-cause c =
    let made = made_of c.args.dimension.now c.args.parents.now.cells c.in_ok-slots.slots.items c.as_slice.result.now c.as_slice-2.result.now c.in_ok-parents.parents.items c.as_slice-3.result.now c.in_ok-children.children c.next-room.result
    c.next-room.ensures.valid c.in_ok-slots.ensures c.as_slice.ensures.value c.as_slice-2.ensures.value c.as_slice-3.ensures.value c.next-room.ensures.value c.in_ok-parents.ensures.parents c.in_ok-parents.ensures.size c.in_ok-children.ensures.children c.in_ok-children.ensures.size in
    first_of c.args.dimension.now c.args.parents.now.cells c.in_ok-slots.slots.items c.as_slice-4.result.now c.as_slice-7.result.now c.in_ok-parents.parents.items c.as_slice-5.result.now c.in_ok-children.children c.as_slice-6.result.now c.in_ok-clearing.clearing.cleared.items c.as_slice-8.result.now c.in_ok-clearing.clearing.passed.items c.in_ok-clearing.clearing.upward.items c.first_uncleared.result made
    c.as_slice-4.ensures.value c.as_slice-5.ensures.value c.as_slice-6.ensures c.as_slice-7.ensures.value c.as_slice-8.ensures.value c.in_ok-clearing.ensures.clearing c.in_ok-clearing.ensures.settled c.first_uncleared.ensures ∙ c.in-Some.is

pub returns-in-None-clause-value : goal.returns-in-None-clause-value
returns-in-None-clause-value c =
    let made = made_of c.args.dimension.now c.args.parents.now.cells c.in_ok-slots.slots.items c.as_slice.result.now c.as_slice-2.result.now c.in_ok-parents.parents.items c.as_slice-3.result.now c.in_ok-children.children c.next-room.result
    c.next-room.ensures.valid c.in_ok-slots.ensures c.as_slice.ensures.value c.as_slice-2.ensures.value c.as_slice-3.ensures.value c.next-room.ensures.value c.in_ok-parents.ensures.parents c.in_ok-parents.ensures.size c.in_ok-children.ensures.children c.in_ok-children.ensures.size in
    tree-is c.args.dimension.now c.args.parents.now.cells c.in_ok-slots.slots.items c.in_ok-parents.parents.items made.is made.are

pub returns-in-None-clause-none : goal.returns-in-None-clause-none
returns-in-None-clause-none c =
    let made = made_of c.args.dimension.now c.args.parents.now.cells c.in_ok-slots.slots.items c.as_slice.result.now c.as_slice-2.result.now c.in_ok-parents.parents.items c.as_slice-3.result.now c.in_ok-children.children c.next-room.result
    c.next-room.ensures.valid c.in_ok-slots.ensures c.as_slice.ensures.value c.as_slice-2.ensures.value c.as_slice-3.ensures.value c.next-room.ensures.value c.in_ok-parents.ensures.parents c.in_ok-parents.ensures.size c.in_ok-children.ensures.children c.in_ok-children.ensures.size in
    first_of c.args.dimension.now c.args.parents.now.cells c.in_ok-slots.slots.items c.as_slice-4.result.now c.as_slice-7.result.now c.in_ok-parents.parents.items c.as_slice-5.result.now c.in_ok-children.children c.as_slice-6.result.now c.in_ok-clearing.clearing.cleared.items c.as_slice-8.result.now c.in_ok-clearing.clearing.passed.items c.in_ok-clearing.clearing.upward.items c.first_uncleared.result made
    c.as_slice-4.ensures.value c.as_slice-5.ensures.value c.as_slice-6.ensures c.as_slice-7.ensures.value c.as_slice-8.ensures.value c.in_ok-clearing.ensures.clearing c.in_ok-clearing.ensures.settled c.first_uncleared.ensures ∙ c.in-None.is
