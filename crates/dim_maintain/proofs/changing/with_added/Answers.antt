use Rattle.std.proofs.Common.{ℕ, List, ◌≡◌, ◌≤◌, ◌+◌, ◌∙◌, None, ap, sym, subst, length, take, arith, rules}
use Rattle.std.proofs.lemmas.List.{length-take-le}
use Rattle.aw_dim.specs.DimensionState.{DimensionState, slot_of}
use Rattle.aw_dim.specs.Edits as edit
use Rattle.dim_maintain.proofs.Adding.{added_at, added_more, still_new, length-added_at}
use Rattle.dim_maintain.proofs.Checked.{next_name, new_name, place_and_room}
use Rattle.dim_maintain.proofs.Known.{place_in}
use Rattle.dim_maintain.proofs.changing.with_added.Goals as goal

pub place_among-first-requires-clause-known : goal.place_among-first-requires-clause-known
place_among-first-requires-clause-known c =
    let place = place_in c.args.dimension.now c.args.names.now c.args.place.now c.requires c.len.result c.len.ensures.value in
    omega (arith, place, c.len.ensures.value)

pub overflow_add-first : goal.overflow_add-first
overflow_add-first c =
    let first : c.place_among-first.result ≤ length c.args.dimension.now.entries = subst (λ (at : ℕ). at ≤ length c.args.dimension.now.entries) (sym c.place_among-first.ensures) (place_in c.args.dimension.now c.args.names.now c.args.place.now c.requires c.len.result c.len.ensures.value) in
    let room = (place_and_room c.args.dimension.now c.args.names.now c.args.place.now c.requires).1 in
    let few : c.place_among-first.result + c.loop-at.at ≤ 131072 = omega (arith, first, room, c.len.ensures.value, c.len.ensures.most, c.loop-at-test.true) in
    search rules

pub add_one-requires-clause-named : goal.add_one-requires-clause-named
add_one-requires-clause-named c =
    let next = next_name c.args.names.now c.loop-at.at c.index-names-at.result c.loop-at-test.true c.index-names-at.is in
    (new_name c.args.dimension.now c.args.names.now c.args.place.now c.requires c.loop-at.at c.index-names-at.result next.0).named

pub add_one-requires-clause-new : goal.add_one-requires-clause-new
add_one-requires-clause-new c =
    let next = next_name c.args.names.now c.loop-at.at c.index-names-at.result c.loop-at-test.true c.index-names-at.is in
    let is = new_name c.args.dimension.now c.args.names.now c.args.place.now c.requires c.loop-at.at c.index-names-at.result next.0 in
    subst (λ (made : DimensionState). slot_of made c.index-names-at.result ≡ None) (sym c.loop-at.invariant)
    (still_new c.index-names-at.result c.args.dimension.now (take c.loop-at.at c.args.names.now) c.place_among-first.result is.unused is.once)

pub add_one-requires-clause-within : goal.add_one-requires-clause-within
add_one-requires-clause-within c =
    let first : c.place_among-first.result ≤ length c.args.dimension.now.entries = subst (λ (at : ℕ). at ≤ length c.args.dimension.now.entries) (sym c.place_among-first.ensures) (place_in c.args.dimension.now c.args.names.now c.args.place.now c.requires c.len.result c.len.ensures.value) in
    let taken : length (take c.loop-at.at c.args.names.now) ≡ c.loop-at.at = length-take-le c.loop-at.at c.args.names.now (omega (arith, c.loop-at-test.true)) in
    let len = length-added_at c.args.dimension.now (take c.loop-at.at c.args.names.now) c.place_among-first.result in
    let made : length c.loop-at.made.entries ≡ length (added_at c.args.dimension.now (take c.loop-at.at c.args.names.now) c.place_among-first.result).entries = ap (λ (made : DimensionState). length made.entries) c.loop-at.invariant in
    omega (arith, first, taken, len, made)

pub loop-at-preserved : goal.loop-at-preserved
loop-at-preserved c =
    let first : c.place_among-first.result ≤ length c.args.dimension.now.entries = subst (λ (at : ℕ). at ≤ length c.args.dimension.now.entries) (sym c.place_among-first.ensures) (place_in c.args.dimension.now c.args.names.now c.args.place.now c.requires c.len.result c.len.ensures.value) in
    let next = next_name c.args.names.now c.loop-at.at c.index-names-at.result c.loop-at-test.true c.index-names-at.is in
    let taken : length (take c.loop-at.at c.args.names.now) ≡ c.loop-at.at = length-take-le c.loop-at.at c.args.names.now (omega (arith, c.loop-at-test.true)) in
    c.in_ok-add_one.ensures
    ∙ ap (λ (made : DimensionState). edit.added made c.index-names-at.result (c.place_among-first.result + c.loop-at.at)) c.loop-at.invariant
    ∙ added_more c.args.dimension.now (take c.loop-at.at c.args.names.now) c.index-names-at.result c.place_among-first.result (c.place_among-first.result + c.loop-at.at) first (ap (λ (n : ℕ). c.place_among-first.result + n) (sym taken))
    ∙ ap (λ (names : List (List ℕ)). added_at c.args.dimension.now names c.place_among-first.result) (sym next.1)
