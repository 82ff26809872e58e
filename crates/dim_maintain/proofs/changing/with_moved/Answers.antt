use Rattle.std.proofs.Common.{◌≡◌, ◌≤◌, ◌-◌, ◌∙◌, ap, length, arith, rules}
use Rattle.aw_dim.specs.DimensionState.{DimensionState}
use Rattle.dim_maintain.specs.Maintained.{others, in_order}
use Rattle.dim_maintain.proofs.Behind.{behind_all}
use Rattle.dim_maintain.proofs.Moving.{made_is, made_len, these_len, within, moved_made}
use Rattle.dim_maintain.proofs.changing.with_moved.Goals as goal

pub overflow_cast-rest : goal.overflow_cast-rest
overflow_cast-rest c =
    let is : c.move_all_behind.new.made ≡ behind_all c.args.dimension.now c.args.names.now = c.move_all_behind.ensures ∙ ap (λ (made : DimensionState). behind_all made c.args.names.now) c.in_ok-made.ensures in
    let len = made_len c.args.dimension.now c.is_dimension.ensures c.args.names.now c.args.place.now c.requires c.move_all_behind.new.made is in
    let few : length c.args.names.now ≤ 65536 = omega (arith, len, c.len.ensures.value, c.len.ensures.most) in
    search rules

pub overflow_sub-rest : goal.overflow_sub-rest
overflow_sub-rest c =
    let is : c.move_all_behind.new.made ≡ behind_all c.args.dimension.now c.args.names.now = c.move_all_behind.ensures ∙ ap (λ (made : DimensionState). behind_all made c.args.names.now) c.in_ok-made.ensures in
    let len = made_len c.args.dimension.now c.is_dimension.ensures c.args.names.now c.args.place.now c.requires c.move_all_behind.new.made is in
    omega (arith, len, c.len.ensures.value)

pub place_among-at-requires-clause-known : goal.place_among-at-requires-clause-known
place_among-at-requires-clause-known c =
    let is : c.move_all_behind.new.made ≡ behind_all c.args.dimension.now c.args.names.now = c.move_all_behind.ensures ∙ ap (λ (made : DimensionState). behind_all made c.args.names.now) c.in_ok-made.ensures in
    let len = made_len c.args.dimension.now c.is_dimension.ensures c.args.names.now c.args.place.now c.requires c.move_all_behind.new.made is in
    let count : c.len.result - length c.args.names.now ≡ length (others c.args.names.now c.args.dimension.now.entries) = omega (arith, len, c.len.ensures.value) in
    within c.args.dimension.now c.is_dimension.ensures c.args.names.now c.args.place.now c.requires c.move_all_behind.new.made is (c.len.result - length c.args.names.now) count

pub move_from_end-requires : goal.move_from_end-requires
move_from_end-requires c =
    let is : c.move_all_behind.new.made ≡ behind_all c.args.dimension.now c.args.names.now = c.move_all_behind.ensures ∙ ap (λ (made : DimensionState). behind_all made c.args.names.now) c.in_ok-made.ensures in
    let len = made_len c.args.dimension.now c.is_dimension.ensures c.args.names.now c.args.place.now c.requires c.move_all_behind.new.made is in
    let count : c.len.result - length c.args.names.now ≡ length (others c.args.names.now c.args.dimension.now.entries) = omega (arith, len, c.len.ensures.value) in
    let low = within c.args.dimension.now c.is_dimension.ensures c.args.names.now c.args.place.now c.requires c.move_all_behind.new.made is (c.len.result - length c.args.names.now) count in
    omega (arith, low, len, count, c.place_among-at.ensures)

pub returns : goal.returns
returns c =
    let is : c.move_all_behind.new.made ≡ behind_all c.args.dimension.now c.args.names.now = c.move_all_behind.ensures ∙ ap (λ (made : DimensionState). behind_all made c.args.names.now) c.in_ok-made.ensures in
    let len = made_len c.args.dimension.now c.is_dimension.ensures c.args.names.now c.args.place.now c.requires c.move_all_behind.new.made is in
    let count : c.len.result - length c.args.names.now ≡ length (others c.args.names.now c.args.dimension.now.entries) = omega (arith, len, c.len.ensures.value) in
    moved_made c.args.dimension.now c.is_dimension.ensures c.args.names.now c.args.place.now c.requires c.move_all_behind.new.made is (c.len.result - length c.args.names.now) c.place_among-at.result c.move_from_end.new.made count c.place_among-at.ensures
    (c.move_from_end.ensures (others c.args.names.now c.args.dimension.now.entries) (in_order c.args.names.now c.args.dimension.now.entries)
    (made_is c.args.dimension.now c.is_dimension.ensures c.args.names.now c.args.place.now c.requires c.move_all_behind.new.made is)
    (these_len c.args.dimension.now c.is_dimension.ensures c.args.names.now c.args.place.now c.requires c.move_all_behind.new.made is))
