use Rattle.std.proofs.Common.{◌≡◌, ◌∙◌, ◌+◌, ◌<◌, ◌≤◌, pos, ◌+ℤ◌, true, slice_index_or, unsigned_abs, to_z, of_z, FitsSigned, rules, length, ap}
use mir.Syntax.{w128}
use Rattle.std.proofs.lemmas.Int.{to_z-of_z}
use Rattle.alloc_share.specs.Shares.{parts_of, truncated, is_within}
use Rattle.alloc_share.specs.inside.Sums.{remainder_of}
use Rattle.alloc_share.proofs.Sizes.{weight_at, within_small, full_fits, wide_sum_fits}
use Rattle.alloc_share.proofs.Within.{within_at}
use Rattle.alloc_share.proofs.sharing.full_share.Goals as goal

pub truncated_share-requires-clause-weight : goal.truncated_share-requires-clause-weight
truncated_share-requires-clause-weight c = weight_at c.args.weights.now c.args.place c.requires.weights c.requires.there

pub overflow_add-result : goal.overflow_add-result
overflow_add-result c =
    let few : length c.args.weights.now < 18446744073709551616 = search rules in
    let f = c.ranges.amount in
    let g = c.ranges.all_parts in
    let h = c.ranges.sum in
    let i : FitsSigned w128 (slice_index_or c.args.weights.now c.args.place (pos 0)) = search rules in
    let share : c.truncated_share.result ≡ truncated c.args.amount (parts_of c.args.how (slice_index_or c.args.weights.now c.args.place (pos 0))) c.args.all_parts = simp to_z-of_z at c.truncated_share.ensures in
    let within : is_within (pos 9223372036854775807) c.truncated_share.result ≡ true =
    ap (is_within (pos 9223372036854775807)) share
    ∙ within_at (pos 9223372036854775807) (λ w. truncated c.args.amount (parts_of c.args.how w) c.args.all_parts) c.args.weights.now c.args.place c.requires.there c.requires.fit in
    let small : unsigned_abs c.remainder.result ≤ unsigned_abs c.args.sum + 9223372036854775808 = simp to_z-of_z at c.remainder.ensures.small in
    wide_sum_fits c.truncated_share.result c.remainder.result (record { sfits = c.truncated_share.type_inv }) (record { sfits = c.remainder.type_inv })
    (full_fits c.truncated_share.result c.remainder.result c.args.sum (length c.args.weights.now) (within_small 9223372036854775807 c.truncated_share.result within) small c.requires.small few)

pub returns : goal.returns
returns c =
    let few : length c.args.weights.now < 18446744073709551616 = search rules in
    let f = c.ranges.amount in
    let g = c.ranges.all_parts in
    let h = c.ranges.sum in
    let i : FitsSigned w128 (slice_index_or c.args.weights.now c.args.place (pos 0)) = search rules in
    let j : FitsSigned w128 c.truncated_share.result = record { sfits = c.truncated_share.type_inv } in
    let k : FitsSigned w128 c.remainder.result = record { sfits = c.remainder.type_inv } in
    let share : c.truncated_share.result ≡ truncated c.args.amount (parts_of c.args.how (slice_index_or c.args.weights.now c.args.place (pos 0))) c.args.all_parts = simp to_z-of_z at c.truncated_share.ensures in
    let rest : c.remainder.result ≡ remainder_of c.args.how c.args.amount c.args.sum = simp to_z-of_z at c.remainder.ensures.value in
    let within : is_within (pos 9223372036854775807) c.truncated_share.result ≡ true =
    ap (is_within (pos 9223372036854775807)) share
    ∙ within_at (pos 9223372036854775807) (λ w. truncated c.args.amount (parts_of c.args.how w) c.args.all_parts) c.args.weights.now c.args.place c.requires.there c.requires.fit in
    let small : unsigned_abs c.remainder.result ≤ unsigned_abs c.args.sum + 9223372036854775808 = simp to_z-of_z at c.remainder.ensures.small in
    let fits : FitsSigned w128 (c.truncated_share.result +ℤ c.remainder.result) =
    full_fits c.truncated_share.result c.remainder.result c.args.sum (length c.args.weights.now) (within_small 9223372036854775807 c.truncated_share.result within) small c.requires.small few in
    ap (λ z. to_z w128 (of_z w128 (z +ℤ to_z w128 (of_z w128 c.remainder.result)))) (to_z-of_z w128 c.truncated_share.result j)
    ∙ ap (λ z. to_z w128 (of_z w128 (c.truncated_share.result +ℤ z))) (to_z-of_z w128 c.remainder.result k)
    ∙ to_z-of_z w128 (c.truncated_share.result +ℤ c.remainder.result) fits
    ∙ ap (λ z. z +ℤ c.remainder.result) share
    ∙ ap (λ z. truncated c.args.amount (parts_of c.args.how (slice_index_or c.args.weights.now c.args.place (pos 0))) c.args.all_parts +ℤ z) rest
