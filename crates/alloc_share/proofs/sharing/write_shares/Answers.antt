use Rattle.std.proofs.Common.{◌≡◌, ◌∙◌, ℤ, pos, true, slice_index_or, to_z, of_z, FitsSigned, rules, w64, sym, ap, subst}
use mir.Syntax.{w128}
use Rattle.std.proofs.lemmas.Int.{to_z-of_z}
use Rattle.alloc_share.specs.Shares.{parts_of, truncated, shares_by, is_within}
use Rattle.alloc_share.proofs.Sizes.{share_fits}
use Rattle.alloc_share.proofs.Within.{within_at, written_more, written_all}
use Rattle.alloc_share.proofs.sharing.write_shares.Goals as goal

pub overflow_cast-into : goal.overflow_cast-into
overflow_cast-into c =
    let weight : ℤ = slice_index_or c.args.weights.now c.loop-place.place (pos 0) in
    let f = c.ranges.amount in
    let g = c.ranges.all_parts in
    let i : FitsSigned w128 (slice_index_or c.args.weights.now c.loop-place.place (pos 0)) = search rules in
    let j : FitsSigned w128 c.truncated_share.result = record { sfits = c.truncated_share.type_inv } in
    let share : c.truncated_share.result ≡ truncated c.args.amount (parts_of c.args.how (slice_index_or c.args.weights.now c.loop-place.place (pos 0))) c.args.all_parts = simp to_z-of_z at c.truncated_share.ensures in
    let within : is_within (pos 9223372036854775807) c.truncated_share.result ≡ true =
    ap (is_within (pos 9223372036854775807)) share
    ∙ within_at (pos 9223372036854775807) (λ w. truncated c.args.amount (parts_of c.args.how w) c.args.all_parts) c.args.weights.now c.loop-place.place c.loop-place-test.true c.requires.fit in
    let P : ℤ → Type 0 = λ z. FitsSigned w64 z in
    subst P (sym (to_z-of_z w128 c.truncated_share.result j)) (share_fits c.truncated_share.result within)

pub loop-place-preserved : goal.loop-place-preserved
loop-place-preserved c =
    let weight : ℤ = slice_index_or c.args.weights.now c.loop-place.place (pos 0) in
    let amount : ℤ = to_z w64 (of_z w64 c.args.amount) in
    let all_parts : ℤ = to_z w128 (of_z w128 c.args.all_parts) in
    let f = c.ranges.amount in
    let g = c.ranges.all_parts in
    let i : FitsSigned w128 (slice_index_or c.args.weights.now c.loop-place.place (pos 0)) = search rules in
    let j : FitsSigned w128 c.truncated_share.result = record { sfits = c.truncated_share.type_inv } in
    let share : c.truncated_share.result ≡ truncated c.args.amount (parts_of c.args.how (slice_index_or c.args.weights.now c.loop-place.place (pos 0))) c.args.all_parts = simp to_z-of_z at c.truncated_share.ensures in
    let within : is_within (pos 9223372036854775807) c.truncated_share.result ≡ true =
    ap (is_within (pos 9223372036854775807)) share
    ∙ within_at (pos 9223372036854775807) (λ w. truncated c.args.amount (parts_of c.args.how w) c.args.all_parts) c.args.weights.now c.loop-place.place c.loop-place-test.true c.requires.fit in
    let same : to_z w64 (of_z w64 (to_z w128 (of_z w128 c.truncated_share.result))) ≡ c.truncated_share.result =
    ap (λ z. to_z w64 (of_z w64 z)) (to_z-of_z w128 c.truncated_share.result j) ∙ to_z-of_z w64 c.truncated_share.result (share_fits c.truncated_share.result within) in
    let again : c.truncated_share.result ≡ truncated amount (parts_of c.args.how weight) all_parts =
    c.truncated_share.ensures ∙ ap (λ z. truncated amount (parts_of c.args.how z) all_parts) (to_z-of_z w128 weight i) in
    written_more (λ w. truncated amount (parts_of c.args.how w) all_parts) c.args.weights.now c.args.into.now c.loop-place.into c.loop-place.place
    (to_z w64 (of_z w64 (to_z w128 (of_z w128 c.truncated_share.result)))) c.loop-place-test.true c.requires.lengths c.loop-place.invariant (same ∙ again)

pub returns : goal.returns
returns c =
    let f = c.ranges.amount in
    let g = c.ranges.all_parts in
    written_all (λ w. truncated (to_z w64 (of_z w64 c.args.amount)) (parts_of c.args.how w) (to_z w128 (of_z w128 c.args.all_parts))) c.args.weights.now c.args.into.now c.loop-place.into c.loop-place.place
    c.loop-place-test.false c.requires.lengths c.loop-place.invariant
    ∙ ap (λ z. shares_by c.args.how z (to_z w128 (of_z w128 c.args.all_parts)) c.args.weights.now) (to_z-of_z w64 c.args.amount f)
    ∙ ap (λ z. shares_by c.args.how c.args.amount z c.args.weights.now) (to_z-of_z w128 c.args.all_parts g)
