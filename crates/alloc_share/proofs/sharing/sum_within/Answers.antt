use Rattle.std.proofs.Common.{◌≡◌, ◌∙◌, ◌+◌, ◌*◌, Some, ◌<◌, ◌≤◌, ℤ, pos, ◌+ℤ◌, true, slice_index_or, unsigned_abs, to_z, of_z, FitsSigned, rules, arith, length, w64, sym, ap, subst}
use mir.Syntax.{w128}
use Rattle.std.proofs.lemmas.Int.{to_z-of_z}
use Rattle.alloc_share.specs.Shares.{parts_of, truncated, is_within}
use Rattle.alloc_share.proofs.Sizes.{weight_at, abs_sum, share_small, sum_fits}
use Rattle.alloc_share.proofs.Within.{out_at, sum_more}
use Rattle.alloc_share.proofs.sharing.sum_within.Goals as goal

pub truncated_share-share-requires-clause-weight : goal.truncated_share-share-requires-clause-weight
truncated_share-share-requires-clause-weight c = weight_at c.args.weights.now c.loop-weight.weight-index c.requires.weights c.loop-weight-test.true

pub returns-then-not-is_within-clause-value : goal.returns-then-not-is_within-clause-value
returns-then-not-is_within-clause-value c =
    let f = c.ranges.limit in
    let g = c.ranges.amount in
    let h = c.ranges.all_parts in
    let weight : ℤ = slice_index_or c.args.weights.now c.loop-weight.weight-index (pos 0) in
    let i : FitsSigned w128 (slice_index_or c.args.weights.now c.loop-weight.weight-index (pos 0)) = search rules in
    let j : FitsSigned w128 c.truncated_share-share.result = record { sfits = c.truncated_share-share.type_inv } in
    let share : c.truncated_share-share.result ≡ truncated c.args.amount (parts_of c.args.how (slice_index_or c.args.weights.now c.loop-weight.weight-index (pos 0))) c.args.all_parts = simp to_z-of_z at c.truncated_share-share.ensures in
    let within : c.is_within.result ≡ is_within c.args.limit c.truncated_share-share.result = simp to_z-of_z at c.is_within.ensures in
    out_at c.args.limit (λ w. truncated c.args.amount (parts_of c.args.how w) c.args.all_parts) c.args.weights.now c.loop-weight.weight-index c.loop-weight-test.true
    (ap (is_within c.args.limit) (sym share) ∙ sym within ∙ c.if-not-is_within.true)

pub overflow_add-sum : goal.overflow_add-sum
overflow_add-sum c =
    let few : length c.args.weights.now < 18446744073709551616 = search rules in
    let f = c.ranges.limit in
    let j : FitsSigned w128 c.truncated_share-share.result = record { sfits = c.truncated_share-share.type_inv } in
    let within : c.is_within.result ≡ is_within c.args.limit c.truncated_share-share.result = simp to_z-of_z at c.is_within.ensures in
    let P : ℤ → Type 0 = λ z. FitsSigned w128 (to_z w128 c.loop-weight.sum-bits +ℤ z) in
    subst P (sym (to_z-of_z w128 c.truncated_share-share.result j))
    (sum_fits (to_z w128 c.loop-weight.sum-bits) c.truncated_share-share.result c.loop-weight.weight-index c.loop-weight.invariant.1
    (omega (arith, few, c.loop-weight-test.true)) (share_small c.args.limit c.truncated_share-share.result c.ranges.limit (sym within ∙ c.if-not-is_within.false)))

pub loop-weight-preserved : goal.loop-weight-preserved
loop-weight-preserved c =
    let few : length c.args.weights.now < 18446744073709551616 = search rules in
    let f = c.ranges.limit in
    let sum : ℤ = to_z w128 c.loop-weight.sum-bits in
    let next : ℤ = c.truncated_share-share.result in
    let limit : ℤ = to_z w64 (of_z w64 c.args.limit) in
    let amount : ℤ = to_z w64 (of_z w64 c.args.amount) in
    let all_parts : ℤ = to_z w128 (of_z w128 c.args.all_parts) in
    let weight : ℤ = slice_index_or c.args.weights.now c.loop-weight.weight-index (pos 0) in
    let i : FitsSigned w128 (slice_index_or c.args.weights.now c.loop-weight.weight-index (pos 0)) = search rules in
    let j : FitsSigned w128 c.truncated_share-share.result = record { sfits = c.truncated_share-share.type_inv } in
    let share : next ≡ truncated amount (parts_of c.args.how weight) all_parts =
    c.truncated_share-share.ensures ∙ ap (λ z. truncated amount (parts_of c.args.how z) all_parts) (to_z-of_z w128 weight i) in
    let within : is_within limit next ≡ true = ap (is_within limit) (sym (to_z-of_z w128 next j)) ∙ sym c.is_within.ensures ∙ c.if-not-is_within.false in
    let small : unsigned_abs next ≤ 9223372036854775807 = share_small c.args.limit next f (ap (λ m. is_within m next) (sym (to_z-of_z w64 c.args.limit f)) ∙ within) in
    let fits : FitsSigned w128 (sum +ℤ next) = sum_fits sum next c.loop-weight.weight-index c.loop-weight.invariant.1 (omega (arith, few, c.loop-weight-test.true)) small in
    let same : to_z w128 (of_z w128 (sum +ℤ to_z w128 (of_z w128 next))) ≡ sum +ℤ next = ap (λ z. to_z w128 (of_z w128 (sum +ℤ z))) (to_z-of_z w128 next j) ∙ to_z-of_z w128 (sum +ℤ next) fits in
    let bound : unsigned_abs (sum +ℤ next) ≤ (c.loop-weight.weight-index + 1) * 9223372036854775807 = omega (arith, abs_sum sum next, c.loop-weight.invariant.1, small) in
    let P : ℤ → Type 0 = λ z. unsigned_abs z ≤ (c.loop-weight.weight-index + 1) * 9223372036854775807 in (
      sum_more limit (λ w. truncated amount (parts_of c.args.how w) all_parts) c.args.weights.now c.loop-weight.weight-index sum next c.loop-weight-test.true c.loop-weight.invariant.0 share within
          ∙ ap (λ z. Some z) (sym same),
      subst P (sym same) bound,
    )
