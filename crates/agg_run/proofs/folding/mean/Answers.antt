use Rattle.std.proofs.Common.{◌≡◌, ◌≤◌, ◌^◌, ◌*◌, pos, unsigned_abs, to_z, of_z, ◌-ℤ◌, ◌+ℤ◌, ap, ◌∙◌, arith}
use Rattle.std.specs.Int.{w128}
use Rattle.std.specs.Int.RustNames.{int_div, int_rem}
use Rattle.std.proofs.lemmas.Int.{ints, to_z-of_z, quot_is, quot_fits}
use Rattle.agg_run.proofs.Means.{whole_mean, less_mean, more_mean, rem_fits, less_fits, more_fits}
use Rattle.agg_run.proofs.folding.mean.Goals as goal

pub returns-then-rest-unsigned_abs : goal.returns-then-rest-unsigned_abs
returns-then-rest-unsigned_abs c =
    let f = c.ranges.sum in
    let g = c.ranges.count in
    let h = rem_fits c.args.sum c.args.count c.requires.some g in
    let whole = quot_is w128 c.args.sum c.args.count f g (quot_fits w128 c.args.sum c.args.count f c.requires.some) in
    let rest : c.unsigned_abs-rest.result ≡ unsigned_abs (int_rem c.args.sum c.args.count) = simp to_z-of_z at c.unsigned_abs-rest.ensures.value in
    let count : c.unsigned_abs.result ≡ unsigned_abs c.args.count = simp to_z-of_z at c.unsigned_abs.ensures.value in
    whole ∙ whole_mean c.args.sum c.args.count c.unsigned_abs-rest.result c.unsigned_abs.result c.requires.some rest count c.if-rest-unsigned_abs.true

pub returns-then-sum-lt0 : goal.returns-then-sum-lt0
returns-then-sum-lt0 c =
    let f = c.ranges.sum in
    let g = c.ranges.count in
    let h = rem_fits c.args.sum c.args.count c.requires.some g in
    let whole = quot_is w128 c.args.sum c.args.count f g (quot_fits w128 c.args.sum c.args.count f c.requires.some) in
    let rest : c.unsigned_abs-rest.result ≡ unsigned_abs (int_rem c.args.sum c.args.count) = simp to_z-of_z at c.unsigned_abs-rest.ensures.value in
    let count : c.unsigned_abs.result ≡ unsigned_abs c.args.count = simp to_z-of_z at c.unsigned_abs.ensures.value in
    let high : unsigned_abs c.args.count ≤ 2 * unsigned_abs (int_rem c.args.sum c.args.count) = omega (arith, rest, count, c.if-rest-unsigned_abs.false) in
    let few : unsigned_abs c.args.count ≤ 2 ^ 64 = omega (arith, ints, c.requires.few, c.requires.some) in
    ap (λ q. to_z w128 (of_z w128 (q -ℤ pos 1))) whole
    ∙ to_z-of_z w128 (int_div c.args.sum c.args.count -ℤ pos 1) (less_fits c.args.sum c.args.count c.requires.some high f few)
    ∙ less_mean c.args.sum c.args.count c.unsigned_abs-rest.result c.unsigned_abs.result c.requires.some rest count (omega (arith, ints, c.if-sum-lt0.true)) c.if-rest-unsigned_abs.false

pub returns-else-sum-lt0 : goal.returns-else-sum-lt0
returns-else-sum-lt0 c =
    let f = c.ranges.sum in
    let g = c.ranges.count in
    let h = rem_fits c.args.sum c.args.count c.requires.some g in
    let whole = quot_is w128 c.args.sum c.args.count f g (quot_fits w128 c.args.sum c.args.count f c.requires.some) in
    let rest : c.unsigned_abs-rest.result ≡ unsigned_abs (int_rem c.args.sum c.args.count) = simp to_z-of_z at c.unsigned_abs-rest.ensures.value in
    let count : c.unsigned_abs.result ≡ unsigned_abs c.args.count = simp to_z-of_z at c.unsigned_abs.ensures.value in
    let high : unsigned_abs c.args.count ≤ 2 * unsigned_abs (int_rem c.args.sum c.args.count) = omega (arith, rest, count, c.if-rest-unsigned_abs.false) in
    let few : unsigned_abs c.args.count ≤ 2 ^ 64 = omega (arith, ints, c.requires.few, c.requires.some) in
    ap (λ q. to_z w128 (of_z w128 (q +ℤ pos 1))) whole
    ∙ to_z-of_z w128 (int_div c.args.sum c.args.count +ℤ pos 1) (more_fits c.args.sum c.args.count c.requires.some high f few)
    ∙ more_mean c.args.sum c.args.count c.unsigned_abs-rest.result c.unsigned_abs.result c.requires.some rest count (omega (arith, ints, c.if-sum-lt0.false)) c.if-rest-unsigned_abs.false
