use Rattle.std.proofs.Common.{◌≡◌, ◌∙◌, arith, pos, ◌-ℤ◌, neg_ℤ, to_z, of_z, ap}
use mir.Syntax.{w128}
use Rattle.std.proofs.lemmas.Int.{ints, to_z-of_z}
use Rattle.std.specs.Prelude.{unsigned_abs, true, false}
use Rattle.std.specs.Bool.{beq}
use Rattle.std.specs.Int.{is_negative}
use Rattle.aw_cell.specs.Rounding.{nearest}
use Rattle.aw_cell.proofs.Rounding.{rounded_alike, rounded_unlike}
use Rattle.aw_cell.proofs.number.rounded.Goals as goal

pub returns-then-dividend-divisor : goal.returns-then-dividend-divisor
returns-then-dividend-divisor c =
    let f = c.ranges.dividend in
    let g = c.ranges.divisor in
    let same : beq (is_negative c.args.dividend) (is_negative c.args.divisor) ≡ true = simp to_z-of_z at c.if-dividend-divisor.true in
    let left : c.unsigned_abs.result ≡ unsigned_abs c.args.dividend = simp to_z-of_z at c.unsigned_abs.ensures.value in
    let right : c.unsigned_abs-2.result ≡ unsigned_abs c.args.divisor = simp to_z-of_z at c.unsigned_abs-2.ensures.value in
    let size : c.nearest-size.result ≡ nearest (unsigned_abs c.args.dividend) (unsigned_abs c.args.divisor) =
    c.nearest-size.ensures.value ∙ ap (λ p. nearest p c.unsigned_abs-2.result) left ∙ ap (λ q. nearest (unsigned_abs c.args.dividend) q) right in
    let e : to_z w128 c.nearest-size.result ≡ pos c.nearest-size.result = omega (arith, ints) in
    e ∙ rounded_alike _ _ _ same size

pub returns-else-dividend-divisor : goal.returns-else-dividend-divisor
returns-else-dividend-divisor c =
    let f = c.ranges.dividend in
    let g = c.ranges.divisor in
    let unlike : beq (is_negative c.args.dividend) (is_negative c.args.divisor) ≡ false = simp to_z-of_z at c.if-dividend-divisor.false in
    let left : c.unsigned_abs.result ≡ unsigned_abs c.args.dividend = simp to_z-of_z at c.unsigned_abs.ensures.value in
    let right : c.unsigned_abs-2.result ≡ unsigned_abs c.args.divisor = simp to_z-of_z at c.unsigned_abs-2.ensures.value in
    let size : c.nearest-size.result ≡ nearest (unsigned_abs c.args.dividend) (unsigned_abs c.args.divisor) =
    c.nearest-size.ensures.value ∙ ap (λ p. nearest p c.unsigned_abs-2.result) left ∙ ap (λ q. nearest (unsigned_abs c.args.dividend) q) right in
    let e : to_z w128 (of_z w128 (pos 0 -ℤ to_z w128 c.nearest-size.result)) ≡ neg_ℤ (pos c.nearest-size.result) = omega (arith, ints) in
    e ∙ rounded_unlike _ _ _ unlike size
