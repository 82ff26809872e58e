use Rattle.std.proofs.Common.{◌*ℤ◌, FitsSigned, arith, lit<, w64}
use Rattle.std.proofs.lemmas.Int.{to_z-of_z, fits_signed_mul}
use Rattle.std.specs.Int.Signed.{nat_abs-le}
use Rattle.aw_cell.proofs.arithmetic.integer_product.Goals as goal

pub returns : goal.returns
returns c =
    let f = c.ranges.left in
    let g = c.ranges.right in
    let left_fits : FitsSigned w64 c.args.left = record { sfits = omega (arith, f.sfits) } in
    let right_fits : FitsSigned w64 c.args.right = record { sfits = omega (arith, g.sfits) } in
    let fits : FitsSigned w64 (c.args.left *ℤ c.args.right) =
    fits_signed_mul w64 c.args.left c.args.right 2147483648 2147483648 (nat_abs-le c.args.left f.sfits) (nat_abs-le c.args.right g.sfits) (lit< tt) in
    simp to_z-of_z at c.integer.ensures
