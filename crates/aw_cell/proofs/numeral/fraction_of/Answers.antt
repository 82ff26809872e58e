use Rattle.std.proofs.Common.{arith}
use Rattle.aw_cell.proofs.Numerals.{value_small, fraction_small}
use Rattle.aw_cell.proofs.numeral.fraction_of.Goals as goal

pub overflow_mul-result : goal.overflow_mul-result
overflow_mul-result c =
    let small = fraction_small c.args.decimals.now c.requires.few c.requires.digits in
    let value = c.in-Some.ensures.1 in
    rw (value, c.pow.ensures) (omega arith)

pub unreachable-requires : goal.unreachable-requires
unreachable-requires c = c.in-None.ensures (omega (arith, value_small c.args.decimals.now c.requires.few c.requires.digits))

pub returns-clause-small : goal.returns-clause-small
returns-clause-small c =
    let value = c.in-Some.ensures.1 in
    rw (value, c.pow.ensures) (fraction_small c.args.decimals.now c.requires.few c.requires.digits)
