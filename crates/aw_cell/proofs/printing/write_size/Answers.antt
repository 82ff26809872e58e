use Rattle.std.proofs.Common.{◌/◌, arith, rules}
use Rattle.std.proofs.lemmas.Fmt.{length-decimal-le}
use Rattle.aw_cell.proofs.printing.write_size.Goals as goal

pub write_digits-requires : goal.write_digits-requires
write_digits-requires c =
    (omega (arith, length-decimal-le 14 (c.args.size / 10000) (omega arith) (omega arith) (omega arith)), search rules)

pub returns-clause-place : goal.returns-clause-place
returns-clause-place c =
    omega (arith, length-decimal-le 14 (c.args.size / 10000) (omega arith) (omega arith) (omega arith))
