use Rattle.aw_cell.proofs.NumeralSteps.{minus_first, no_minus_first, numeral_with_sign, numeral_without_sign}
use Rattle.aw_cell.proofs.numeral.read_numeral.Goals as goal

pub returns-in-Some : goal.returns-in-Some
returns-in-Some c =
    let text = c.args.text.now in
    let unsigned = c.in-Some.unsigned.now in
    numeral_with_sign text unsigned (minus_first text unsigned c.in-Some.ensures.cases.0 c.in-Some.ensures.cases.1) c.read_behind.result c.read_behind.ensures

pub returns-in-None : goal.returns-in-None
returns-in-None c =
    numeral_without_sign c.args.text.now (no_minus_first c.args.text.now c.in-None.ensures.cases) c.read_behind-in-None.result c.read_behind-in-None.ensures
