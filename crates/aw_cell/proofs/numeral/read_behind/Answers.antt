use Rattle.aw_cell.proofs.NumeralSteps.{behind_faults}
use Rattle.aw_cell.proofs.numeral.read_behind.Goals as goal

pub returns-in-Err : goal.returns-in-Err
returns-in-Err c = behind_faults c.args.negative c.args.unsigned.now c.in-Err.why c.in-Err.ensures
