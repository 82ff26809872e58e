use Rattle.aw_cell.proofs.NumeralSteps.{gives_the_number, refuses_other_texts, refuses_past_the_range}
use Rattle.aw_cell.proofs.number.Number.read.Goals as goal

pub returns-clause-value : goal.returns-clause-value
returns-clause-value c = gives_the_number c.args.text.now c.read_numeral.result c.read_numeral.ensures

pub returns-clause-not_a_number : goal.returns-clause-not_a_number
returns-clause-not_a_number c = refuses_other_texts c.args.text.now c.read_numeral.result c.read_numeral.ensures

pub returns-clause-overflow : goal.returns-clause-overflow
returns-clause-overflow c = refuses_past_the_range c.args.text.now c.read_numeral.result c.read_numeral.ensures
