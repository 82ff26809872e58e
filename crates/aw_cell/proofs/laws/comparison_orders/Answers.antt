use Rattle.aw_cell.proofs.CellLaws.{numbers_ordered, texts_ordered}
use Rattle.aw_cell.proofs.laws.comparison_orders.Goals as goal

pub returns-clause-numbers : goal.returns-clause-numbers
returns-clause-numbers c = numbers_ordered

pub returns-clause-texts : goal.returns-clause-texts
returns-clause-texts c = texts_ordered
