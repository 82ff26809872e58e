use Rattle.aw_cell.proofs.TableLaws.{equal_to_itself, compares_with_na}
use Rattle.aw_cell.proofs.laws.na_compares_with_na.Goals as goal

pub returns-clause-itself : goal.returns-clause-itself
returns-clause-itself c = equal_to_itself

pub returns-clause-table : goal.returns-clause-table
returns-clause-table c = compares_with_na
