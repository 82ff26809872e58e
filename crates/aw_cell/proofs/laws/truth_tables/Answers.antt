use Rattle.aw_cell.proofs.TableLaws.{and_of_each_pair, or_of_each_pair, not_of_each, one_side_decides}
use Rattle.aw_cell.proofs.laws.truth_tables.Goals as goal

pub returns-clause-and : goal.returns-clause-and
returns-clause-and c = and_of_each_pair

pub returns-clause-or : goal.returns-clause-or
returns-clause-or c = or_of_each_pair

pub returns-clause-not : goal.returns-clause-not
returns-clause-not c = not_of_each

pub returns-clause-decides : goal.returns-clause-decides
returns-clause-decides c = one_side_decides
