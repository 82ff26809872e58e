use Rattle.aw_cell.proofs.NumberLaws.{sums_commute, sums_associate}
use Rattle.aw_cell.proofs.laws.sums_in_any_order.Goals as goal

pub returns-clause-commute : goal.returns-clause-commute
returns-clause-commute c = sums_commute

pub returns-clause-associate : goal.returns-clause-associate
returns-clause-associate c = sums_associate
