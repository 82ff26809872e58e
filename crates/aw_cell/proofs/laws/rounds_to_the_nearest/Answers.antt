use Rattle.aw_cell.proofs.Rounding.{rounded_is_nearest}
use Rattle.aw_cell.proofs.RoundedAlone.{rounded_alone}
use Rattle.aw_cell.proofs.laws.rounds_to_the_nearest.Goals as goal

pub returns : goal.returns
returns c = record { nearest = rounded_is_nearest; alone = rounded_alone }
