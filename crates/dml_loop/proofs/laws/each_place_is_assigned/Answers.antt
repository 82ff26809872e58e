use Rattle.dml_loop.proofs.AssignedPlaces.{is-assigned}
use Rattle.dml_loop.proofs.laws.each_place_is_assigned.Goals as goal

pub returns : goal.returns
returns c = is-assigned
