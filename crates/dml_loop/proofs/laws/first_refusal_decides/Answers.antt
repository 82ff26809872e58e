use Rattle.dml_loop.proofs.AssignedPlaces.{first-refusal}
use Rattle.dml_loop.proofs.laws.first_refusal_decides.Goals as goal

pub returns : goal.returns
returns c = first-refusal
