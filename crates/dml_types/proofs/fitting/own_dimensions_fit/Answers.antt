use Rattle.dml_types.proofs.fitting.own_dimensions_fit.Goals as goal

pub returns-in-Assign : goal.returns-in-Assign
returns-in-Assign c = rw c.in-Assign.is c.target_fits.ensures
