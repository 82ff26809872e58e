use Rattle.aw_body.specs.KeptBodies.{bodies_from}
use Rattle.mv_view.proofs.callers.Fitting.{acquiring}
use Rattle.mv_view.proofs.laws.acquiring_fits.Goals as goal

pub returns : goal.returns
returns c = λ definitions numbers firsts history owners view keep fresh fits may are. acquiring (bodies_from definitions numbers firsts) history definitions owners view keep fresh fits may are
