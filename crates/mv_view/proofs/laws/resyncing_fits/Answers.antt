use Rattle.aw_body.specs.KeptBodies.{bodies_from}
use Rattle.mv_view.proofs.callers.Fitting.{resyncing}
use Rattle.mv_view.proofs.laws.resyncing_fits.Goals as goal

pub returns : goal.returns
returns c = λ definitions numbers firsts history owners view fresh fits are. resyncing (bodies_from definitions numbers firsts) history definitions owners view fresh fits are
