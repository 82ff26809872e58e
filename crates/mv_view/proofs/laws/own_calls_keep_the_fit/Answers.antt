use Rattle.aw_body.specs.KeptBodies.{bodies_from}
use Rattle.mv_view.proofs.callers.Fitting.{own-calls}
use Rattle.mv_view.proofs.laws.own_calls_keep_the_fit.Goals as goal

pub returns : goal.returns
returns c = λ definitions numbers firsts history owners view fits. own-calls definitions (bodies_from definitions numbers firsts) history owners view fits
