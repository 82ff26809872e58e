use Rattle.aw_body.specs.KeptBodies.{bodies_from}
use Rattle.mv_view.proofs.callers.Committing.{others-fit}
use Rattle.mv_view.proofs.laws.others_keep_the_fit.Goals as goal

pub returns : goal.returns
returns c = λ definitions numbers firsts history owners after commit view mine same fits. others-fit (bodies_from definitions numbers firsts) definitions history owners after commit view mine same fits
