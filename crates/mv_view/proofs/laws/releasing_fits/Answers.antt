use Rattle.aw_body.specs.KeptBodies.{bodies_from}
use Rattle.mv_view.proofs.callers.Committing.{releasing}
use Rattle.mv_view.proofs.laws.releasing_fits.Goals as goal

pub returns : goal.returns
returns c = λ definitions numbers firsts history owners view objects seen own fits. releasing c.difference_gives_newer.ensures (bodies_from definitions numbers firsts) definitions history owners view objects seen own fits
