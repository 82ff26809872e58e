use Rattle.mv_view.proofs.callers.Committing.{committing}
use Rattle.mv_view.proofs.laws.committing_fits.Goals as goal

pub returns : goal.returns
returns c = λ definitions numbers firsts history owners view seen rise fits. committing definitions numbers firsts c.difference_gives_newer.ensures history owners view seen rise fits
