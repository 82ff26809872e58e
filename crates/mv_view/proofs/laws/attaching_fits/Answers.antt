use Rattle.aw_body.specs.KeptBodies.{bodies_from}
use Rattle.mv_view.proofs.callers.Committing.{attaching}
use Rattle.mv_view.proofs.laws.attaching_fits.Goals as goal

pub returns : goal.returns
returns c = λ definitions numbers firsts history owners who fresh objects are nobody. attaching (bodies_from definitions numbers firsts) definitions history owners who fresh objects are nobody
