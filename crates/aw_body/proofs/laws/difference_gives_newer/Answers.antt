use Rattle.aw_body.proofs.callers.PatchLaws.{difference-gives-newer}
use Rattle.aw_body.proofs.laws.difference_gives_newer.Goals as goal

pub returns : goal.returns
returns c = λ older newer older_is newer_is alike. difference-gives-newer c.difference_gives_newer.ensures c.difference_tells_apart.ensures older newer older_is newer_is alike
