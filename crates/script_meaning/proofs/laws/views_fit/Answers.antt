use Rattle.script_meaning.proofs.ReachableWorlds.{always_fits}
use Rattle.script_meaning.proofs.laws.views_fit.Goals as goal

pub returns : goal.returns
returns c = always_fits
