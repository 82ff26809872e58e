use Rattle.script_meaning.proofs.DiskExtending.{grants_have_latest}
use Rattle.script_meaning.proofs.laws.grants_have_the_latest.Goals as goal

pub returns : goal.returns
returns c = grants_have_latest
