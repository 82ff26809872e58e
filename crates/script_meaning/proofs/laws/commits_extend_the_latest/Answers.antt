use Rattle.script_meaning.proofs.DiskExtending.{commits_extend}
use Rattle.script_meaning.proofs.laws.commits_extend_the_latest.Goals as goal

pub returns : goal.returns
returns c = commits_extend
