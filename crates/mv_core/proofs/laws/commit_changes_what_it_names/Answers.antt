use Rattle.mv_core.proofs.StepLaws.{commit-changes}
use Rattle.mv_core.proofs.laws.commit_changes_what_it_names.Goals as goal

pub returns : goal.returns
returns c = commit-changes
