use Rattle.script_play.proofs.Told.{told_none}
use Rattle.script_play.proofs.world.StoreWorld+Store+D.finish.Goals as goal

pub returns-then-not-is_unopened-clause-told : goal.returns-then-not-is_unopened-clause-told
returns-then-not-is_unopened-clause-told g c = told_none

pub returns-then-len-eq0-clause-told : goal.returns-then-len-eq0-clause-told
returns-then-len-eq0-clause-told g c = told_none
