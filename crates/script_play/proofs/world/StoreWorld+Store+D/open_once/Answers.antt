use Rattle.script_play.proofs.Told.{told_none}
use Rattle.script_play.proofs.world.StoreWorld+Store+D.open_once.Goals as goal

pub returns-then-not-is_unopened-clause-told : goal.returns-then-not-is_unopened-clause-told
returns-then-not-is_unopened-clause-told g c = told_none
