use Rattle.script_meaning.proofs.ReachableWorlds.{leaves_a_run_of, leaves_what_opens}
use Rattle.script_meaning.proofs.laws.crashes_leave_what_a_run_settles.Goals as goal

pub returns-clause-settled : goal.returns-clause-settled
returns-clause-settled c = leaves_a_run_of

pub returns-clause-opens : goal.returns-clause-opens
returns-clause-opens c = leaves_what_opens
