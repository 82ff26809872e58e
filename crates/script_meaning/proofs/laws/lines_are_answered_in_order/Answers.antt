use Rattle.script_meaning.proofs.AssignedTargets.{targets_seen}
use Rattle.script_meaning.proofs.LineOrder.{lines_answered}
use Rattle.script_meaning.proofs.LineAnswers.{assignments_done, singles_done, sharing_goes_ahead}
use Rattle.script_meaning.proofs.laws.lines_are_answered_in_order.Goals as goal

pub returns-clause-in_order : goal.returns-clause-in_order
returns-clause-in_order c = lines_answered

pub returns-clause-targets : goal.returns-clause-targets
returns-clause-targets c = targets_seen

pub returns-clause-assigned : goal.returns-clause-assigned
returns-clause-assigned c = assignments_done

pub returns-clause-single : goal.returns-clause-single
returns-clause-single c = singles_done

pub returns-clause-shared : goal.returns-clause-shared
returns-clause-shared c = sharing_goes_ahead
