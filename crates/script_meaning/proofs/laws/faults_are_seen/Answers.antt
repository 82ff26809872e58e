use Rattle.script_world.specs.Outcomes.{among}
use Rattle.script_world.proofs.callers.Faults.{sees_faults, faults_are_seen}
use Rattle.script_meaning.specs.CommitFaults.{is_fault, fault_answer}
use Rattle.script_meaning.specs.Language.{store_writing, history_machine}
use Rattle.script_meaning.proofs.RefusedLines.{language_hears}
use Rattle.script_meaning.proofs.laws.faults_are_seen.Goals as goal

pub returns-clause-each : goal.returns-clause-each
returns-clause-each c coming = sees_faults is_fault fault_answer store_writing history_machine language_hears (among coming)

pub returns-clause-all : goal.returns-clause-all
returns-clause-all c coming = faults_are_seen is_fault fault_answer store_writing history_machine language_hears (among coming)
