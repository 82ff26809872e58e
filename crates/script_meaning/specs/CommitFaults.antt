-- The refusal that tells of a commit in which the disk failed.
use Rattle.std.specs.Prelude.{◌==◌, Bool}
use Rattle.ses_report.specs.declared.refusal.Refusal.{Refusal}
use Rattle.ses_report.specs.Refusals.{disk_fault}
use Rattle.ses_report.specs.Reports as report
use Rattle.ses_step.specs.declared.answer.Answer.TheVariants.{Refused}
use Rattle.ses_step.specs.Answers.{answer_of}

-- refused with 30
abbrev pub is_fault : Refusal → Bool
is_fault refusal = refusal.number == 30

abbrev pub fault_answer : report.Answer
fault_answer = answer_of (Refused disk_fault)
