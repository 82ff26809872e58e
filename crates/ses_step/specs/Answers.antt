-- What a line of a session is answered: `ok` where there is nothing to show, or a cell, or a refusal.
use Rattle.std.specs.Prelude.{ℕ, List, [], ◌∷◌, codes, Bool, true, false, None, Some}
use Rattle.aw_cell.specs.CellText.{cell_text}
use Rattle.ses_report.specs.Reports as report
use Rattle.ses_step.specs.declared.answer.Answer.{Answer}
use Rattle.ses_step.specs.declared.answer.Answer.TheVariants.{Done, Shown, Refused}

abbrev pub is_refusal : Answer → Bool
is_refusal Done = false
is_refusal (Shown cell) = false
is_refusal (Refused refusal) = true

-- as lines of output, and then perhaps a refusal
abbrev pub answer_of : Answer → report.Answer
answer_of Done = record { output = codes "ok" ∷ []; refusal = None }
answer_of (Shown cell) = record { output = cell_text cell ∷ []; refusal = None }
answer_of (Refused refusal) = record { output = []; refusal = Some refusal }

-- what is printed of it, under the session's name, or `*` where the line is of no session
abbrev pub answer_line : List ℕ → Answer → List ℕ
answer_line prefix answer = report.answer_text prefix (answer_of answer)
