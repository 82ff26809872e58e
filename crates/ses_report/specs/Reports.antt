-- What is printed of an answer: its lines of output under a prefix, and then the line of its refusal.
use Rattle.std.specs.Prelude.{◌==◌, ◌++◌, ℕ, List, [], ◌∷◌, codes, Option, None, Some, if◌then◌else◌}
use Rattle.std.specs.Fmt.{decimal}
use Rattle.ses_report.specs.declared.refusal.Detail.{Detail}
use Rattle.ses_report.specs.declared.refusal.Detail.TheVariants.{Nothing, Column, One, Two, Count}
use Rattle.ses_report.specs.declared.refusal.Refusal.{Refusal}

-- lines of output, and then perhaps a refusal
pub record Answer : Type 0 where
  pub output : List (List ℕ)
  pub refusal : Option Refusal

-- ---- a refusal

-- the line of a block, which begins the detail
abbrev pub place_text : ℕ → List ℕ
place_text line = if line == 0 then [] else 32 ∷ decimal line

-- the parts of a detail, each behind one blank
abbrev pub detail_text : Detail → List ℕ
detail_text Nothing = []
detail_text (Column column) = 32 ∷ decimal column
detail_text (One text) = 32 ∷ text
detail_text (Two first second) = (32 ∷ first) ++ 32 ∷ second
detail_text (Count text number) = (32 ∷ text) ++ 32 ∷ decimal number

-- the number of the cause, and its detail
abbrev pub refusal_text : Refusal → List ℕ
refusal_text refusal =
    codes "ERROR" ++ (32 ∷ decimal refusal.number) ++ place_text refusal.line ++ detail_text refusal.detail

-- ---- lines

abbrev pub prefix_text : List ℕ → List ℕ
prefix_text prefix = prefix ++ codes ": "

-- one line under a prefix
abbrev pub line_under : List ℕ → List ℕ → List ℕ
line_under prefix text = prefix_text prefix ++ (text ++ 10 ∷ [])

abbrev pub output_text : List ℕ → List (List ℕ) → List ℕ
output_text prefix [] = []
output_text prefix (text ∷ texts) = line_under prefix text ++ output_text prefix texts

abbrev pub refused_text : List ℕ → Option Refusal → List ℕ
refused_text prefix None = []
refused_text prefix (Some refusal) = line_under prefix (refusal_text refusal)

abbrev pub answer_text : List ℕ → Answer → List ℕ
answer_text prefix answer = output_text prefix answer.output ++ refused_text prefix answer.refusal

-- the line of a refusal by itself; an empty prefix has no colon either
abbrev pub error_line : List ℕ → Refusal → List ℕ
error_line [] refusal = refusal_text refusal ++ 10 ∷ []
error_line (byte ∷ prefix) refusal = line_under (byte ∷ prefix) (refusal_text refusal)
