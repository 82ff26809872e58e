-- Where the statement of a session's line stands: in the line, which keeps its form.
use Rattle.std.proofs.Common.{◌≡◌, ◌≤◌, ◌+◌, ℕ, zero, suc, Bool, true, false, List, [], ◌∷◌, length, take, drop, cond, nat_le, if◌then◌else◌, refl, ap, arith, length-drop}
use Rattle.std.proofs.lemmas.Bool.{false≢true, and_parts, leb-true}
use Rattle.std.specs.List.{list_all, prefix_len}
use Rattle.aw_cell.specs.Names.{is_word_byte}
use Rattle.ses_report.specs.Refusals.{syntax, bad_line}
use Rattle.ses_step.specs.declared.line.LineForm.{LineForm}
use Rattle.ses_step.specs.declared.line.LineForm.TheVariants.{Blank, Definition, Session, Bad}
use Rattle.ses_step.specs.Words.{is_blank, is_session_name}
use Rattle.ses_step.specs.Lines.{is_line_byte, keeps_form, after_blanks, is_passed_over, begins_with_colon, is_definition_line, has_prefix, form_behind, line_form}

prefix_short : (p : ℕ → Bool) (text : List ℕ) → prefix_len p text ≤ length text
prefix_short p [] = omega arith
prefix_short p (b ∷ bs) = by (p b) (prefix_short p bs)
  where
    by : (test : Bool) → prefix_len p bs ≤ length bs → cond test (1 + prefix_len p bs) 0 ≤ suc (length bs)
    by true less = omega (arith, less)
    by false less = omega arith

-- a byte stands behind so many
begins-behind : (n : ℕ) (text : List ℕ) → begins_with_colon (drop n text) ≡ true → n + 1 ≤ length text
begins-behind zero [] is = absurd (false≢true is)
begins-behind (suc n) [] is = absurd (false≢true is)
begins-behind zero (b ∷ bs) is = omega arith
begins-behind (suc n) (b ∷ bs) is = omega (arith, begins-behind n bs is)

-- a form tells whether it is a session's, and its place
abbrev is_own : LineForm → Bool
is_own (Session name from) = true
is_own Blank = false
is_own Definition = false
is_own (Bad refusal) = false

abbrev place_in : LineForm → ℕ
place_in (Session name from) = from
place_in Blank = 0
place_in Definition = 0
place_in (Bad refusal) = 0

module _ (text name : List ℕ) (from blanks : ℕ) where
  prefixed : form_behind blanks text ≡ Session name from → (has_prefix text ≡ true) × (blanks + prefix_len is_word_byte text + 1 ≡ from)
  prefixed = by_over (is_passed_over text)
    where
      own : LineForm
      own = Session (take (prefix_len is_word_byte text) text) (blanks + prefix_len is_word_byte text + 1)

      by_prefix : (test : Bool) → has_prefix text ≡ test → (if test then own else Bad (syntax (blanks + 1))) ≡ Session name from → (has_prefix text ≡ true) × (blanks + prefix_len is_word_byte text + 1 ≡ from)
      by_prefix true has is = (has, ap place_in is)
      by_prefix false has is = absurd (false≢true (ap is_own is))

      by_over : (test : Bool) → (if test then Blank else if has_prefix text then own else Bad (syntax (blanks + 1))) ≡ Session name from → (has_prefix text ≡ true) × (blanks + prefix_len is_word_byte text + 1 ≡ from)
      by_over true is = absurd (false≢true (ap is_own is))
      by_over false is = by_prefix (has_prefix text) refl is

module _ (line name : List ℕ) (from : ℕ) where
  kept : line_form line ≡ Session name from → (keeps_form line ≡ true) × (form_behind (prefix_len is_blank line) (after_blanks line) ≡ Session name from)
  kept = by_definition (is_definition_line line)
    where
      own : LineForm
      own = form_behind (prefix_len is_blank line) (after_blanks line)

      by_form : (test : Bool) → keeps_form line ≡ test → (if test then own else Bad bad_line) ≡ Session name from → (keeps_form line ≡ true) × (own ≡ Session name from)
      by_form true keeps is = (keeps, is)
      by_form false keeps is = absurd (false≢true (ap is_own is))

      by_definition : (test : Bool) → (if test then Definition else if keeps_form line then own else Bad bad_line) ≡ Session name from → (keeps_form line ≡ true) × (own ≡ Session name from)
      by_definition true is = absurd (false≢true (ap is_own is))
      by_definition false is = by_form (keeps_form line) refl is

pub session_short : (line name : List ℕ) (from : ℕ) → line_form line ≡ Session name from → length line ≤ 4096
session_short line name from is = leb-true (length line) 4096 (and_parts (nat_le (length line) 4096) (list_all is_line_byte line) (kept line name from is).0).0

pub session_within : (line name : List ℕ) (from : ℕ) → line_form line ≡ Session name from → from ≤ length line
session_within line name from is =
    let text : List ℕ = after_blanks line in
    let has = prefixed text name from (prefix_len is_blank line) (kept line name from is).1 in
    let colon = begins-behind (prefix_len is_word_byte text) text (and_parts (is_session_name (take (prefix_len is_word_byte text) text)) (begins_with_colon (drop (prefix_len is_word_byte text) text)) has.0).1 in
    omega (arith, has.1, colon, length-drop (prefix_len is_blank line) line, prefix_short is_blank line)
