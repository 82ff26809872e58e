-- What a line of a script is, by its first words: passed over, the line of a definition, of a session, or refused. A script's
-- lines stand without their line ends.
use Rattle.std.specs.Prelude.{◌==◌, ◌&&◌, ◌||◌, ◌+◌, ℕ, Bool, true, not, List, [], ◌∷◌, length, take, drop, nat_le, codes, if◌then◌else◌}
use Rattle.std.specs.List.{list_all, prefix_len}
use Rattle.aw_cell.specs.Names.{is_name_byte, is_word_byte, begins_with, same_word}
use Rattle.ses_report.specs.Refusals.{syntax, bad_line}
use Rattle.ses_step.specs.declared.line.LineForm.{LineForm}
use Rattle.ses_step.specs.declared.line.LineForm.TheVariants.{Blank, Definition, Session, Bad}
use Rattle.ses_step.specs.Words.{is_blank, is_session_name}

-- ---- bytes

-- a tab, or from the blank to the tilde
abbrev pub is_line_byte : ℕ → Bool
is_line_byte b = b == 9 || (nat_le 32 b && nat_le b 126)

-- at most 4,096 such bytes
abbrev pub keeps_form : List ℕ → Bool
keeps_form line = nat_le (length line) 4096 && list_all is_line_byte line

abbrev pub after_blanks : List ℕ → List ℕ
after_blanks line = drop (prefix_len is_blank line) line

-- nothing, or a comment
abbrev pub is_passed_over : List ℕ → Bool
is_passed_over [] = true
is_passed_over (b ∷ bs) = b == 34

abbrev pub begins_with_colon : List ℕ → Bool
begins_with_colon text = begins_with (λ b. b == 58) text

-- ---- words, each a longest run of letters, digits, `_` and `.`

abbrev pub first_word : List ℕ → List ℕ
first_word text = take (prefix_len is_name_byte text) text

abbrev pub behind_word : List ℕ → List ℕ
behind_word text = drop (prefix_len is_name_byte text) text

-- from the next word on, where only blanks stand before it
abbrev pub next_words : List ℕ → List ℕ
next_words text = after_blanks (behind_word text)

-- ---- lines

-- the first word is DEFINE, without a `:` directly behind it
abbrev pub is_definition_line : List ℕ → Bool
is_definition_line line =
    same_word (first_word (after_blanks line)) (codes "DEFINE") && not (begins_with_colon (behind_word (after_blanks line)))

-- the word is PROGRAM or AGGMAP
abbrev pub is_block_word : List ℕ → Bool
is_block_word word = same_word word (codes "PROGRAM") || same_word word (codes "AGGMAP")

abbrev pub opens_behind : List ℕ → Bool
opens_behind second = not (length (first_word second) == 0) && is_block_word (first_word (next_words second))

-- a definition line whose third word is such a word opens a block
abbrev pub opens_block : List ℕ → Bool
opens_block line = opens_behind (next_words (after_blanks line))

-- the line is only the word END, which ends a block
abbrev pub is_end : List ℕ → Bool
is_end line = same_word (first_word (after_blanks line)) (codes "END") && length (next_words (after_blanks line)) == 0

-- a session name with a `:` directly behind it
abbrev pub has_prefix : List ℕ → Bool
has_prefix text =
    is_session_name (take (prefix_len is_word_byte text) text) && begins_with_colon (drop (prefix_len is_word_byte text) text)

-- with this text behind so many blanks
abbrev pub form_behind : ℕ → List ℕ → LineForm
form_behind blanks text =
    if is_passed_over text
    then Blank
    else if has_prefix text
    then Session (take (prefix_len is_word_byte text) text) (blanks + prefix_len is_word_byte text + 1)
    else Bad (syntax (blanks + 1))

-- The line of a definition is one whatever its bytes are. Any other line that is too long or has another byte is refused with 27;
-- one of no form with 1, at its first byte that is no blank.
abbrev pub line_form : List ℕ → LineForm
line_form line =
    if is_definition_line line
    then Definition
    else if keeps_form line then form_behind (prefix_len is_blank line) (after_blanks line) else Bad bad_line
