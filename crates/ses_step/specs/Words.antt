-- Blanks and session names of a script.
use Rattle.std.specs.Prelude.{◌==◌, ◌&&◌, ◌||◌, ℕ, Bool, List, length, nat_le, position, Option}
use Rattle.std.specs.List.{list_all}
use Rattle.aw_cell.specs.Names.{is_letter, is_word_byte, begins_with, same_word}

abbrev pub is_blank : ℕ → Bool
is_blank b = b == 32 || b == 9

-- a session name: a letter and up to 15 letters, digits or `_`
abbrev pub is_session_name : List ℕ → Bool
is_session_name word = begins_with is_letter word && nat_le (length word) 16 && list_all is_word_byte word

-- the place of a word in a list of words
abbrev pub place_of : List (List ℕ) → List ℕ → Option ℕ
place_of all word = position (same_word word) all
