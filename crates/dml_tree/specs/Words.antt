-- Reserved words as tokens.
use Rattle.std.specs.Prelude.{ℕ, ◌≡◌, List, Option, Some, IsTrue}
use Rattle.std.specs.List.{position_from}
use denote.Enum.Declared.{tag_of}
use Rattle.aw_cell.specs.Names.{same_word, has_name_form, reserved_words}
use Rattle.dml_tree.specs.contracts.word.Word.{the_type}
use Rattle.dml_tree.specs.declared.word.Word.{Word}

-- the place of a word in the enumeration of the words, from 0
abbrev pub word_number : Word → ℕ
word_number = tag_of the_type

-- the place among the reserved words of the one that these bytes write in small or capital letters
unfoldable pub word_place : List ℕ → Option ℕ
word_place bytes = position_from (same_word bytes) 0 reserved_words

-- Bytes write a word that has the form of a name, and stands at their place: the enumeration has the reserved words in
-- their order.
pub record SpellsWord (word : Word) (bytes : List ℕ) : Type 0 where
  pub form : IsTrue (has_name_form bytes)
  pub place : word_place bytes ≡ Some (word_number word)
