-- Laws on the tokens of a line, over every line.
use Rattle.std.specs.Prelude.{ℕ, ◌≡◌, ◌-◌, ◌≤◌, ◌<◌, ◌++◌, false, List, [], ◌∷◌, length, take, drop, IsTrue, Ok, Err}
use Rattle.aw_cell.specs.Names.{is_name, has_name_form, same_word}
use Rattle.dml_tree.specs.Words.{SpellsWord}
use Rattle.dml_tree.specs.Spelling.{Spells}
use Rattle.dml_tree.specs.LineTokens.{AreTokens, HasFault, end_token}
use Rattle.dml_tree.specs.declared.word.Word.{Word}
use Rattle.dml_tree.specs.declared.token.Lexeme.{Lexeme}
use Rattle.dml_tree.specs.TokensIn.{TokensRead, tokens_in}
use Rattle.dml_tree.specs.declared.token.Token.{Token}
use Rattle.dml_tree.specs.declared.token.TokenFault.TheVariants.{Lexical, NoMemory}

-- bytes spell one token at most; a line has one list of tokens at most, or one first fault, and not both
pub record ReadOneWay : Type 0 where
  pub one_token : (a b : Lexeme) (bytes : List ℕ) → Spells a bytes → Spells b bytes → a ≡ b
  pub one_list : (line : List ℕ) (from : ℕ) (a b : List Token) → AreTokens line from a → AreTokens line from b → a ≡ b
  pub one_fault : (line : List ℕ) (from a b : ℕ) → HasFault line from a → HasFault line from b → a ≡ b
  pub not_both : (line : List ℕ) (from column : ℕ) (tokens : List Token) → AreTokens line from tokens → HasFault line from column → ⊥

-- the token stands behind a place, has bytes, and they spell it
pub record IsPlaced (line : List ℕ) (at : ℕ) (token : Token) : Type 0 where
  pub later : at ≤ token.from
  pub some : token.from < token.to
  pub within : token.to ≤ length line
  pub spelled : Spells token.what (take (token.to - token.from) (drop token.from line))

-- and so does each of these, one behind the other
abbrev pub ArePlaced : List ℕ → ℕ → List Token → Type 0
ArePlaced line at [] = Unit {0}
ArePlaced line at (token ∷ tokens) = IsPlaced line at token × ArePlaced line token.to tokens

-- the tokens of a line stand one behind the other, their bytes spell them, and the last one is that of the end
abbrev pub StandInOrder : Type 0
StandInOrder = (line : List ℕ) (from : ℕ) (tokens : List Token) → AreTokens line from tokens → (front : List Token) × (tokens ≡ front ++ end_token line ∷ []) × ArePlaced line from front

-- a reserved word is no name, and is the same word in small and in capital letters
pub record WordsAreReserved : Type 0 where
  pub no_name : (word : Word) (bytes : List ℕ) → SpellsWord word bytes → is_name bytes ≡ false
  pub any_case : (word : Word) (bytes other : List ℕ) → SpellsWord word bytes → IsTrue (has_name_form other) → IsTrue (same_word other bytes) → SpellsWord word other

-- the tokens of a line from a place on, or its first fault
abbrev pub IsReadSo : List ℕ → ℕ → TokensRead → Type 0
IsReadSo line from (Ok tokens) = AreTokens line from tokens
IsReadSo line from (Err (Lexical column)) = HasFault line from column
IsReadSo line from (Err NoMemory) = ⊥

-- each line, from each place in it, has one of the two, and this function gives it
abbrev pub EachIsRead : Type 0
EachIsRead = (line : List ℕ) (from : ℕ) → from ≤ length line → IsReadSo line from (tokens_in line from)
