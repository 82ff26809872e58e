-- What the functions answer that look for one token.
use Rattle.std.specs.Prelude.{ℕ, ℤ, pos, ◌≡◌, ◌≢◌, ◌+◌, ◌/◌, ◌≤◌, ◌<◌, ◌==◌, Bool, true, false, cond, List, [], ◌∷◌, ◌++◌, length, take, drop, map, min, nat_le, unsigned_abs, Option, Some, None, Result, Ok, Err}
use Rattle.std.specs.List.{prefix_len}
use Rattle.std.specs.Char.{is_ascii_digit}
use Rattle.dml_tree.specs.Spelling.{escaped, space_for_tab}
use Rattle.dml_tree.specs.LineTokens.{IsNext, AreBlanks, Stands, HasEnded, AreTokens, HasFault}
use Rattle.aw_cell.specs.Names.{same_word}
use Rattle.dml_tree.specs.declared.word.Word.{Word}
use Rattle.dml_tree.specs.declared.token.Lexeme.{Lexeme}
use Rattle.dml_tree.specs.declared.token.Lexeme.TheVariants as lexeme
use Rattle.dml_tree.specs.declared.token.Token.{Token}
use Rattle.dml_tree.specs.declared.token.TokenFault.{TokenFault}
use Rattle.dml_tree.specs.declared.token.TokenFault.TheVariants.{Lexical, NoMemory}

-- no token is the first of these bytes
abbrev pub NoneIsNext : List ℕ → Type 0
NoneIsNext bytes = (what : Lexeme) (len : ℕ) → ¬ (IsNext bytes what len)

-- ---- words

-- the word behind the first spelling that is the same
abbrev pub looked_up : List (List ℕ × Word) → List ℕ → Option Word
looked_up [] written = None
looked_up (entry ∷ table) written = cond (same_word written entry.0) (Some entry.1) (looked_up table written)

-- ---- texts

-- the first bytes are one letter of a text, with its escape
pub record IsLetter (bytes : List ℕ) (byte len : ℕ) : Type 0 where
  pub within : len ≤ length bytes
  pub some : 0 < len
  pub written : map space_for_tab (take len bytes) ≡ escaped (byte ∷ [])

-- the bytes don't begin with a letter of a text
abbrev pub HasNoLetter : List ℕ → Type 0
HasNoLetter bytes = (byte : ℕ) (text rest : List ℕ) → map space_for_tab bytes ≢ escaped (byte ∷ text) ++ rest

-- behind a quote these bytes of the line are this text
pub record HasRead (bytes : List ℕ) (at : ℕ) (text : List ℕ) : Type 0 where
  pub within : at ≤ length bytes
  pub some : 0 < at
  pub read : map space_for_tab (take at bytes) ≡ 39 ∷ escaped text

-- ---- numerals

-- how many bytes a point and the digits behind it take, of which there are at most four; none where there are no digits
abbrev pub fraction_len : List ℕ → ℕ
fraction_len [] = 0
fraction_len (b ∷ bs) = cond (b == 46) (cond (prefix_len is_ascii_digit bs == 0) 0 (1 + min (prefix_len is_ascii_digit bs) 4)) 0

-- how many bytes a numeral takes
unfoldable pub numeral_len : List ℕ → ℕ
numeral_len bytes = prefix_len is_ascii_digit bytes + fraction_len (drop (prefix_len is_ascii_digit bytes) bytes)

-- the token of a numeral of these ten-thousandths
abbrev pub numeral_lexeme : Bool → ℤ → Lexeme
numeral_lexeme true units = lexeme.Decimal units
numeral_lexeme false units =
    cond (nat_le (unsigned_abs units / 10000) 2147483647) (lexeme.Integer (pos (unsigned_abs units / 10000))) (lexeme.Whole units)

-- ---- lines

-- from here on the line has only blanks and perhaps a comment
pub record EndsFrom (line : List ℕ) (at : ℕ) : Type 0 where
  pub place : ℕ
  pub blanks : AreBlanks line at place
  pub ended : HasEnded (drop place line)

-- behind blanks something stands here
pub record StandsAt (line : List ℕ) (at place : ℕ) : Type 0 where
  pub blanks : AreBlanks line at place
  pub stands : Stands (drop place line)

-- the tokens, or the fault, of the line from a place on
abbrev pub Answers : List ℕ → ℕ → Result (List Token) TokenFault → Type 0
Answers line from (Ok tokens) = AreTokens line from tokens
Answers line from (Err (Lexical column)) = HasFault line from column
Answers line from (Err NoMemory) = Unit {0}
