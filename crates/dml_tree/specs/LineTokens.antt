-- The tokens of a line, and its first fault.
use Rattle.std.specs.Prelude.{ℕ, ◌≡◌, ◌+◌, ◌-◌, ◌≤◌, ◌<◌, ◌==◌, ◌||◌, Bool, false, List, [], ◌∷◌, ◌++◌, length, take, drop, IsTrue}
use Rattle.std.specs.List.{list_all}
use Rattle.dml_tree.specs.Spelling.{Spells, HasForm}
use Rattle.dml_tree.specs.declared.token.Lexeme.{Lexeme}
use Rattle.dml_tree.specs.declared.token.Lexeme.TheVariants as lexeme
use Rattle.dml_tree.specs.declared.token.Token.{Token}

-- a space or a tab
abbrev pub is_blank : ℕ → Bool
is_blank b = b == 32 || b == 9

-- The first bytes are this token: they spell it, and are the longest ones from here on that have the form of a token.
pub record IsNext (bytes : List ℕ) (what : Lexeme) (len : ℕ) : Type 0 where
  pub some : 0 < len
  pub within : len ≤ length bytes
  pub spelled : Spells what (take len bytes)
  pub longest : (longer : ℕ) → len < longer → longer ≤ length bytes → ¬ (HasForm (take longer bytes))

-- from one place of the line to another there are only blanks
pub record AreBlanks (line : List ℕ) (from to : ℕ) : Type 0 where
  pub later : from ≤ to
  pub within : to ≤ length line
  pub blank : IsTrue (list_all is_blank (take (to - from) (drop from line)))

-- what stands here is no blank, and no comment, which begins with `"`, and the line doesn't end
abbrev pub Stands : List ℕ → Type 0
Stands [] = ⊥
Stands (b ∷ bs) = ((b == 34) ≡ false) × (is_blank b ≡ false)

-- here is the end of the line, or a comment, which goes to its end
abbrev pub HasEnded : List ℕ → Type 0
HasEnded [] = Unit {0}
HasEnded (b ∷ bs) = IsTrue (b == 34)

-- from this place on the token is the next one behind blanks
pub record ComesNext (line : List ℕ) (at : ℕ) (token : Token) : Type 0 where
  pub len : ℕ
  pub blanks : AreBlanks line at token.from
  pub next : IsNext (drop token.from line) token.what len
  pub behind : token.to ≡ token.from + len

-- from one place of the line to another there are these tokens
abbrev pub Follow : (line : List ℕ) → ℕ → List Token → ℕ → Type 0
Follow line from [] to = from ≡ to
Follow line from (token ∷ tokens) to = ComesNext line from token × Follow line token.to tokens to

-- the token of the end stands behind the line's last byte
abbrev pub end_token : List ℕ → Token
end_token line = record { what = lexeme.End; from = length line; to = length line }

-- the tokens of the line from a place on, and last the one of its end
pub record AreTokens (line : List ℕ) (from : ℕ) (tokens : List Token) : Type 0 where
  pub front : List Token
  pub last : ℕ
  pub place : ℕ
  pub follow : Follow line from front last
  pub blanks : AreBlanks line last place
  pub ended : HasEnded (drop place line)
  pub all : tokens ≡ front ++ end_token line ∷ []

-- behind tokens and blanks, at this column, no token comes; columns count from 1
pub record HasFault (line : List ℕ) (from column : ℕ) : Type 0 where
  pub front : List Token
  pub last : ℕ
  pub place : ℕ
  pub follow : Follow line from front last
  pub blanks : AreBlanks line last place
  pub stands : Stands (drop place line)
  pub none : (what : Lexeme) (len : ℕ) → ¬ (IsNext (drop place line) what len)
  pub counted : column ≡ place + 1
