-- How each token is spelled.
use Rattle.std.specs.Prelude.{ℕ, ℤ, pos, ◌≡◌, ◌≤◌, ◌<◌, ◌*◌, ◌==◌, ◌||◌, false, cond, List, [], ◌∷◌, ◌++◌, map, IsTrue}
use Rattle.aw_cell.specs.Names.{is_name, has_name_form}
use Rattle.aw_cell.specs.Number.{IsInRange}
use Rattle.aw_cell.specs.Numeral.{are_digits, SpellsSize}
use Rattle.aw_cell.specs.Text.{is_text}
use Rattle.dml_tree.specs.Words.{SpellsWord}
use Rattle.dml_tree.specs.declared.token.Symbol.{Symbol}
use Rattle.dml_tree.specs.declared.token.Symbol.TheVariants.{Equals, Open, Close, Comma, Less, Greater, Plus, Minus, Star, Slash}
use Rattle.dml_tree.specs.declared.token.Lexeme.{Lexeme}
use Rattle.dml_tree.specs.declared.token.Lexeme.TheVariants as lexeme

-- ---- symbols

-- `=`, `(`, `)`, `,`, `<`, `>`, `+`, `-`, `*` and `/`
abbrev pub symbol_byte : Symbol → ℕ
symbol_byte Equals = 61
symbol_byte Open = 40
symbol_byte Close = 41
symbol_byte Comma = 44
symbol_byte Less = 60
symbol_byte Greater = 62
symbol_byte Plus = 43
symbol_byte Minus = 45
symbol_byte Star = 42
symbol_byte Slash = 47

-- ---- texts

-- a `\` stands before each `'` and each `\` of a text
abbrev pub escaped : List ℕ → List ℕ
escaped [] = []
escaped (b ∷ bs) = cond (b == 39 || b == 92) (92 ∷ b ∷ escaped bs) (b ∷ escaped bs)

-- a tab inside a text stands for a space
abbrev pub space_for_tab : ℕ → ℕ
space_for_tab b = cond (b == 9) 32 b

-- a text stands between two quotes
pub record SpellsText (text bytes : List ℕ) : Type 0 where
  pub fits : IsTrue (is_text text)
  pub quoted : map space_for_tab bytes ≡ 39 ∷ escaped text ++ 39 ∷ []

-- ---- numerals

-- digits alone, which count up to 2147483647
pub record SpellsInteger (whole : ℤ) (bytes : List ℕ) : Type 0 where
  pub count : ℕ
  pub digits : IsTrue (are_digits bytes)
  pub numeral : SpellsSize bytes (count * 10000)
  pub most : count ≤ 2147483647
  pub value : whole ≡ pos count

-- digits alone, which count more than that and are in the range of a NUMBER
pub record SpellsWhole (units : ℤ) (bytes : List ℕ) : Type 0 where
  pub count : ℕ
  pub digits : IsTrue (are_digits bytes)
  pub numeral : SpellsSize bytes (count * 10000)
  pub more : 2147483647 < count
  pub range : IsInRange (pos (count * 10000))
  pub value : units ≡ pos (count * 10000)

-- digits with a point among them, in the range of a NUMBER
pub record SpellsDecimal (units : ℤ) (bytes : List ℕ) : Type 0 where
  pub count : ℕ
  pub point : are_digits bytes ≡ false
  pub numeral : SpellsSize bytes count
  pub range : IsInRange (pos count)
  pub value : units ≡ pos count

-- ---- tokens

-- the bytes are a spelling of the token; the end of a line has no bytes
abbrev pub Spells : Lexeme → List ℕ → Type 0
Spells (lexeme.Name name) bytes = IsTrue (is_name bytes) × (bytes ≡ name)
Spells (lexeme.Word word) bytes = SpellsWord word bytes
Spells (lexeme.Integer whole) bytes = SpellsInteger whole bytes
Spells (lexeme.Whole units) bytes = SpellsWhole units bytes
Spells (lexeme.Decimal units) bytes = SpellsDecimal units bytes
Spells (lexeme.Text text) bytes = SpellsText text bytes
Spells (lexeme.Symbol symbol) bytes = bytes ≡ symbol_byte symbol ∷ []
Spells lexeme.End bytes = ⊥

-- The bytes have the form of a token: of a name or word, of a numeral, which may be out of range, of a text or of a symbol.
pub data HasForm (bytes : List ℕ) : Type 0 where
  named : IsTrue (has_name_form bytes) → HasForm bytes
  counted : (count : ℕ) → SpellsSize bytes count → HasForm bytes
  quoted : (text : List ℕ) → SpellsText text bytes → HasForm bytes
  signed : (symbol : Symbol) → bytes ≡ symbol_byte symbol ∷ [] → HasForm bytes
