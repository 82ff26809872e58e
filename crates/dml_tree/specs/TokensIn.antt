-- The tokens of a line, or its first fault, as a function. A law says which one it is ('each line is read').
use Rattle.std.specs.Prelude.{ℕ, zero, suc, ◌+◌, ◌-◌, ◌==◌, ◌||◌, ℤ, pos, Bool, cond, nat_le, nat_lt, List, [], ◌∷◌, length, take, drop, map, Option, Some, None, Result, Ok, Err}
use Rattle.std.specs.List.{prefix_len}
use Rattle.std.specs.Option.{option_map}
use Rattle.std.specs.Char.{is_ascii_digit}
use Rattle.aw_cell.specs.Names.{is_letter, is_name_byte, begins_with}
use Rattle.aw_cell.specs.Numeral.{ten_thousandths}
use Rattle.aw_cell.specs.Text.{is_text}
use Rattle.dml_tree.specs.declared.word.Word.{Word}
use Rattle.dml_tree.specs.declared.word.TheConstants.{WORDS}
use Rattle.dml_tree.specs.declared.token.Symbol.{Symbol}
use Rattle.dml_tree.specs.declared.token.Symbol.TheVariants.{Equals, Open, Close, Comma, Less, Greater, Plus, Minus, Star, Slash}
use Rattle.dml_tree.specs.declared.token.Lexeme.{Lexeme}
use Rattle.dml_tree.specs.declared.token.Lexeme.TheVariants as lexeme
use Rattle.dml_tree.specs.declared.token.Token.{Token}
use Rattle.dml_tree.specs.declared.token.TokenFault.{TokenFault}
use Rattle.dml_tree.specs.declared.token.TokenFault.TheVariants.{Lexical}
use Rattle.dml_tree.specs.Spelling.{symbol_byte, space_for_tab}
use Rattle.dml_tree.specs.LineTokens.{is_blank, end_token}
use Rattle.dml_tree.specs.inside.Scanning.{looked_up, fraction_len, numeral_len, numeral_lexeme}

-- ---- one token, and how many bytes it takes

abbrev pub Found : Type 0
Found = Lexeme × ℕ

-- a reserved word, or else a name
abbrev pub name_or_word : Option Word → List ℕ → Lexeme
name_or_word (Some word) bytes = lexeme.Word word
name_or_word None bytes = lexeme.Name bytes

abbrev pub name_front : List ℕ → ℕ
name_front bytes = prefix_len is_name_byte (take 64 bytes)

abbrev pub words : List (List ℕ × Word)
words = map (λ k. (k.0.now, k.1)) WORDS

abbrev pub named : List ℕ → Found
named bytes = (name_or_word (looked_up words (take (name_front bytes) bytes)) (take (name_front bytes) bytes), name_front bytes)

abbrev pub whole_len : List ℕ → ℕ
whole_len bytes = prefix_len is_ascii_digit bytes

-- how many bytes the point and the digits behind it take
abbrev pub part_len : List ℕ → ℕ
part_len bytes = fraction_len (drop (whole_len bytes) bytes)

-- the digits behind the point
abbrev pub decimals_in : List ℕ → List ℕ
decimals_in bytes = drop 1 (drop (whole_len bytes) (take (numeral_len bytes) bytes))

abbrev pub numeral_units : List ℕ → ℕ
numeral_units bytes = ten_thousandths (take (whole_len bytes) bytes) (decimals_in bytes)

abbrev pub numeral : List ℕ → Option Found
numeral bytes = cond (nat_le (numeral_units bytes) 999999999999999999) (Some (numeral_lexeme (nat_lt 0 (part_len bytes)) (pos (numeral_units bytes)), numeral_len bytes)) None

-- a letter in front of the others, written as it is or behind a `\`
abbrev pub with_letter : ℕ → Option (List ℕ × ℕ) → Option (List ℕ × ℕ)
with_letter letter others = option_map (λ (read : List ℕ × ℕ). (letter ∷ read.0, suc read.1)) others

abbrev pub with_escaped : ℕ → Option (List ℕ × ℕ) → Option (List ℕ × ℕ)
with_escaped letter others = option_map (λ (read : List ℕ × ℕ). (letter ∷ read.0, suc (suc read.1))) others

abbrev pub is_special : ℕ → Bool
is_special b = b == 39 || b == 92

-- the letters up to the closing quote, and how many bytes they take
abbrev pub letters : List ℕ → Option (List ℕ × ℕ)
letters [] = None
letters (a ∷ []) = cond (space_for_tab a == 39) (Some ([], 0)) None
letters (a ∷ b ∷ bytes) =
    cond (space_for_tab a == 39) (Some ([], 0)) (
    cond (space_for_tab a == 92) (cond (is_special (space_for_tab b)) (with_escaped (space_for_tab b) (letters bytes)) None) (
    with_letter (space_for_tab a) (letters (b ∷ bytes))))

abbrev pub as_text : Option (List ℕ × ℕ) → Option Found
as_text (Some read) = cond (is_text read.0) (Some (lexeme.Text read.0, suc read.1 + 1)) None
as_text None = None

-- the symbol of a byte that is one's
abbrev pub symbol_by : ℕ → Symbol
symbol_by b =
    cond (b == 61) Equals (cond (b == 40) Open (cond (b == 41) Close (cond (b == 44) Comma (cond (b == 60) Less
    (cond (b == 62) Greater (cond (b == 43) Plus (cond (b == 45) Minus (cond (b == 42) Star Slash))))))))

abbrev pub symbol_of : ℕ → Option Symbol
symbol_of b = cond (symbol_byte (symbol_by b) == b) (Some (symbol_by b)) None

abbrev pub signed : Option Symbol → Option Found
signed found = option_map (λ (symbol : Symbol). (lexeme.Symbol symbol, 1)) found

-- the token that these bytes begin with, by the first one
abbrev pub next_in : List ℕ → Option Found
next_in [] = None
next_in (b ∷ bytes) =
    cond (is_letter b) (Some (named (b ∷ bytes))) (
    cond (is_ascii_digit b) (numeral (b ∷ bytes)) (
    cond (b == 39) (as_text (letters bytes)) (signed (symbol_of b))))

-- ---- all of them

abbrev pub TokensRead : Type 0
TokensRead = Result (List Token) TokenFault

abbrev pub with_token : Token → TokensRead → TokensRead
with_token token (Ok tokens) = Ok (token ∷ tokens)
with_token token (Err fault) = Err fault

abbrev pub token_at : ℕ → Found → Token
token_at start found = record { what = found.0; from = start; to = start + found.1 }

-- a token that begins here, and what is read behind it
abbrev pub read_on : (ℕ → TokensRead) → ℕ → Option Found → TokensRead
read_on behind start None = Err (Lexical (start + 1))
read_on behind start (Some found) = with_token (token_at start found) (behind (start + found.1))

-- behind blanks, by the bytes that are left
abbrev pub read_from : (ℕ → TokensRead) → List ℕ → ℕ → List ℕ → TokensRead
read_from behind line start [] = Ok (end_token line ∷ [])
read_from behind line start (b ∷ bytes) = cond (b == 34) (Ok (end_token line ∷ [])) (read_on behind start (next_in (b ∷ bytes)))

abbrev pub start_at : List ℕ → ℕ → ℕ
start_at line at = at + prefix_len is_blank (drop at line)

-- at most so many tokens
abbrev pub scanned : ℕ → List ℕ → ℕ → TokensRead
scanned zero line at = Ok []
scanned (suc most) line at = read_from (scanned most line) line (start_at line at) (drop (start_at line at) line)

-- the tokens of a line from a place on, or its first fault
unfoldable pub tokens_in : List ℕ → ℕ → TokensRead
tokens_in line from = scanned (suc (length line - from)) line from
