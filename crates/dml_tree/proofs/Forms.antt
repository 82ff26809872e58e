-- The first byte of a token tells its form.
use Rattle.std.proofs.Common.{◌≡◌, ◌<◌, ◌*◌, ◌==◌, ℕ, zero, suc, ◌∙◌, refl, ap, sym, arith, true, false, not, Bool, cond, ◌&&◌, List, [], ◌∷◌, ◌++◌, length, take, map}
use Rattle.std.specs.Prelude.{nat_le}
use Rattle.std.specs.Char.{is_ascii_digit}
use Rattle.std.specs.List.{list_all, list_any}
use Rattle.std.proofs.lemmas.Bool.{and_parts, eq-eqb}
use Rattle.std.proofs.lemmas.Bool.Decides.{nat_tests}
use Rattle.aw_cell.specs.Names.{is_letter, is_name_byte, has_name_form, begins_with, same_word, reserved_words}
use Rattle.aw_cell.specs.Numeral.{are_digits, pointed, SpellsSize}
use Rattle.dml_tree.specs.Spelling.{symbol_byte, space_for_tab, SpellsText, Spells, HasForm, named, counted, quoted, signed}
use Rattle.dml_tree.specs.LineTokens.{Stands}
use Rattle.dml_tree.specs.declared.token.Symbol.{Symbol}
use Rattle.dml_tree.specs.declared.token.Symbol.TheVariants.{Equals, Open, Close, Comma, Less, Greater, Plus, Minus, Star, Slash}
use Rattle.dml_tree.specs.declared.token.Lexeme.{Lexeme}
use Rattle.dml_tree.specs.declared.token.Lexeme.TheVariants as lexeme

abbrev pub is_quote : ℕ → Bool
is_quote b = b == 39

-- ---- the bytes that begin each form

pub begins-take : (p : ℕ → Bool) (bytes : List ℕ) (n : ℕ) → 0 < n → begins_with p (take n bytes) ≡ begins_with p bytes
begins-take p bytes zero some = absurd (omega arith)
begins-take p [] (suc n) some = refl
begins-take p (b ∷ bs) (suc n) some = refl

digits_first : (whole rest bytes : List ℕ) → 0 < length whole → are_digits whole ≡ true → bytes ≡ whole ++ rest → begins_with is_ascii_digit bytes ≡ true
digits_first [] rest bytes some digits e = absurd (omega arith)
digits_first (w ∷ ws) rest bytes some digits e = ap (begins_with is_ascii_digit) e ∙ (and_parts (is_ascii_digit w) (are_digits ws) digits).0

pub size_first : (bytes : List ℕ) (count : ℕ) → SpellsSize bytes count → begins_with is_ascii_digit bytes ≡ true
size_first bytes count s = digits_first s.whole (pointed s.decimals) bytes s.parts.some s.parts.whole_digits s.form

pub quote_byte : (b : ℕ) → space_for_tab b ≡ 39 → (b == 39) ≡ true
quote_byte b e = by (b == 9) refl e
  where
    by : (tab : Bool) → (b == 9) ≡ tab → cond tab 32 b ≡ 39 → (b == 39) ≡ true
    by true is e = absurd (omega arith)
    by false is e = eq-eqb b 39 e

pub quote_first : (bytes rest : List ℕ) → map space_for_tab bytes ≡ 39 ∷ rest → begins_with is_quote bytes ≡ true
quote_first [] rest e = cc
quote_first (b ∷ bs) rest e = let first : space_for_tab b ≡ 39 = cc in quote_byte b first

-- what the byte of a symbol isn't
pub symbol_class : (s : Symbol) → (is_letter (symbol_byte s) ≡ false) × (is_ascii_digit (symbol_byte s) ≡ false) × ((symbol_byte s == 39) ≡ false)
symbol_class Equals = (refl, refl, refl)
symbol_class Open = (refl, refl, refl)
symbol_class Close = (refl, refl, refl)
symbol_class Comma = (refl, refl, refl)
symbol_class Less = (refl, refl, refl)
symbol_class Greater = (refl, refl, refl)
symbol_class Plus = (refl, refl, refl)
symbol_class Minus = (refl, refl, refl)
symbol_class Star = (refl, refl, refl)
symbol_class Slash = (refl, refl, refl)

pub named_first : (bytes : List ℕ) → has_name_form bytes ≡ true → begins_with is_letter bytes ≡ true
named_first bytes h = (and_parts (begins_with is_letter bytes) (nat_le (length bytes) 64) (and_parts (begins_with is_letter bytes && nat_le (length bytes) 64) (list_all is_name_byte bytes) h).0).0

-- ---- no byte begins two of them

pub letter_no_digit : (bytes : List ℕ) → begins_with is_letter bytes ≡ true → begins_with is_ascii_digit bytes ≡ true → ⊥
letter_no_digit [] letter digit = cc
letter_no_digit (b ∷ bs) letter digit = grind (arith, nat_tests, letter, digit)

pub letter_no_quote : (bytes : List ℕ) → begins_with is_letter bytes ≡ true → begins_with is_quote bytes ≡ true → ⊥
letter_no_quote [] letter quote = cc
letter_no_quote (b ∷ bs) letter quote = grind (arith, nat_tests, letter, quote)

pub digit_no_quote : (bytes : List ℕ) → begins_with is_ascii_digit bytes ≡ true → begins_with is_quote bytes ≡ true → ⊥
digit_no_quote [] digit quote = cc
digit_no_quote (b ∷ bs) digit quote = grind (arith, nat_tests, digit, quote)

pub unlike : (p : ℕ → Bool) (bytes : List ℕ) (s : Symbol) → bytes ≡ symbol_byte s ∷ [] → p (symbol_byte s) ≡ false → begins_with p bytes ≡ true → ⊥
unlike p bytes s e not_it it = let both : true ≡ false = sym it ∙ ap (begins_with p) e ∙ not_it in cc

-- ---- the form by the first byte

pub letter_form : (bytes : List ℕ) → begins_with is_letter bytes ≡ true → HasForm bytes → has_name_form bytes ≡ true
letter_form bytes letter (named h) = h
letter_form bytes letter (counted count s) = absurd (letter_no_digit bytes letter (size_first bytes count s))
letter_form bytes letter (quoted text s) = absurd (letter_no_quote bytes letter (quote_first bytes _ s.quoted))
letter_form bytes letter (signed s e) = absurd (unlike is_letter bytes s e (symbol_class s).0 letter)

pub digit_form : (bytes : List ℕ) → begins_with is_ascii_digit bytes ≡ true → HasForm bytes → (count : ℕ) × SpellsSize bytes count
digit_form bytes digit (named h) = absurd (letter_no_digit bytes (named_first bytes h) digit)
digit_form bytes digit (counted count s) = (count, s)
digit_form bytes digit (quoted text s) = absurd (digit_no_quote bytes digit (quote_first bytes _ s.quoted))
digit_form bytes digit (signed s e) = absurd (unlike is_ascii_digit bytes s e (symbol_class s).1 digit)

pub quote_form : (bytes : List ℕ) → begins_with is_quote bytes ≡ true → HasForm bytes → (text : List ℕ) × SpellsText text bytes
quote_form bytes quote (named h) = absurd (letter_no_quote bytes (named_first bytes h) quote)
quote_form bytes quote (counted count s) = absurd (digit_no_quote bytes (size_first bytes count s) quote)
quote_form bytes quote (quoted text s) = (text, s)
quote_form bytes quote (signed s e) = absurd (unlike is_quote bytes s e (symbol_class s).2 quote)

pub clash : (b : Bool) → b ≡ false → b ≡ true → ⊥
clash b f t = let both : true ≡ false = sym t ∙ f in cc

pub symbol_form : (bytes : List ℕ) → begins_with is_letter bytes ≡ false → begins_with is_ascii_digit bytes ≡ false → begins_with is_quote bytes ≡ false → HasForm bytes → (s : Symbol) × (bytes ≡ symbol_byte s ∷ [])
symbol_form bytes letter digit quote (named h) = absurd (clash _ letter (named_first bytes h))
symbol_form bytes letter digit quote (counted count s) = absurd (clash _ digit (size_first bytes count s))
symbol_form bytes letter digit quote (quoted text s) = absurd (clash _ quote (quote_first bytes _ s.quoted))
symbol_form bytes letter digit quote (signed s e) = (s, e)

-- ---- tokens have a form

pub name_form : (name bytes : List ℕ) → Spells (lexeme.Name name) bytes → has_name_form bytes ≡ true
name_form name bytes s = (and_parts (has_name_form bytes) (not (list_any (same_word bytes) reserved_words)) s.0).0

pub spelled_form : (what : Lexeme) (bytes : List ℕ) → Spells what bytes → HasForm bytes
spelled_form (lexeme.Name name) bytes s = named (name_form name bytes s)
spelled_form (lexeme.Word word) bytes s = named s.form
spelled_form (lexeme.Integer whole) bytes s = counted (s.count * 10000) s.numeral
spelled_form (lexeme.Whole units) bytes s = counted (s.count * 10000) s.numeral
spelled_form (lexeme.Decimal units) bytes s = counted s.count s.numeral
spelled_form (lexeme.Text text) bytes s = quoted text s
spelled_form (lexeme.Symbol symbol) bytes s = signed symbol s
spelled_form lexeme.End bytes s = absurd s

-- what begins with a form is no blank, comment or end
letter_stands : (bytes : List ℕ) → begins_with is_letter bytes ≡ true → Stands bytes
letter_stands [] h = absurd (clash _ refl h)
letter_stands (b ∷ bs) h = (grind (arith, nat_tests, h), grind (arith, nat_tests, h))

digit_stands : (bytes : List ℕ) → begins_with is_ascii_digit bytes ≡ true → Stands bytes
digit_stands [] h = absurd (clash _ refl h)
digit_stands (b ∷ bs) h = (grind (arith, nat_tests, h), grind (arith, nat_tests, h))

quote_stands : (bytes : List ℕ) → begins_with is_quote bytes ≡ true → Stands bytes
quote_stands [] h = absurd (clash _ refl h)
quote_stands (b ∷ bs) h = (grind (arith, nat_tests, h), grind (arith, nat_tests, h))

symbol_stands : (s : Symbol) → Stands (symbol_byte s ∷ [])
symbol_stands Equals = (refl, refl)
symbol_stands Open = (refl, refl)
symbol_stands Close = (refl, refl)
symbol_stands Comma = (refl, refl)
symbol_stands Less = (refl, refl)
symbol_stands Greater = (refl, refl)
symbol_stands Plus = (refl, refl)
symbol_stands Minus = (refl, refl)
symbol_stands Star = (refl, refl)
symbol_stands Slash = (refl, refl)

form_stands : (bytes : List ℕ) → HasForm bytes → Stands bytes
form_stands bytes (named h) = letter_stands bytes (named_first bytes h)
form_stands bytes (counted count s) = digit_stands bytes (size_first bytes count s)
form_stands bytes (quoted text s) = quote_stands bytes (quote_first bytes _ s.quoted)
form_stands bytes (signed s e) = rw e (symbol_stands s)

stands-take : (bytes : List ℕ) (n : ℕ) → Stands (take n bytes) → Stands bytes
stands-take bytes zero h = absurd h
stands-take [] (suc n) h = absurd h
stands-take (b ∷ bs) (suc n) h = h

pub spelled_stands : (what : Lexeme) (bytes : List ℕ) (n : ℕ) → Spells what (take n bytes) → Stands bytes
spelled_stands what bytes n s = stands-take bytes n (form_stands (take n bytes) (spelled_form what (take n bytes) s))
