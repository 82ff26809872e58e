-- Numerals are the longest tokens at their place, where they are in range.
use Rattle.std.proofs.Common.{◌≡◌, ◌≤◌, ◌<◌, ◌+◌, ◌*◌, ◌/◌, ℕ, ◌∙◌, refl, ap, sym, subst, arith, true, false, not, Bool, cond, List, [], ◌∷◌, ◌++◌, length, take, drop, ◌-◌, length-take-le, if◌then◌else◌, ℤ, ⊎_elim}
use Rattle.std.specs.Prelude.{pos, nat_lt, nat_le}
use Rattle.std.specs.Char.{is_ascii_digit}
use Rattle.std.specs.Str.Parse.{digits_value}
use Rattle.std.proofs.lemmas.Int.{ints}
use Rattle.std.proofs.lemmas.List.{take_rest}
use Rattle.std.proofs.lemmas.Bool.{leb-true, leb-false, cases_lt}
use Rattle.aw_cell.specs.Names.{begins_with}
use Rattle.aw_cell.specs.Number.{IsInRange}
use Rattle.aw_cell.specs.Numeral.{are_digits, pointed, ten_thousandths, SpellsSize, Spells as SpellsNumber, SpellsInRange}
use Rattle.aw_cell.specs.Rounding.{signed}
use Rattle.dml_tree.specs.Spelling.{Spells, counted}
use Rattle.dml_tree.specs.LineTokens.{IsNext}
use Rattle.dml_tree.specs.inside.Scanning.{NoneIsNext, fraction_len, numeral_len, numeral_lexeme}
use Rattle.dml_tree.specs.declared.token.Lexeme.{Lexeme}
use Rattle.dml_tree.specs.declared.token.Lexeme.TheVariants as lexeme
use Rattle.dml_tree.proofs.Forms.{begins-take, digit_form, spelled_form, letter_no_digit, digit_no_quote, unlike, name_form, named_first, quote_first, symbol_class}
use Rattle.dml_tree.proofs.NumeralLength.{whole_len, NumeralParts, numeral_parts, numeral_len-covers, numeral_len-size, numeral_len-within, numeral_len-some, whole_some, digits_alone}

-- ---- the value of digits alone

whole_value : (whole decimals text : List ℕ) (count : ℕ) → are_digits whole ≡ true → text ≡ whole ++ pointed decimals → count ≡ ten_thousandths whole decimals → are_digits text ≡ true → count ≡ digits_value 10 whole * 10000
whole_value whole [] text count w e value all = value ∙ omega arith
whole_value whole (c ∷ cs) text count w e value all = let both : true ≡ false = sym all ∙ digits_alone whole (c ∷ cs) text w e in cc

whole_count : (text : List ℕ) (count : ℕ) → SpellsSize text count → are_digits text ≡ true → count ≡ count / 10000 * 10000
whole_count text count s all =
    let value : count ≡ digits_value 10 s.whole * 10000 = whole_value s.whole s.decimals text count s.parts.whole_digits s.form s.parts.value all in
    omega arith

spells_whole : (text : List ℕ) (count quotient : ℕ) → quotient ≡ count / 10000 → count ≡ quotient * 10000 → SpellsSize text count → IsInRange (pos count) → are_digits text ≡ true → (small : Bool) → nat_le quotient 2147483647 ≡ small → Spells (cond small (lexeme.Integer (pos quotient)) (lexeme.Whole (pos count))) text
spells_whole text count quotient q e s range all true h =
    record { count = quotient; digits = all; numeral = subst (λ n. SpellsSize text n) e s; most = leb-true quotient 2147483647 h; value = refl }
spells_whole text count quotient q e s range all false h =
    record { count = quotient; digits = all; numeral = subst (λ n. SpellsSize text n) e s; more = leb-false quotient 2147483647 h; range = subst (λ n. IsInRange (pos n)) e range; value = ap pos e }

numeral_spelled : (text : List ℕ) (count : ℕ) (has_point : Bool) → SpellsSize text count → IsInRange (pos count) → are_digits text ≡ not has_point → Spells (numeral_lexeme has_point (pos count)) text
numeral_spelled text count true s range all = record { count = count; point = all; numeral = s; range = range; value = refl }
numeral_spelled text count false s range all = spells_whole text count (count / 10000) refl (whole_count text count s all) s range all (nat_le (count / 10000) 2147483647) refl

-- ---- numerals without a sign

pub record Unsigned (text : List ℕ) (units : ℤ) : Type 0 where
  pub count : ℕ
  pub size : SpellsSize text count
  pub value : units ≡ pos count

without_sign : (negative : Bool) (text unsigned : List ℕ) (count : ℕ) (units : ℤ) → begins_with is_ascii_digit text ≡ true → text ≡ (if negative then 45 ∷ unsigned else unsigned) → SpellsSize unsigned count → units ≡ signed (not negative) count → Unsigned text units
without_sign true text unsigned count units first form size value = let both : true ≡ false = sym first ∙ ap (begins_with is_ascii_digit) form in cc
without_sign false text unsigned count units first form size value = record { count = count; size = subst (λ t. SpellsSize t count) (sym form) size; value = value }

pub unsigned_numeral : (text : List ℕ) (units : ℤ) → begins_with is_ascii_digit text ≡ true → SpellsNumber text units → Unsigned text units
unsigned_numeral text units first s = without_sign s.negative text s.unsigned s.count units first s.form s.size s.value

plain_number : (text : List ℕ) (count : ℕ) → SpellsSize text count → SpellsNumber text (pos count)
plain_number text count s = record { negative = false; unsigned = text; count = count; form = refl; size = s; value = refl }

small_in_range : (count : ℕ) → count ≤ 2147483647 → IsInRange (pos (count * 10000))
small_in_range count h = (omega (arith, ints), omega (arith, ints))

digit_spelled : (what : Lexeme) (text : List ℕ) → begins_with is_ascii_digit text ≡ true → Spells what text → (units : ℤ) × SpellsInRange text units
digit_spelled (lexeme.Integer whole) text first s = (pos (s.count * 10000), (plain_number text (s.count * 10000) s.numeral, small_in_range s.count s.most))
digit_spelled (lexeme.Whole units) text first s = (pos (s.count * 10000), (plain_number text (s.count * 10000) s.numeral, s.range))
digit_spelled (lexeme.Decimal units) text first s = (pos s.count, (plain_number text s.count s.numeral, s.range))
digit_spelled (lexeme.Name name) text first s = absurd (letter_no_digit text (named_first text (name_form name text s)) first)
digit_spelled (lexeme.Word word) text first s = absurd (letter_no_digit text (named_first text s.form) first)
digit_spelled (lexeme.Text t) text first s = absurd (digit_no_quote text first (quote_first text _ s.quoted))
digit_spelled (lexeme.Symbol symbol) text first s = absurd (unlike is_ascii_digit text symbol s (symbol_class symbol).1 first)
digit_spelled lexeme.End text first s = absurd s

-- ---- the token

pub numeral_is_next : (bytes : List ℕ) (len : ℕ) (has_point : Bool) (units : ℤ) → begins_with is_ascii_digit bytes ≡ true → len ≡ numeral_len bytes → has_point ≡ nat_lt 0 (fraction_len (drop (whole_len bytes) bytes)) → SpellsInRange (take len bytes) units → IsNext bytes (numeral_lexeme has_point units) len
numeral_is_next bytes len has_point units first e has read =
    let within = numeral_len-within bytes in
    let parts : NumeralParts bytes len has_point = rw (e, has) (numeral_parts bytes) in
    let whole = whole_some bytes first in
    let some : 0 < numeral_len bytes = numeral_len-some bytes first in
    let begins : begins_with is_ascii_digit (take len bytes) ≡ true = begins-take is_ascii_digit bytes len (omega arith) ∙ first in
    let plain = unsigned_numeral (take len bytes) units begins read.0 in
    let all : are_digits (take len bytes) ≡ not has_point =
    digits_alone (take (whole_len bytes) bytes) parts.decimals (take len bytes) parts.whole_digits parts.form ∙ ap not (sym parts.whether) in
    record {
      some = omega arith;
      within = omega arith;
      spelled = subst (λ (u : ℤ). Spells (numeral_lexeme has_point u) (take len bytes)) (sym plain.value)
          (numeral_spelled (take len bytes) plain.count has_point plain.size (subst IsInRange plain.value read.1) all);
      longest = λ longer more most form.
          let here = digit_form (take longer bytes) (begins-take is_ascii_digit bytes longer (omega arith) ∙ first) form in
          let covers = numeral_len-covers bytes longer here.0 most here.1 in
          omega arith;
    }

pub no_numeral : (bytes : List ℕ) (len : ℕ) → begins_with is_ascii_digit bytes ≡ true → len ≡ numeral_len bytes → ((units : ℤ) → SpellsInRange (take len bytes) units → ⊥) → NoneIsNext bytes
no_numeral bytes len first e none what n next =
    let within = numeral_len-within bytes in
    let begins : begins_with is_ascii_digit (take n bytes) ≡ true = begins-take is_ascii_digit bytes n next.some ∙ first in
    let here = digit_form (take n bytes) begins (spelled_form what (take n bytes) next.spelled) in
    let most : n ≤ numeral_len bytes = numeral_len-covers bytes n here.0 next.within here.1 in
    let size = numeral_len-size bytes first in
    let least : numeral_len bytes ≤ n = ⊎_elim (λ (shorter : n < numeral_len bytes). absurd (next.longest (numeral_len bytes) shorter within.1 (counted size.0 size.1)))
    (λ (enough : numeral_len bytes ≤ n). enough) (cases_lt n (numeral_len bytes)) in
    let same : n ≡ len = omega arith in
    let read = digit_spelled what (take n bytes) begins next.spelled in
    none read.0 (subst (λ k. SpellsInRange (take k bytes) read.0) same read.1)

pub numeral_len-is : (bytes : List ℕ) (whole fraction : ℕ) → whole ≡ whole_len bytes → fraction ≡ fraction_len (drop whole bytes) → whole + fraction ≡ numeral_len bytes
unfolding numeral_len
numeral_len-is bytes whole fraction w f = rw (f, w) refl

pub has_point-is : (bytes : List ℕ) (whole fraction : ℕ) → whole ≡ whole_len bytes → fraction ≡ fraction_len (drop whole bytes) → nat_lt 0 fraction ≡ nat_lt 0 (fraction_len (drop (whole_len bytes) bytes))
has_point-is bytes whole fraction w f = rw (f, w) refl

-- what was left behind the digits, as the code takes it
pub fraction-is : (bytes : List ℕ) (whole fraction : ℕ) → fraction ≡ fraction_len (take (length bytes - whole) (drop whole bytes)) → fraction ≡ fraction_len (drop whole bytes)
fraction-is bytes whole fraction e = e ∙ ap fraction_len (take_rest bytes whole)

pub read_whole : (bytes : List ℕ) (len : ℕ) → len ≡ numeral_len bytes → len ≡ length (take len bytes)
read_whole bytes len e = let within = numeral_len-within bytes in sym (length-take-le len bytes (omega arith))
