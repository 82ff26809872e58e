-- The function of a line's tokens gives its tokens, or its first fault.
use Rattle.std.proofs.Common.{◌≡◌, ◌≤◌, ◌<◌, ◌+◌, ◌-◌, ◌*◌, ◌==◌, ◌||◌, ℕ, zero, suc, ◌∙◌, refl, ap, sym, subst, arith, true, false, Bool, cond, List, [], ◌∷◌, ◌++◌, length, take, drop, map, ℤ, Option, Some, None, Result, Ok, Err, eqb-true, length-take-le, length-drop, drop-cons, length-append, append_assoc, eq-eqb, get_or}
use Rattle.std.specs.Prelude.{IsTrue, pos, nat_lt, nat_le, slice_get}
use Rattle.std.specs.List.{prefix_len}
use Rattle.std.specs.Option.{option_map}
use Rattle.std.specs.Char.{is_ascii_digit}
use Rattle.std.proofs.lemmas.Bool.{leb-true, leb-false}
use Rattle.std.proofs.lemmas.Int.{ints}
use Rattle.std.proofs.Math.Seq.{drop-append_seam}
use Rattle.std.proofs.lemmas.List.{take-append-drop, map-append, get_or-drop}
use Rattle.std.proofs.lemmas.List.Sums.{prefix_len-le-length, prefix_len_stops}
use Rattle.aw_cell.specs.Names.{is_letter, begins_with, has_name_form}
use Rattle.aw_cell.specs.Number.{IsInRange}
use Rattle.aw_cell.specs.Numeral.{pointed, ten_thousandths, SpellsSize, SpellsInRange, Spells as SpellsNumber}
use Rattle.aw_cell.specs.Text.{is_text}
use Rattle.dml_tree.specs.Words.{word_number, word_place, SpellsWord}
use Rattle.dml_tree.specs.Spelling.{symbol_byte, escaped, space_for_tab, Spells}
use Rattle.dml_tree.specs.LineTokens.{is_blank, IsNext, AreBlanks, Stands, HasEnded, ComesNext, Follow, AreTokens, HasFault, end_token}
use Rattle.dml_tree.specs.Laws.{IsReadSo}
use Rattle.dml_tree.specs.inside.Scanning.{NoneIsNext, HasRead, fraction_len, numeral_len, numeral_lexeme, looked_up}
use Rattle.dml_tree.specs.declared.word.Word.{Word}
use Rattle.dml_tree.specs.declared.token.Symbol.{Symbol}
use Rattle.dml_tree.specs.declared.token.Symbol.TheVariants.{Equals, Open, Close, Comma, Less, Greater, Plus, Minus, Star, Slash}
use Rattle.dml_tree.specs.declared.token.Lexeme.{Lexeme}
use Rattle.dml_tree.specs.declared.token.Lexeme.TheVariants as lexeme
use Rattle.dml_tree.specs.declared.token.Token.{Token}
use Rattle.dml_tree.specs.declared.token.TokenFault.{TokenFault}
use Rattle.dml_tree.specs.declared.token.TokenFault.TheVariants.{Lexical, NoMemory}
use Rattle.dml_tree.specs.TokensIn as in_line
use Rattle.dml_tree.specs.TokensIn.{Found, TokensRead, name_or_word, name_front, named, numeral, numeral_units, whole_len, part_len, letters, with_letter, with_escaped, as_text, is_special, symbol_of, signed, next_in, with_token, token_at, read_on, read_from, start_at, scanned, tokens_in}
use Rattle.dml_tree.proofs.Forms.{is_quote, begins-take, quote_byte, quote_form, spelled_form}
use Rattle.dml_tree.proofs.WordTable.{word_found}
use Rattle.dml_tree.proofs.Named.{name_front-form, named_is_next, no_word}
use Rattle.dml_tree.proofs.NumeralLength.{NumeralParts, numeral_parts, numeral_len-some, whole_some}
use Rattle.dml_tree.proofs.Numerals.{numeral_is_next, no_numeral, unsigned_numeral}
use Rattle.dml_tree.proofs.Once.{size_once}
use Rattle.dml_tree.proofs.Quotes as quotes
use Rattle.dml_tree.proofs.Symbols.{BeginsLikeASymbol, symbol_is_next, no_symbol}
use Rattle.dml_tree.proofs.LineWalk.{are_blanks}

-- what is found is the next token, and where nothing is found none is
abbrev Finds : List ℕ → Option Found → Type 0
Finds bytes None = NoneIsNext bytes
Finds bytes (Some found) = IsNext bytes found.0 found.1

-- ---- names and words

word_or_name : (bytes : List ℕ) → has_name_form bytes ≡ true → Spells (name_or_word (looked_up in_line.words bytes) bytes) bytes
word_or_name bytes form = by (looked_up in_line.words bytes) (word_found bytes)
  where
    by : (found : Option Word) → option_map word_number found ≡ word_place bytes → Spells (name_or_word found bytes) bytes
    by (Some word) e = record { form = form; place = sym e }
    by None e = (no_word bytes form (sym e), refl)

named_found : (bytes : List ℕ) → begins_with is_letter bytes ≡ true → IsNext bytes (named bytes).0 (named bytes).1
named_found bytes h = named_is_next bytes (name_front bytes) (named bytes).0 refl h (word_or_name (take (name_front bytes) bytes) (name_front-form bytes (name_front bytes) refl h))

-- ---- numerals

behind_point : (decimals : List ℕ) → drop 1 (pointed decimals) ≡ decimals
behind_point [] = refl
behind_point (d ∷ ds) = refl

decimals_are : (bytes : List ℕ) (parts : NumeralParts bytes (numeral_len bytes) (nat_lt 0 (part_len bytes))) → in_line.decimals_in bytes ≡ parts.decimals
decimals_are bytes parts =
    let most = prefix_len-le-length is_ascii_digit bytes in
    let size : length (take (whole_len bytes) bytes) ≡ whole_len bytes = length-take-le (whole_len bytes) bytes (omega arith) in
    ap (λ (l : List ℕ). drop 1 (drop (whole_len bytes) l)) parts.form
    ∙ ap (λ (n : ℕ). drop 1 (drop n (take (whole_len bytes) bytes ++ pointed parts.decimals))) (sym size)
    ∙ ap (drop 1) (drop-append_seam (take (whole_len bytes) bytes) (pointed parts.decimals))
    ∙ behind_point parts.decimals

numeral_size : (bytes : List ℕ) → begins_with is_ascii_digit bytes ≡ true → SpellsSize (take (numeral_len bytes) bytes) (numeral_units bytes)
numeral_size bytes first =
    let parts = numeral_parts bytes in
    let some = whole_some bytes first in
    let most = prefix_len-le-length is_ascii_digit bytes in
    let size : length (take (whole_len bytes) bytes) ≡ whole_len bytes = length-take-le (whole_len bytes) bytes (omega arith) in
    record {
      whole = take (whole_len bytes) bytes;
      decimals = parts.decimals;
      form = parts.form;
      parts = record {
        some = omega arith;
        whole_digits = parts.whole_digits;
        few = parts.few;
        decimal_digits = parts.digits;
        value = ap (ten_thousandths (take (whole_len bytes) bytes)) (decimals_are bytes parts);
      };
    }

in_range : (count : ℕ) → count ≤ 999999999999999999 → IsInRange (pos count)
in_range count h = (omega (arith, ints), omega (arith, ints))

most_in_range : (count : ℕ) → IsInRange (pos count) → count ≤ 999999999999999999
most_in_range count range = omega (arith, ints, range.1)

numeral_found : (bytes : List ℕ) → begins_with is_ascii_digit bytes ≡ true → Finds bytes (numeral bytes)
numeral_found bytes first = by (nat_le (numeral_units bytes) 999999999999999999) refl
  where
    size : SpellsSize (take (numeral_len bytes) bytes) (numeral_units bytes)
    size = numeral_size bytes first

    begins : begins_with is_ascii_digit (take (numeral_len bytes) bytes) ≡ true
    begins = let some = numeral_len-some bytes first in begins-take is_ascii_digit bytes (numeral_len bytes) (omega arith) ∙ first

    by : (fits : Bool) → nat_le (numeral_units bytes) 999999999999999999 ≡ fits → Finds bytes (cond fits (Some (numeral_lexeme (nat_lt 0 (part_len bytes)) (pos (numeral_units bytes)), numeral_len bytes)) None)
    by true is =
        numeral_is_next bytes (numeral_len bytes) (nat_lt 0 (part_len bytes)) (pos (numeral_units bytes)) first refl refl
        (record { negative = false; unsigned = take (numeral_len bytes) bytes; count = numeral_units bytes; form = refl; size = size; value = refl }, in_range (numeral_units bytes) (leb-true (numeral_units bytes) 999999999999999999 is))
    by false is = no_numeral bytes (numeral_len bytes) first refl (λ units read.
        let plain = unsigned_numeral (take (numeral_len bytes) bytes) units begins read.0 in
        let same : plain.count ≡ numeral_units bytes = size_once (take (numeral_len bytes) bytes) plain.count (numeral_units bytes) plain.size size in
        let low : plain.count ≤ 999999999999999999 = most_in_range plain.count (subst IsInRange plain.value read.1) in
        let high = leb-false (numeral_units bytes) 999999999999999999 is in
        omega arith)

-- ---- texts

abbrev spaced : List ℕ → List ℕ
spaced bytes = map space_for_tab bytes

-- the letters of a text and how many bytes they take, behind which its closing quote stands
record IsClosed (bytes text : List ℕ) (len : ℕ) : Type 0 where
  within : len < length bytes
  written : spaced (take len bytes) ≡ escaped text
  quote : begins_with is_quote (drop len bytes) ≡ true

-- no text ends here
abbrev IsUnclosed : List ℕ → Type 0
IsUnclosed bytes = (text behind : List ℕ) → spaced bytes ≡ escaped text ++ 39 ∷ behind → ⊥

abbrev Closes : List ℕ → Option (List ℕ × ℕ) → Type 0
Closes bytes (Some read) = IsClosed bytes read.0 read.1
Closes bytes None = IsUnclosed bytes

never_nil : (text behind : List ℕ) → [] ≡ escaped text ++ 39 ∷ behind → ⊥
never_nil text behind e =
    let size : 0 ≡ length (escaped text ++ 39 ∷ behind) = ap length e in
    let sum = length-append (escaped text) (39 ∷ behind) in
    let one : length (39 ∷ behind) ≡ suc (length behind) = refl in
    omega arith

-- what a text with its closing quote begins with
data Head (rest behind : List ℕ) : Type 0 where
  closing : rest ≡ 39 ∷ behind → Head rest behind
  special : (c : ℕ) (text : List ℕ) → is_special c ≡ true → rest ≡ 92 ∷ c ∷ (escaped text ++ 39 ∷ behind) → Head rest behind
  plain : (c : ℕ) (text : List ℕ) → is_special c ≡ false → rest ≡ c ∷ (escaped text ++ 39 ∷ behind) → Head rest behind

head_of : (rest text behind : List ℕ) → rest ≡ escaped text ++ 39 ∷ behind → Head rest behind
head_of rest [] behind e = closing e
head_of rest (c ∷ cs) behind e = by (is_special c) refl e
  where
    by : (b : Bool) → is_special c ≡ b → rest ≡ cond b (92 ∷ c ∷ escaped cs) (c ∷ escaped cs) ++ 39 ∷ behind → Head rest behind
    by true is e = special c cs is e
    by false is e = plain c cs is e

clash : (b : Bool) → b ≡ false → b ≡ true → ⊥
clash b f t = let both : true ≡ false = sym t ∙ f in cc

not_quote : (x : ℕ) → (x == 39) ≡ false → x ≡ 39 → ⊥
not_quote x f e = clash (x == 39) f (eq-eqb x 39 e)

not_slash : (x : ℕ) → (x == 92) ≡ false → x ≡ 92 → ⊥
not_slash x f e = clash (x == 92) f (eq-eqb x 92 e)

closed_here : (a : ℕ) (bytes : List ℕ) → (space_for_tab a == 39) ≡ true → IsClosed (a ∷ bytes) [] 0
closed_here a bytes is = record { within = omega arith; written = refl; quote = quote_byte a (eqb-true (space_for_tab a) 39 is) }

letters_close : (bytes : List ℕ) → Closes bytes (letters bytes)
letters_close [] = λ text behind e. never_nil text behind e
letters_close (a ∷ []) = by (space_for_tab a == 39) refl
  where
    by : (b : Bool) → (space_for_tab a == 39) ≡ b → Closes (a ∷ []) (cond b (Some ([], 0)) None)
    by true is = closed_here a [] is
    by false is = λ text behind e. elim (head_of (spaced (a ∷ [])) text behind e) [
      | closing at ↦ let first : space_for_tab a ≡ 39 = cc in not_quote (space_for_tab a) is first
      | special c cs it at ↦ absurd cc
      | plain c cs it at ↦ let rest : [] ≡ escaped cs ++ 39 ∷ behind = cc in never_nil cs behind rest
    ]
letters_close (a ∷ b ∷ bytes) = by (space_for_tab a == 39) (space_for_tab a == 92) (is_special (space_for_tab b)) refl refl refl (letters_close bytes) (letters_close (b ∷ bytes))
  where
    x : ℕ
    x = space_for_tab a

    y : ℕ
    y = space_for_tab b

    escape : x ≡ 92 → is_special y ≡ true → (r : Option (List ℕ × ℕ)) → Closes bytes r → (x == 39) ≡ false → Closes (a ∷ b ∷ bytes) (with_escaped y r)
    escape slash it (Some read) r other = record {
      within = let h = r.within in omega arith;
      written = ap (λ (l : List ℕ). x ∷ y ∷ l) r.written ∙ ap (λ (c : ℕ). c ∷ y ∷ escaped read.0) slash ∙ ap (λ (p : Bool). cond p (92 ∷ y ∷ escaped read.0) (y ∷ escaped read.0)) (sym it);
      quote = r.quote;
    }
    escape slash it None r other = λ text behind e. elim (head_of (spaced (a ∷ b ∷ bytes)) text behind e) [
      | closing at ↦ let first : x ≡ 39 = cc in not_quote x other first
      | special c cs so at ↦ let rest : spaced bytes ≡ escaped cs ++ 39 ∷ behind = cc in r cs behind rest
      | plain c cs so at ↦ let first : x ≡ c = cc in clash (is_special c) so (ap is_special (sym first ∙ slash))
    ]

    bare : x ≡ 92 → is_special y ≡ false → (x == 39) ≡ false → IsUnclosed (a ∷ b ∷ bytes)
    bare slash it other text behind e = elim (head_of (spaced (a ∷ b ∷ bytes)) text behind e) [
      | closing at ↦ let first : x ≡ 39 = cc in not_quote x other first
      | special c cs so at ↦ let second : y ≡ c = cc in clash (is_special y) it (ap is_special second ∙ so)
      | plain c cs so at ↦ let first : x ≡ c = cc in clash (is_special c) so (ap is_special (sym first ∙ slash))
    ]

    letter : (x == 39) ≡ false → (x == 92) ≡ false → (r : Option (List ℕ × ℕ)) → Closes (b ∷ bytes) r → Closes (a ∷ b ∷ bytes) (with_letter x r)
    letter other none (Some read) r = record {
      within = let h = r.within in omega arith;
      written = ap (λ (l : List ℕ). x ∷ l) r.written ∙ ap (λ (p : Bool). cond p (92 ∷ x ∷ escaped read.0) (x ∷ escaped read.0)) (sym (both_false (x == 39) (x == 92) other none));
      quote = r.quote;
    }
      where
        both_false : (p q : Bool) → p ≡ false → q ≡ false → (p || q) ≡ false
        both_false p q f g = rw (f, g) refl
    letter other none None r = λ text behind e. elim (head_of (spaced (a ∷ b ∷ bytes)) text behind e) [
      | closing at ↦ let first : x ≡ 39 = cc in not_quote x other first
      | special c cs so at ↦ let first : x ≡ 92 = cc in not_slash x none first
      | plain c cs so at ↦ let rest : spaced (b ∷ bytes) ≡ escaped cs ++ 39 ∷ behind = cc in r cs behind rest
    ]

    by : (p q s : Bool) → (x == 39) ≡ p → (x == 92) ≡ q → is_special y ≡ s → Closes bytes (letters bytes) → Closes (b ∷ bytes) (letters (b ∷ bytes))
        → Closes (a ∷ b ∷ bytes) (cond p (Some ([], 0)) (cond q (cond s (with_escaped y (letters bytes)) None) (with_letter x (letters (b ∷ bytes)))))
    by true q s is slash it behind next = closed_here a (b ∷ bytes) is
    by false true true other slash it behind next = escape (eqb-true x 92 slash) it (letters bytes) behind other
    by false true false other slash it behind next = bare (eqb-true x 92 slash) it other
    by false false s other none it behind next = letter other none (letters (b ∷ bytes)) next

unclosed_found : (b : ℕ) (bytes : List ℕ) → (b == 39) ≡ true → IsUnclosed bytes → NoneIsNext (b ∷ bytes)
unclosed_found b bytes quote none what zero next = let some = next.some in absurd (omega arith)
unclosed_found b bytes quote none what (suc n) next =
    let t = quote_form (take (suc n) (b ∷ bytes)) quote (spelled_form what (take (suc n) (b ∷ bytes)) next.spelled) in
    let front : spaced (take n bytes) ≡ escaped t.0 ++ 39 ∷ [] = (let whole = t.1.quoted in cc) in
    none t.0 (spaced (drop n bytes))
    (ap spaced (sym (take-append-drop n bytes)) ∙ map-append space_for_tab (take n bytes) (drop n bytes) ∙ ap (λ (l : List ℕ). l ++ spaced (drop n bytes)) front
    ∙ append_assoc (escaped t.0) (39 ∷ []) (spaced (drop n bytes)))

text_found : (b : ℕ) (bytes : List ℕ) → (b == 39) ≡ true → (r : Option (List ℕ × ℕ)) → Closes bytes r → Finds (b ∷ bytes) (as_text r)
text_found b bytes quote None r = unclosed_found b bytes quote r
text_found b bytes quote (Some read) r = by (is_text read.0) refl
  where
    has_read : HasRead (b ∷ bytes) (suc read.1) read.0
    has_read = record {
      within = let h = r.within in omega arith;
      some = omega arith;
      read = ap (λ (c : ℕ). c ∷ spaced (take read.1 bytes)) (ap space_for_tab (eqb-true b 39 quote)) ∙ ap (λ (l : List ℕ). 39 ∷ l) r.written;
    }

    by : (fits : Bool) → is_text read.0 ≡ fits → Finds (b ∷ bytes) (cond fits (Some (lexeme.Text read.0, suc read.1 + 1)) None)
    by true is = quotes.quoted_is_next (b ∷ bytes) read.0 (suc read.1) quote has_read r.quote is
    by false is = quotes.no_text (b ∷ bytes) read.0 (suc read.1) quote has_read r.quote (λ it. clash (is_text read.0) is it)

-- ---- symbols

symbol_back : (s : Symbol) → in_line.symbol_by (symbol_byte s) ≡ s
symbol_back Equals = refl
symbol_back Open = refl
symbol_back Close = refl
symbol_back Comma = refl
symbol_back Less = refl
symbol_back Greater = refl
symbol_back Plus = refl
symbol_back Minus = refl
symbol_back Star = refl
symbol_back Slash = refl

symbol_found : (b : ℕ) (bytes : List ℕ) → BeginsLikeASymbol (b ∷ bytes) b → Finds (b ∷ bytes) (signed (symbol_of b))
symbol_found b bytes h = by (symbol_byte (in_line.symbol_by b) == b) refl
  where
    by : (is : Bool) → (symbol_byte (in_line.symbol_by b) == b) ≡ is → Finds (b ∷ bytes) (signed (cond is (Some (in_line.symbol_by b)) None))
    by true is = symbol_is_next (b ∷ bytes) b (in_line.symbol_by b) h (eqb-true (symbol_byte (in_line.symbol_by b)) b is)
    by false is = no_symbol (b ∷ bytes) b h (λ s e. clash (symbol_byte (in_line.symbol_by b) == b) is
        (eq-eqb (symbol_byte (in_line.symbol_by b)) b (ap symbol_byte (ap in_line.symbol_by (sym e) ∙ symbol_back s) ∙ e)))

-- ---- the next token

next_right : (bytes : List ℕ) → Finds bytes (next_in bytes)
next_right [] = λ what len next. let some = next.some in let within = next.within in absurd (omega arith)
next_right (b ∷ bytes) = by (is_letter b) (is_ascii_digit b) (b == 39) refl refl refl
  where
    by : (p q s : Bool) → is_letter b ≡ p → is_ascii_digit b ≡ q → (b == 39) ≡ s
        → Finds (b ∷ bytes) (cond p (Some (named (b ∷ bytes))) (cond q (numeral (b ∷ bytes)) (cond s (as_text (letters bytes)) (signed (symbol_of b)))))
    by true q s letter digit quote = named_found (b ∷ bytes) letter
    by false true s letter digit quote = numeral_found (b ∷ bytes) digit
    by false false true letter digit quote = text_found b bytes quote (letters bytes) (letters_close bytes)
    by false false false letter digit quote = symbol_found b bytes (record { first = refl; no_letter = letter; no_digit = digit; no_quote = quote })

-- ---- the whole line

module _ (line : List ℕ) (at : ℕ) where
  -- behind blanks the line ends
  ends : (start : ℕ) → AreBlanks line at start → HasEnded (drop start line) → AreTokens line at (end_token line ∷ [])
  ends start blanks ended = record { front = []; last = at; place = start; follow = refl; blanks = blanks; ended = ended; all = refl }

  faulty : (start : ℕ) → AreBlanks line at start → Stands (drop start line) → NoneIsNext (drop start line) → HasFault line at (start + 1)
  faulty start blanks stands none = record { front = []; last = at; place = start; follow = refl; blanks = blanks; stands = stands; none = none; counted = refl }

  goes_on : (token : Token) → ComesNext line at token → (r : TokensRead) → IsReadSo line token.to r → IsReadSo line at (with_token token r)
  goes_on token comes (Ok tokens) r =
      record { front = token ∷ r.front; last = r.last; place = r.place; follow = (comes, r.follow); blanks = r.blanks; ended = r.ended; all = ap (λ (l : List Token). token ∷ l) r.all }
  goes_on token comes (Err (Lexical column)) r =
      record { front = token ∷ r.front; last = r.last; place = r.place; follow = (comes, r.follow); blanks = r.blanks; stands = r.stands; none = r.none; counted = r.counted }
  goes_on token comes (Err NoMemory) r = r

-- with less of the line left, so many tokens are right
abbrev Behind : ℕ → List ℕ → Type 0
Behind most line = (place : ℕ) → place ≤ length line → length line - place < most → IsReadSo line place (scanned most line place)

read_right : (most : ℕ) (line : List ℕ) (at : ℕ) → at ≤ length line → length line - at < most → IsReadSo line at (scanned most line at)
read_right zero line at within few = absurd (omega arith)
read_right (suc most) line at within few = by (λ place inner less. read_right most line place inner less) (drop start line) refl
  where
    start : ℕ
    start = start_at line at

    blanks : AreBlanks line at start
    blanks = are_blanks line at (prefix_len is_blank (drop at line)) refl within

    stands : (b : ℕ) (bytes : List ℕ) → drop start line ≡ b ∷ bytes → (b == 34) ≡ false → Stands (b ∷ bytes)
    stands b bytes e other =
        let inner = blanks.within in
        let left = length-drop at line in
        let rest = length-drop start line in
        let size : length (drop start line) ≡ suc (length bytes) = ap length e in
        let here : b ≡ get_or line start 0 = (let at = drop-cons line start 0 (omega arith) in cc) in
        let stop : is_blank (get_or (drop at line) (prefix_len is_blank (drop at line)) 0) ≡ false = prefix_len_stops is_blank (drop at line) 0 (omega arith) in
        (other, ap is_blank (here ∙ sym (get_or-drop at line (prefix_len is_blank (drop at line)) 0)) ∙ stop)

    on : Behind most line → (b : ℕ) (bytes : List ℕ) → drop start line ≡ b ∷ bytes → (b == 34) ≡ false → (found : Option Found) → Finds (b ∷ bytes) found → IsReadSo line at (read_on (scanned most line) start found)
    on behind b bytes e other None none =
        faulty line at start blanks (subst Stands (sym e) (stands b bytes e other)) (subst NoneIsNext (sym e) none)
    on behind b bytes e other (Some found) next =
        let rest = length-drop start line in
        let size : length (drop start line) ≡ length (b ∷ bytes) = ap length e in
        let inner = blanks.within in
        let later = blanks.later in
        let most_here = next.within in
        let some = next.some in
        let P : List ℕ → Type 0 = λ l. IsNext l found.0 found.1 in
        goes_on line at (token_at start found) (record { len = found.1; blanks = blanks; next = subst P (sym e) next; behind = refl })
        (scanned most line (start + found.1)) (behind (start + found.1) (omega arith) (omega arith))

    by : Behind most line → (rest : List ℕ) → drop start line ≡ rest → IsReadSo line at (read_from (scanned most line) line start rest)
    by behind [] e = ends line at start blanks (subst HasEnded (sym e) tt)
    by behind (b ∷ bytes) e = by_byte (b == 34) refl
      where
        by_byte : (comment : Bool) → (b == 34) ≡ comment → IsReadSo line at (cond comment (Ok (end_token line ∷ [])) (read_on (scanned most line) start (next_in (b ∷ bytes))))
        by_byte true is = ends line at start blanks (subst HasEnded (sym e) is)
        by_byte false is = on behind b bytes e is (next_in (b ∷ bytes)) (next_right (b ∷ bytes))

pub each_read : (line : List ℕ) (from : ℕ) → from ≤ length line → IsReadSo line from (tokens_in line from)
unfolding tokens_in
each_read line from within = read_right (suc (length line - from)) line from within (omega arith)
