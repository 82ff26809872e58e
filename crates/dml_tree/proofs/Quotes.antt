-- Texts are the longest tokens at their place.
use Rattle.std.proofs.Common.{◌≡◌, ◌≤◌, ◌<◌, ◌+◌, ◌-◌, ℕ, suc, ◌∙◌, refl, ap, sym, subst, arith, true, false, Bool, cond, ◌||◌, ◌==◌, List, [], ◌∷◌, ◌++◌, length, take, drop, map, get_or, set, append-nil, append_assoc, length-append, length-take-le, length-drop, drop-cons, eq-eqb, eqb-true, add-one}
use Rattle.std.specs.Prelude.{IsTrue, nat_le}
use Rattle.std.specs.List.{list_all}
use Rattle.std.proofs.Math.Seq.{take-add, take-suc-set}
use Rattle.std.proofs.lemmas.Bool.{and_parts, leb-true}
use Rattle.std.proofs.lemmas.List.{take-append-drop, map-append, length-map, drop_all, take_rest}
use Rattle.aw_cell.specs.Names.{begins_with}
use Rattle.aw_cell.specs.Text.{is_text, is_text_byte}
use Rattle.dml_tree.specs.Spelling.{escaped, space_for_tab, SpellsText, Spells}
use Rattle.dml_tree.specs.LineTokens.{IsNext}
use Rattle.dml_tree.specs.inside.Scanning.{NoneIsNext, IsLetter, HasNoLetter, HasRead}
use Rattle.dml_tree.specs.declared.token.Lexeme.{Lexeme}
use Rattle.dml_tree.specs.declared.token.Lexeme.TheVariants as lexeme
use Rattle.dml_tree.proofs.Forms.{is_quote, begins-take, quote_form, quote_byte, letter_no_quote, digit_no_quote, unlike, name_form, named_first, size_first, symbol_class}

abbrev spaced : List ℕ → List ℕ
spaced bytes = map space_for_tab bytes

abbrev is_special : ℕ → Bool
is_special b = b == 39 || b == 92

-- ---- escapes

escaped-append : (xs ys : List ℕ) → escaped (xs ++ ys) ≡ escaped xs ++ escaped ys
escaped-append [] ys = refl
escaped-append (x ∷ xs) ys = by (is_special x) (escaped-append xs ys)
  where
    by : (b : Bool) → escaped (xs ++ ys) ≡ escaped xs ++ escaped ys → cond b (92 ∷ x ∷ escaped (xs ++ ys)) (x ∷ escaped (xs ++ ys)) ≡ cond b (92 ∷ x ∷ escaped xs) (x ∷ escaped xs) ++ escaped ys
    by true rest = ap (λ l. 92 ∷ x ∷ l) rest
    by false rest = ap (λ l. x ∷ l) rest

not_special : (b : ℕ) → is_special b ≡ false → (n : ℕ) → is_special n ≡ true → b ≡ n → ⊥
not_special b f n t e = let both : true ≡ false = sym t ∙ ap is_special (sym e) ∙ f in cc

record IsBehind (read text behind rest : List ℕ) : Type 0 where
  more : List ℕ
  all : text ≡ read ++ more
  left : rest ≡ escaped more ++ 39 ∷ behind

same_letter : (b c : ℕ) (bs cs behind rest : List ℕ) → b ≡ c → IsBehind bs cs behind rest → IsBehind (b ∷ bs) (c ∷ cs) behind rest
same_letter b c bs cs behind rest e r = record { more = r.more; all = ap (λ x. x ∷ cs) (sym e) ∙ ap (λ l. b ∷ l) r.all; left = r.left }

-- what was read of the text between the quotes is its front
is_behind : (read text behind rest : List ℕ) → escaped read ++ rest ≡ escaped text ++ 39 ∷ behind → IsBehind read text behind rest
is_behind [] text behind rest e = record { more = text; all = refl; left = e }
is_behind (b ∷ bs) [] behind rest e = absurd (by (is_special b) refl e)
  where
    by : (p : Bool) → is_special b ≡ p → cond p (92 ∷ b ∷ escaped bs) (b ∷ escaped bs) ++ rest ≡ 39 ∷ behind → ⊥
    by true is e = let first : ◌≡◌ {A = ℕ} 92 39 = cc in omega arith
    by false is e = let first : b ≡ 39 = cc in not_special b is 39 refl first
is_behind (b ∷ bs) (c ∷ cs) behind rest e = by (is_special b) (is_special c) refl refl e (is_behind bs cs behind rest)
  where
    by : (p q : Bool) → is_special b ≡ p → is_special c ≡ q → cond p (92 ∷ b ∷ escaped bs) (b ∷ escaped bs) ++ rest ≡ cond q (92 ∷ c ∷ escaped cs) (c ∷ escaped cs) ++ 39 ∷ behind
        → (escaped bs ++ rest ≡ escaped cs ++ 39 ∷ behind → IsBehind bs cs behind rest) → IsBehind (b ∷ bs) (c ∷ cs) behind rest
    by true true is it e then =
        let first : b ≡ c = cc in
        let others : escaped bs ++ rest ≡ escaped cs ++ 39 ∷ behind = cc in
        same_letter b c bs cs behind rest first (then others)
    by true false is it e then = let first : c ≡ 92 = cc in absurd (not_special c it 92 refl first)
    by false true is it e then = let first : b ≡ 92 = cc in absurd (not_special b is 92 refl first)
    by false false is it e then =
        let first : b ≡ c = cc in
        let others : escaped bs ++ rest ≡ escaped cs ++ 39 ∷ behind = cc in
        same_letter b c bs cs behind rest first (then others)

-- a letter doesn't begin with a quote
no_letter_here : (b : ℕ) (text more behind : List ℕ) → escaped (b ∷ text) ++ more ≡ 39 ∷ behind → ⊥
no_letter_here b text more behind e = let r = is_behind (b ∷ text) [] behind more e in let none : [] ≡ b ∷ (text ++ r.more) = r.all in cc

-- ---- reading on

in_two : (bytes : List ℕ) (n : ℕ) → spaced bytes ≡ spaced (take n bytes) ++ spaced (drop n bytes)
in_two bytes n = ap spaced (sym (take-append-drop n bytes)) ∙ map-append space_for_tab (take n bytes) (drop n bytes)

pub first_read : (bytes text : List ℕ) → begins_with is_quote bytes ≡ true → text ≡ [] → HasRead bytes 1 text
first_read [] text h e = cc
first_read (b ∷ bs) text h e =
    let quote : space_for_tab b ≡ 39 = ap space_for_tab (eqb-true b 39 h) in
    record { within = omega arith; some = omega arith; read = ap (λ x. x ∷ []) quote ∙ ap (λ t. 39 ∷ escaped t) (sym e) }

pub more_read : (bytes text next : List ℕ) (at byte len : ℕ) → HasRead bytes at text → IsLetter (drop at bytes) byte len → next ≡ text ++ byte ∷ [] → HasRead bytes (at + len) next
more_read bytes text next at byte len h letter e =
    let left = length-drop at bytes in
    let size = letter.within in
    let before = h.within in
    let some = h.some in
    record {
      within = omega arith;
      some = omega arith;
      read = ap spaced (take-add at len bytes) ∙ map-append space_for_tab (take at bytes) (take len (drop at bytes))
          ∙ ap (λ l. l ++ spaced (take len (drop at bytes))) h.read ∙ ap (λ l. (39 ∷ escaped text) ++ l) letter.written
          ∙ ap (λ l. 39 ∷ l) (sym (escaped-append text (byte ∷ []))) ∙ ap (λ t. 39 ∷ escaped t) (sym e);
    }

text_behind : (bytes read text : List ℕ) (at n : ℕ) → HasRead bytes at read → SpellsText text (take n bytes) → IsBehind read text (spaced (drop n bytes)) (spaced (drop at bytes))
text_behind bytes read text at n h s =
    let one : spaced bytes ≡ 39 ∷ (escaped read ++ spaced (drop at bytes)) = in_two bytes at ∙ ap (λ l. l ++ spaced (drop at bytes)) h.read in
    let other : spaced bytes ≡ 39 ∷ ((escaped text ++ 39 ∷ []) ++ spaced (drop n bytes)) = in_two bytes n ∙ ap (λ l. l ++ spaced (drop n bytes)) s.quoted in
    let same : escaped read ++ spaced (drop at bytes) ≡ (escaped text ++ 39 ∷ []) ++ spaced (drop n bytes) = cc in
    is_behind read text (spaced (drop n bytes)) (spaced (drop at bytes)) (same ∙ append_assoc (escaped text) (39 ∷ []) (spaced (drop n bytes)))

quote_spelled : (what : Lexeme) (bytes : List ℕ) → begins_with is_quote bytes ≡ true → Spells what bytes → (text : List ℕ) × SpellsText text bytes
quote_spelled (lexeme.Text text) bytes first s = (text, s)
quote_spelled (lexeme.Name name) bytes first s = absurd (letter_no_quote bytes (named_first bytes (name_form name bytes s)) first)
quote_spelled (lexeme.Word word) bytes first s = absurd (letter_no_quote bytes (named_first bytes s.form) first)
quote_spelled (lexeme.Integer whole) bytes first s = absurd (digit_no_quote bytes (size_first bytes _ s.numeral) first)
quote_spelled (lexeme.Whole units) bytes first s = absurd (digit_no_quote bytes (size_first bytes _ s.numeral) first)
quote_spelled (lexeme.Decimal units) bytes first s = absurd (digit_no_quote bytes (size_first bytes _ s.numeral) first)
quote_spelled (lexeme.Symbol symbol) bytes first s = absurd (unlike is_quote bytes symbol s (symbol_class symbol).2 first)
quote_spelled lexeme.End bytes first s = absurd s

next_text : (bytes read : List ℕ) (at n : ℕ) (what : Lexeme) → begins_with is_quote bytes ≡ true → HasRead bytes at read → IsNext bytes what n → (text : List ℕ) × (IsTrue (is_text text)) × IsBehind read text (spaced (drop n bytes)) (spaced (drop at bytes))
next_text bytes read at n what first h next =
    let t = quote_spelled what (take n bytes) (begins-take is_quote bytes n next.some ∙ first) next.spelled in
    (t.0, t.1.fits, text_behind bytes read t.0 at n h t.1)

-- ---- where no text ends

starts_quote : (bytes behind : List ℕ) → spaced bytes ≡ 39 ∷ behind → begins_with is_quote bytes ≡ true
starts_quote [] behind e = cc
starts_quote (b ∷ bs) behind e = let first : space_for_tab b ≡ 39 = cc in quote_byte b first

none_ends : (bytes read text behind : List ℕ) (at : ℕ) → HasNoLetter (drop at bytes) → begins_with is_quote (drop at bytes) ≡ false → IsBehind read text behind (spaced (drop at bytes)) → ⊥
none_ends bytes read text behind at no_letter other r = by r.more r.left
  where
    by : (more : List ℕ) → spaced (drop at bytes) ≡ escaped more ++ 39 ∷ behind → ⊥
    by [] e = let both : true ≡ false = sym (starts_quote (drop at bytes) behind e) ∙ other in cc
    by (b ∷ bs) e = no_letter b bs (39 ∷ behind) e

pub unclosed : (bytes read : List ℕ) (at : ℕ) → begins_with is_quote bytes ≡ true → HasRead bytes at read → HasNoLetter (drop at bytes) → begins_with is_quote (drop at bytes) ≡ false → NoneIsNext bytes
unclosed bytes read at first h no_letter other what n next =
    let t = next_text bytes read at n what first h next in
    none_ends bytes read t.0 (spaced (drop n bytes)) at no_letter other t.2

text_size : (text : List ℕ) → is_text text ≡ true → length text ≤ 64
text_size text h = leb-true (length text) 64 (and_parts (nat_le (length text) 64) (list_all is_text_byte text) h).0

too_long : (bytes read text behind : List ℕ) (at byte len : ℕ) → 64 ≤ length read → is_text text ≡ true → IsLetter (drop at bytes) byte len → IsBehind read text behind (spaced (drop at bytes)) → ⊥
too_long bytes read text behind at byte len full fits letter r = by r.more r.left r.all
  where
    by : (more : List ℕ) → spaced (drop at bytes) ≡ escaped more ++ 39 ∷ behind → text ≡ read ++ more → ⊥
    by [] e all = no_letter_here byte [] (spaced (drop len (drop at bytes))) behind
        (ap (λ l. l ++ spaced (drop len (drop at bytes))) (sym letter.written) ∙ sym (in_two (drop at bytes) len) ∙ e)
    by (b ∷ bs) e all =
        let size = text_size text fits in
        let sum : length text ≡ length read + length (b ∷ bs) = ap length all ∙ length-append read (b ∷ bs) in
        let one : length (b ∷ bs) ≡ suc (length bs) = refl in
        omega arith

pub overlong : (bytes read : List ℕ) (at byte len : ℕ) → begins_with is_quote bytes ≡ true → HasRead bytes at read → 64 ≤ length read → IsLetter (drop at bytes) byte len → NoneIsNext bytes
overlong bytes read at byte len first h full letter what n next =
    let t = next_text bytes read at n what first h next in
    too_long bytes read t.0 (spaced (drop n bytes)) at byte len full t.1 letter t.2

ends_here : (bytes read text behind : List ℕ) (at : ℕ) → begins_with is_quote (drop at bytes) ≡ true → IsBehind read text behind (spaced (drop at bytes)) → text ≡ read
ends_here bytes read text behind at quote r = by (drop at bytes) quote r.more r.left r.all
  where
    by : (rest : List ℕ) → begins_with is_quote rest ≡ true → (more : List ℕ) → spaced rest ≡ escaped more ++ 39 ∷ behind → text ≡ read ++ more → text ≡ read
    by rest quote [] e all = all ∙ append-nil read
    by [] quote (m ∷ ms) e all = cc
    by (b ∷ bs) quote (m ∷ ms) e all =
        let first : space_for_tab b ≡ 39 = ap space_for_tab (eqb-true b 39 quote) in
        absurd (no_letter_here m ms (39 ∷ behind) (spaced bs) (sym e ∙ ap (λ x. x ∷ spaced bs) first))

pub no_text : (bytes read : List ℕ) (at : ℕ) → begins_with is_quote bytes ≡ true → HasRead bytes at read → begins_with is_quote (drop at bytes) ≡ true → (IsTrue (is_text read) → ⊥) → NoneIsNext bytes
no_text bytes read at first h quote unfit what n next =
    let t = next_text bytes read at n what first h next in
    let same : t.0 ≡ read = ends_here bytes read t.0 (spaced (drop n bytes)) at quote t.2 in
    unfit (subst (λ x. IsTrue (is_text x)) same t.1)

-- ---- the token

quote_alone : (rest : List ℕ) → begins_with is_quote rest ≡ true → (spaced (take 1 rest) ≡ 39 ∷ []) × (1 ≤ length rest)
quote_alone [] h = cc
quote_alone (b ∷ bs) h = let first : space_for_tab b ≡ 39 = ap space_for_tab (eqb-true b 39 h) in (ap (λ x. x ∷ []) first, omega arith)

spelled_size : (text bytes : List ℕ) → SpellsText text bytes → length bytes ≡ length (escaped text) + 2
spelled_size text bytes s =
    let sum = length-append (escaped text) (39 ∷ []) in
    let all : length bytes ≡ suc (length (escaped text ++ 39 ∷ [])) = sym (length-map bytes space_for_tab) ∙ ap length s.quoted in
    let one : length {A = ℕ} (39 ∷ []) ≡ 1 = refl in
    omega arith

pub quoted_is_next : (bytes read : List ℕ) (at : ℕ) → begins_with is_quote bytes ≡ true → HasRead bytes at read → begins_with is_quote (drop at bytes) ≡ true → IsTrue (is_text read) → IsNext bytes (lexeme.Text read) (at + 1)
quoted_is_next bytes read at first h quote fits =
    let alone = quote_alone (drop at bytes) quote in
    let left = length-drop at bytes in
    let before = h.within in
    let within : at + 1 ≤ length bytes = omega arith in
    let spelled : SpellsText read (take (at + 1) bytes) = record {
      fits = fits;
      quoted = ap spaced (take-add at 1 bytes) ∙ map-append space_for_tab (take at bytes) (take 1 (drop at bytes))
          ∙ ap (λ l. l ++ spaced (take 1 (drop at bytes))) h.read ∙ ap (λ l. (39 ∷ escaped read) ++ l) alone.0;
    } in
    record {
      some = omega arith;
      within = within;
      spelled = spelled;
      longest = λ longer more most form.
          let t = quote_form (take longer bytes) (begins-take is_quote bytes longer (omega arith) ∙ first) form in
          let same : t.0 ≡ read = ends_here bytes read t.0 (spaced (drop longer bytes)) at quote (text_behind bytes read t.0 at longer h t.1) in
          let long : longer ≡ length (escaped read) + 2 = sym (length-take-le longer bytes most) ∙ spelled_size t.0 (take longer bytes) t.1 ∙ ap (λ x. length (escaped x) + 2) same in
          let here : at + 1 ≡ length (escaped read) + 2 = sym (length-take-le (at + 1) bytes within) ∙ spelled_size read (take (at + 1) bytes) spelled in
          omega arith;
    }

-- the closing quote, as the code looks for it
pub quote_at : (bytes : List ℕ) (at : ℕ) → at < length bytes → get_or bytes at 0 ≡ 39 → begins_with is_quote (drop at bytes) ≡ true
quote_at bytes at within e = ap (begins_with is_quote) (drop-cons bytes at 0 within) ∙ eq-eqb (get_or bytes at 0) 39 e

pub no_quote_at : (bytes : List ℕ) (at : ℕ) → at < length bytes → (get_or bytes at 0 == 39) ≡ false → begins_with is_quote (drop at bytes) ≡ false
no_quote_at bytes at within e = ap (begins_with is_quote) (drop-cons bytes at 0 within) ∙ e

pub no_quote_behind : (bytes : List ℕ) (at : ℕ) → length bytes ≤ at → begins_with is_quote (drop at bytes) ≡ false
no_quote_behind bytes at over = ap (begins_with is_quote) (drop_all at bytes over)

-- ---- what the code holds

-- one more letter in the room for the text
pub one_more_letter : (room : List ℕ) (len byte : ℕ) → length room ≡ 64 → len < 64 → take (len + 1) (set room len byte) ≡ take len room ++ byte ∷ []
one_more_letter room len byte size small = ap (λ n. take n (set room len byte)) (add-one len) ∙ take-suc-set room len byte (omega arith)

pub rest_letter : (bytes : List ℕ) (at byte len : ℕ) → IsLetter (take (length bytes - at) (drop at bytes)) byte len → IsLetter (drop at bytes) byte len
rest_letter bytes at byte len h = let P : List ℕ → Type 0 = λ l. IsLetter l byte len in subst P (take_rest bytes at) h

pub rest_no_letter : (bytes : List ℕ) (at : ℕ) → HasNoLetter (take (length bytes - at) (drop at bytes)) → HasNoLetter (drop at bytes)
rest_no_letter bytes at h = subst HasNoLetter (take_rest bytes at) h

pub full_room : (room : List ℕ) (len : ℕ) → length room ≡ 64 → len ≡ 64 → 64 ≤ length (take len room)
full_room room len size e = let long = length-take-le len room (omega arith) in omega arith

pub record LettersRead (bytes : List ℕ) (at len : ℕ) (room : List ℕ) : Type 0 where
  pub read : HasRead bytes at (take len room)
  pub few : len ≤ 64
  pub size : length room ≡ 64

-- bytes spell one text at most
pub same_text : (one other bytes : List ℕ) → SpellsText one bytes → SpellsText other bytes → one ≡ other
same_text one other bytes s t =
    let both : 39 ∷ escaped one ++ 39 ∷ [] ≡ 39 ∷ escaped other ++ 39 ∷ [] = sym s.quoted ∙ t.quoted in
    let inner : escaped one ++ 39 ∷ [] ≡ escaped other ++ 39 ∷ [] = cc in
    let r = is_behind one other [] (39 ∷ []) inner in
    by r.more r.left r.all
  where
    by : (more : List ℕ) → 39 ∷ [] ≡ escaped more ++ 39 ∷ [] → other ≡ one ++ more → one ≡ other
    by [] e all = sym (all ∙ append-nil one)
    by (b ∷ bs) e all = absurd (no_letter_here b bs (39 ∷ []) [] (sym e))
