-- Names and words are the longest tokens at their place.
use Rattle.std.proofs.Common.{◌≡◌, ◌≤◌, ◌<◌, ◌+◌, ℕ, ◌∙◌, refl, ap, sym, arith, true, false, Bool, cond, ◌&&◌, ◌||◌, List, [], ◌∷◌, length, take, length-take-le}
use Rattle.std.specs.Prelude.{IsTrue, nat_le, Some, None}
use Rattle.std.specs.List.{list_all, list_any, prefix_len, position_from}
use Rattle.std.proofs.lemmas.Bool.{and_parts, leb-true, le-leb}
use Rattle.std.proofs.lemmas.Bool.Decides.{nat_tests}
use Rattle.std.proofs.lemmas.List.{length-take}
use Rattle.std.proofs.lemmas.List.Sums.{prefix_len-le-length}
use Rattle.aw_cell.specs.Names.{is_letter, is_name, is_name_byte, has_name_form, begins_with, same_word, reserved_words}
use Rattle.dml_tree.specs.Words.{word_place}
use Rattle.dml_tree.specs.Spelling.{Spells}
use Rattle.dml_tree.specs.LineTokens.{IsNext}
use Rattle.dml_tree.specs.declared.token.Lexeme.{Lexeme}
use Rattle.dml_tree.proofs.Fronts.{prefix_len-covers, prefix_len-part, take-take}
use Rattle.dml_tree.proofs.Forms.{begins-take, letter_form}

abbrev pub name_front : List ℕ → ℕ
name_front bytes = prefix_len is_name_byte (take 64 bytes)

pub name_front-within : (bytes : List ℕ) → (name_front bytes ≤ length bytes) × (name_front bytes ≤ 64)
name_front-within bytes =
    let most = prefix_len-le-length is_name_byte (take 64 bytes) in
    let size = length-take 64 bytes in
    (omega arith, omega arith)

pub name_front-fits : (bytes : List ℕ) (len : ℕ) → len ≡ name_front bytes → len ≡ length (take len bytes)
name_front-fits bytes len e = let within = name_front-within bytes in sym (length-take-le len bytes (omega arith))

letter_is_name_byte : (b : ℕ) → is_letter b ≡ true → is_name_byte b ≡ true
letter_is_name_byte b h = grind (arith, nat_tests, h)

name_front-some : (bytes : List ℕ) → begins_with is_letter bytes ≡ true → 0 < name_front bytes
name_front-some [] h = cc
name_front-some (b ∷ bs) h = let yes = letter_is_name_byte b h in rw yes (omega arith)

all-three : (x y z : Bool) → x ≡ true → y ≡ true → z ≡ true → (x && y && z) ≡ true
all-three x y z p q r = rw (p, q, r) refl

pub name_front-form : (bytes : List ℕ) (len : ℕ) → len ≡ name_front bytes → begins_with is_letter bytes ≡ true → has_name_form (take len bytes) ≡ true
name_front-form bytes len e h =
    let within = name_front-within bytes in
    let some = name_front-some bytes h in
    let size = length-take-le len bytes (omega arith) in
    all-three (begins_with is_letter (take len bytes)) (nat_le (length (take len bytes)) 64) (list_all is_name_byte (take len bytes))
    (begins-take is_letter bytes len (omega arith) ∙ h)
    (le-leb (length (take len bytes)) 64 (omega arith))
    (ap (λ l. list_all is_name_byte l) (sym (take-take bytes len 64 (omega arith))) ∙ prefix_len-part is_name_byte (take 64 bytes) len (omega arith))

no_longer_name : (bytes : List ℕ) (longer : ℕ) → longer ≤ length bytes → has_name_form (take longer bytes) ≡ true → longer ≤ name_front bytes
no_longer_name bytes longer within h =
    let parts = and_parts (begins_with is_letter (take longer bytes) && nat_le (length (take longer bytes)) 64) (list_all is_name_byte (take longer bytes)) h in
    let short = leb-true (length (take longer bytes)) 64 (and_parts (begins_with is_letter (take longer bytes)) (nat_le (length (take longer bytes)) 64) parts.0).1 in
    let size = length-take-le longer bytes within in
    let all = length-take 64 bytes in
    let few : longer ≤ 64 = omega arith in
    prefix_len-covers is_name_byte (take 64 bytes) longer (omega arith) (ap (λ l. list_all is_name_byte l) (take-take bytes longer 64 few) ∙ parts.1)

pub named_is_next : (bytes : List ℕ) (len : ℕ) (what : Lexeme) → len ≡ name_front bytes → begins_with is_letter bytes ≡ true → Spells what (take len bytes) → IsNext bytes what len
named_is_next bytes len what e h spelled =
    let within = name_front-within bytes in
    let first = name_front-some bytes h in
    record {
      some = omega arith;
      within = omega arith;
      spelled = spelled;
      longest = λ longer more most form.
          let letter = begins-take is_letter bytes longer (omega arith) ∙ h in
          let most = no_longer_name bytes longer most (letter_form (take longer bytes) letter form) in
          omega arith;
    }

-- where no reserved word is found, none is the same
none_found : {X : Type 0} (p : X → Bool) (xs : List X) (i : ℕ) → position_from p i xs ≡ None → list_any p xs ≡ false
none_found p [] i e = refl
none_found p (x ∷ xs) i e = by (p x) refl (none_found p xs (i + 1)) e
  where
    by : (b : Bool) → p x ≡ b → (position_from p (i + 1) xs ≡ None → list_any p xs ≡ false) → cond b (Some i) (position_from p (i + 1) xs) ≡ None → (p x || list_any p xs) ≡ false
    by true is rest e = cc
    by false is rest e = rw is (rest e)

pub no_word : (bytes : List ℕ) → has_name_form bytes ≡ true → word_place bytes ≡ None → IsTrue (is_name bytes)
unfolding word_place
no_word bytes form e = let none = none_found (same_word bytes) reserved_words 0 e in rw (form, none) refl
