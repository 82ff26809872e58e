-- Names of objects are texts.
use Rattle.std.specs.Prelude.{ℕ, ◌≡◌, ◌≤◌, Bool, true, ◌&&◌, List, length, IsTrue, nat_le, not}
use Rattle.std.specs.List.{list_all, list_any}
use Rattle.std.proofs.Common.{arith, get_or}
use Rattle.std.proofs.lemmas.List.Sums.{AllPass-from_list_all, list_all-from_AllPass}
use Rattle.std.proofs.lemmas.Bool.{and_parts, leb-true, le-leb}
use Rattle.std.proofs.lemmas.Bool.Decides.{nat_tests}
use Rattle.aw_cell.specs.Names.{is_name, has_name_form, is_name_byte, is_letter, begins_with, same_word, reserved_words}
use Rattle.aw_cell.specs.Text.{is_text, is_text_byte}

is_text_byte-name : (b : ℕ) → is_name_byte b ≡ true → is_text_byte b ≡ true
is_text_byte-name b h = grind (arith, nat_tests, h)

both : (x y : Bool) → x ≡ true → y ≡ true → (x && y) ≡ true
both x y first second = rw first second

list_all-weaken : (p q : ℕ → Bool) → ((b : ℕ) → p b ≡ true → q b ≡ true) → (bytes : List ℕ) → list_all p bytes ≡ true → list_all q bytes ≡ true
list_all-weaken p q weaken bytes each =
    list_all-from_AllPass q bytes (λ k d within. weaken (get_or bytes k d) (AllPass-from_list_all p bytes each k d within))

-- bytes of a kind that texts have, and not too many of them
pub is_text-of : (p : ℕ → Bool) (longest : ℕ) → longest ≤ 64 → ((b : ℕ) → p b ≡ true → is_text_byte b ≡ true) → (word : List ℕ) → nat_le (length word) longest ≡ true → list_all p word ≡ true → IsTrue (is_text word)
is_text-of p longest fits weaken word short each =
    both (nat_le (length word) 64) (list_all is_text_byte word)
    (let most = leb-true (length word) longest short in le-leb (length word) 64 (omega arith))
    (list_all-weaken p is_text_byte weaken word each)

pub is_text-name_form : (word : List ℕ) → has_name_form word ≡ true → IsTrue (is_text word)
is_text-name_form word h =
    let shaped = and_parts (begins_with is_letter word && nat_le (length word) 64) (list_all is_name_byte word) h in
    let sized = and_parts (begins_with is_letter word) (nat_le (length word) 64) shaped.0 in
    is_text-of is_name_byte 64 (omega arith) is_text_byte-name word sized.1 shaped.1

pub is_text-name : (word : List ℕ) → is_name word ≡ true → IsTrue (is_text word)
is_text-name word h = is_text-name_form word (and_parts (has_name_form word) (not (list_any (same_word word) reserved_words)) h).0
