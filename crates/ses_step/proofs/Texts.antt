-- Names of sessions are texts.
use Rattle.std.specs.Prelude.{ℕ, ◌≡◌, true, ◌&&◌, List, length, IsTrue, nat_le}
use Rattle.std.specs.List.{list_all}
use Rattle.std.proofs.Common.{arith}
use Rattle.std.proofs.lemmas.Bool.{and_parts}
use Rattle.std.proofs.lemmas.Bool.Decides.{nat_tests}
use Rattle.aw_cell.specs.Names.{is_word_byte, is_letter, begins_with}
use Rattle.aw_cell.specs.Text.{is_text, is_text_byte}
use Rattle.aw_cell.proofs.callers.NameTexts.{is_text-of}
use Rattle.ses_step.specs.Words.{is_session_name}

is_text_byte-word : (b : ℕ) → is_word_byte b ≡ true → is_text_byte b ≡ true
is_text_byte-word b h = grind (arith, nat_tests, h)

pub is_text-session_name : (word : List ℕ) → is_session_name word ≡ true → IsTrue (is_text word)
is_text-session_name word h =
    let shaped = and_parts (begins_with is_letter word && nat_le (length word) 16) (list_all is_word_byte word) h in
    let sized = and_parts (begins_with is_letter word) (nat_le (length word) 16) shaped.0 in
    is_text-of is_word_byte 16 (omega arith) is_text_byte-word word sized.1 shaped.1
