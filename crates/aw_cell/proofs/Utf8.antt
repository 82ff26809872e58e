-- A text is UTF-8.
use Rattle.std.specs.Prelude.{ℕ, ◌≡◌, ◌<◌, List, length, nat_le, true, IsTrue, IsUtf8}
use Rattle.std.specs.List.{list_all}
use Rattle.std.proofs.Common.{arith}
use Rattle.std.proofs.lemmas.Bool.{and_parts, leb-true}
use Rattle.std.proofs.lemmas.List.Sums.{AllPass-from_list_all}
use Rattle.std.proofs.lemmas.Str.{IsUtf8-from_ascii}
use Rattle.std.proofs.lemmas.Str.Ascii.{IsAscii-from_all}
use Rattle.aw_cell.specs.Text.{is_text, is_text_byte}

below_128 : (b : ℕ) → is_text_byte b ≡ true → b < 128
below_128 b h = let most = leb-true b 126 (and_parts (nat_le 32 b) (nat_le b 126) h).1 in omega arith

pub IsUtf8-text : (bytes : List ℕ) → IsTrue (is_text bytes) → IsUtf8 bytes
IsUtf8-text bytes h =
    let all = and_parts (nat_le (length bytes) 64) (list_all is_text_byte bytes) h in
    IsUtf8-from_ascii bytes
    (IsAscii-from_all bytes (λ k d within. below_128 _ (AllPass-from_list_all is_text_byte bytes all.1 k d within)))
