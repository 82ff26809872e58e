-- The lengths of texts in lines.
use Rattle.std.proofs.Common.{◌≡◌, ℕ, ◌≤◌, List, length, true, nat_le, leb-true}
use Rattle.std.proofs.lemmas.Bool.{and_parts}
use Rattle.std.specs.List.{list_all}
use Rattle.aw_cell.specs.Text.{is_text, is_text_byte}

-- a text has at most 64 bytes
pub text_fits : (bytes : List ℕ) → is_text bytes ≡ true → length bytes ≤ 64
text_fits bytes text = leb-true (length bytes) 64 (and_parts (nat_le (length bytes) 64) (list_all is_text_byte bytes) text).0
