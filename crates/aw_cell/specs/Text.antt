-- Texts: up to 64 bytes of printable ASCII.
use Rattle.std.specs.Prelude.{ℕ, Bool, ◌&&◌, List, length, nat_le}
use Rattle.std.specs.List.{list_all}

-- a byte from the blank to the tilde
abbrev pub is_text_byte : ℕ → Bool
is_text_byte b = nat_le 32 b && nat_le b 126

-- whether bytes are a text
abbrev pub is_text : List ℕ → Bool
is_text bytes = nat_le (length bytes) 64 && list_all is_text_byte bytes
