-- How a text lies in its 64 bytes.
use Rattle.std.specs.Prelude.{ℕ, ◌≡◌, ◌≤◌, ◌-◌, ◌++◌, List, length, take, drop, replicate, IsTrue}
use Rattle.std.proofs.Common.{◌∙◌, ap, sym, arith, length-take-le, take-append-drop}
use Rattle.aw_cell.specs.Text.{is_text}

-- the bytes of the text, and then zeros
pub record IsPadded (bytes : List ℕ) (len : ℕ) : Type 0 where
  pub size : length bytes ≡ 64
  pub fits : len ≤ 64
  pub text : IsTrue (is_text (take len bytes))
  pub rest : drop len bytes ≡ replicate (64 - len) 0

-- a text with its zeros
abbrev pub padded : List ℕ → List ℕ
padded text = text ++ replicate (64 - length text) 0

pub length-text : (bytes : List ℕ) (len : ℕ) → IsPadded bytes len → length (take len bytes) ≡ len
length-text bytes len h = length-take-le len bytes (omega arith)

-- the text gives all the bytes back
pub padded-text : (bytes : List ℕ) (len : ℕ) → IsPadded bytes len → padded (take len bytes) ≡ bytes
padded-text bytes len h =
    ap (λ n. take len bytes ++ replicate (64 - n) 0) (length-text bytes len h)
    ∙ ap (λ rest. take len bytes ++ rest) (sym h.rest) ∙ take-append-drop len bytes
