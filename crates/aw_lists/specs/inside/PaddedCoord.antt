-- How a coordinate lies in its 6 places.
use Rattle.std.specs.Prelude.{ℕ, ◌≡◌, ◌≤◌, ◌-◌, ◌++◌, List, length, take, drop, replicate}
use Rattle.std.proofs.Common.{◌∙◌, ap, sym, arith, length-take-le, take-append-drop}

-- the slots of the coordinate, and then zeros
pub record IsPadded (slots : List ℕ) (len : ℕ) : Type 0 where
  pub size : length slots ≡ 6
  pub fits : len ≤ 6
  pub rest : drop len slots ≡ replicate (6 - len) 0

-- a coordinate with its zeros
abbrev pub padded : List ℕ → List ℕ
padded slots = slots ++ replicate (6 - length slots) 0

pub length-slots : (slots : List ℕ) (len : ℕ) → IsPadded slots len → length (take len slots) ≡ len
length-slots slots len h = length-take-le len slots (omega arith)

-- the coordinate gives all the places back
pub padded-slots : (slots : List ℕ) (len : ℕ) → IsPadded slots len → padded (take len slots) ≡ slots
padded-slots slots len h =
    ap (λ n. take len slots ++ replicate (6 - n) 0) (length-slots slots len h)
    ∙ ap (λ rest. take len slots ++ rest) (sym h.rest) ∙ take-append-drop len slots
