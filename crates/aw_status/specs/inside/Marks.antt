-- Marks by slot.
use Rattle.std.specs.Prelude.{ℕ, ◌≡◌, ◌<◌, Bool, false, List, length, IsTrue, slice_index_or}
use Rattle.aw_status.specs.Rules.{is_among}

abbrev pub is_marked : List Bool → ℕ → Bool
is_marked marks slot = slice_index_or marks slot false

-- each of these slots is below a number
abbrev pub IsBelow : ℕ → List ℕ → Type 0
IsBelow room slots = (slot : ℕ) → IsTrue (is_among slots slot) → slot < room

-- a slot is marked where it is among these
pub record AreMarks (room : ℕ) (slots : List ℕ) (marks : List Bool) : Type 0 where
  pub len : length marks ≡ room
  pub tell : (slot : ℕ) → slot < room → is_marked marks slot ≡ is_among slots slot
