-- What an append and a repair make of a disk's content. The journal's gate is behind the settled
-- frames, and all other bytes stay.
use Rattle.std.specs.Prelude.{◌≡◌, ℕ, ◌+◌, List, [], ◌∷◌, ◌++◌, length}
use Rattle.aw_disk.specs.Images.{overwritten}
use Rattle.aw_journal.specs.Format.{frames}

-- the payload's frame stands at the gate, and a closed gate behind it
pub record Appended (settled : List (List ℕ)) (payload before now : List ℕ) : Type 0 where
  pub content : now ≡ overwritten before (8 + length (frames settled)) (frames (payload ∷ []) ++ 0 ∷ [])

-- the gate is closed
pub record Repaired (settled : List (List ℕ)) (before now : List ℕ) : Type 0 where
  pub content : now ≡ overwritten before (8 + length (frames settled)) (0 ∷ [])
