-- What is known while the index of a dimension is made.
use Rattle.std.specs.Prelude.{ℕ, true, ◌≡◌, ◌+◌, ◌<◌, ◌≤◌, List, length, slice_index}
use Rattle.std.specs.List.{All}
use Rattle.aw_dim.specs.DimensionState.{Entry, IsValueName}
use Rattle.aw_dim.specs.inside.Index.{precedes}

-- by these names each slot stands before the next one
pub record RiseBy (name : ℕ → List ℕ) (slots : List ℕ) : Type 0 where
  pub next : (at : ℕ) → at + 1 < length slots → precedes (name (slice_index slots at)) (name (slice_index slots (at + 1))) ≡ true

-- values with names and slots below the next one, whether or not some stand twice
pub record AreListed (entries : List Entry) (next : ℕ) : Type 0 where
  pub named : All (λ entry. IsValueName entry.1) entries
  pub below : All (λ entry. entry.0 < next) entries
  pub few : length entries ≤ next
  pub most : next ≤ 65536
