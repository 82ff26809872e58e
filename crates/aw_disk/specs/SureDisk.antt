-- A disk in memory that was taken at once. Each write is on it at once.
use Rattle.std.specs.Prelude.{ℕ, ◌+◌, List, length, Option, None, Some, nat_le, if◌then◌else◌}
use Rattle.aw_disk.specs.Images.{overwritten}

-- what the disk tells as its content, and the length up to which it tells
pub record SureDiskState : Type 0 where
  pub content : Option (List ℕ)
  pub room : ℕ

-- told bytes with these at an offset, where the room has them all; past the room nothing is told
abbrev pub overwritten_within : ℕ → Option (List ℕ) → ℕ → List ℕ → Option (List ℕ)
overwritten_within room None offset bytes = None
overwritten_within room (Some content) offset bytes =
    if nat_le (offset + length bytes) room then Some (overwritten content offset bytes) else None
