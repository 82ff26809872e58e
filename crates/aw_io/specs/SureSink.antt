-- A sink into memory that was taken at once and isn't exceeded.
use Rattle.std.specs.Prelude.{ℕ, ◌+◌, List, ◌++◌, length, Option, None, Some, nat_le, if◌then◌else◌}

-- what the sink tells as written, and the number of bytes up to which it tells
pub record SureSinkState : Type 0 where
  pub written : Option (List ℕ)
  pub room : ℕ

-- told bytes and these, where the room has them all; past the room nothing is told
abbrev pub written_within : ℕ → Option (List ℕ) → List ℕ → Option (List ℕ)
written_within room None bytes = None
written_within room (Some written) bytes =
    if nat_le (length written + length bytes) room then Some (written ++ bytes) else None
