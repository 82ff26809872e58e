-- What the calls of a disk answer and do to its content. The content may be told, as `Some`, or not.
-- A disk that stopped telling doesn't tell again.
use Rattle.std.specs.Prelude.{◌≡◌, ℕ, ◌-◌, ◌+◌, ◌^◌, ◌≤◌, min, List, length, take, drop, Option, None, Some, IsSome}
use Rattle.aw_disk.specs.Images.{overwritten, Torn}

-- the greatest length of a disk that tells its content
abbrev pub length_limit : ℕ
length_limit = 2 ^ 62

-- the bytes from an offset on stand at the front of the buffer, as many as there are and fit
pub record Reads (count offset : ℕ) (content : List ℕ) (buffer : List ℕ) : Type 0 where
  pub count_is : count ≡ min (length buffer) (length content - offset)
  pub bytes : take count buffer ≡ take count (drop offset content)

-- a relation between the content before and now, where both are told
abbrev pub BothTold : (List ℕ → List ℕ → Type 0) → Option (List ℕ) → Option (List ℕ) → Type 0
BothTold R before None = Unit {0}
BothTold R None (Some now) = ⊥
BothTold R (Some before) (Some now) = R before now

-- these bytes stand at the offset, within the limit, and all others stayed
pub record Wrote (offset : ℕ) (bytes before now : List ℕ) : Type 0 where
  pub content : now ≡ overwritten before offset bytes
  pub within : offset + length bytes ≤ length_limit

-- a write that succeeded
pub record Written (offset : ℕ) (bytes : List ℕ) (before now : Option (List ℕ)) : Type 0 where
  pub where_told : BothTold (Wrote offset bytes) before now

-- a write that failed: any bytes in the range and past the old end, and all others stayed. A disk
-- that tells its content goes on telling it
pub record HalfWritten (offset count : ℕ) (before now : Option (List ℕ)) : Type 0 where
  pub where_told : BothTold (Torn offset count) before now
  pub goes_on : IsSome before → IsSome now
