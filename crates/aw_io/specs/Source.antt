-- What one `take` of a source did.
use Rattle.std.specs.Prelude.{◌≡◌, ℕ, ◌<◌, ◌≤◌, List, length, take, Option, IsSome}
use Rattle.std.specs.Io.KnownBytes.{IsAtEnd}
use Rattle.aw_io.specs.declared.source.Took.{Took}
use Rattle.aw_io.specs.declared.source.Took.TheVariants.{Got, End, Failed}
use Rattle.aw_io.specs.Known.{Gives}

-- the first n bytes of the buffer, at least one, were the first of what was left. A source that tells
-- what is left goes on telling it
pub record GivesFront (n : ℕ) (before now : Option (List ℕ)) (buffer : List ℕ) : Type 0 where
  pub some : 0 < n
  pub within : n ≤ length buffer
  pub gives : Gives before now (take n buffer)
  pub goes_on : IsSome before → IsSome now

-- `Got(n)`: n bytes came. `End`: nothing is left, where that is told. What is left stays at `End` and
-- at a failure.
abbrev pub Takes : Took → Option (List ℕ) → Option (List ℕ) → List ℕ → Type 0
Takes (Got n) before now buffer = GivesFront n before now buffer
Takes End before now buffer = (now ≡ before) × IsAtEnd now
Takes Failed before now buffer = now ≡ before
