-- What one `put` of a sink did.
use Rattle.std.specs.Prelude.{◌≡◌, ℕ, ◌<◌, ◌≤◌, List, length, take, Option}
use Rattle.aw_io.specs.declared.sink.Gave.{Gave}
use Rattle.aw_io.specs.declared.sink.Gave.TheVariants.{Put, Failed}
use Rattle.aw_io.specs.Known.{Grows}

-- what was written grew by the first n of the bytes, at least one
pub record TakesFront (n : ℕ) (before now : Option (List ℕ)) (bytes : List ℕ) : Type 0 where
  pub some : 0 < n
  pub within : n ≤ length bytes
  pub grows : Grows before now (take n bytes)

-- `Put(n)`: n bytes went. What was written stays at a failure.
abbrev pub Puts : Gave → Option (List ℕ) → Option (List ℕ) → List ℕ → Type 0
Puts (Put n) before now bytes = TakesFront n before now bytes
Puts Failed before now bytes = now ≡ before
