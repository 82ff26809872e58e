-- The front of a list of tokens that a reading function looks at.
use Rattle.std.specs.Prelude.{ℕ, suc, ◌<◌, ◌≤◌, Bool, IsTrue, List, length, take}

-- this many tokens are the longest front that keeps the limit
pub record IsLongestFront {X : Type 0} (limit : List X → Bool) (xs : List X) (m : ℕ) : Type 0 where
  pub fits : m ≤ length xs
  pub allowed : IsTrue (limit (take m xs))
  pub most : m < length xs → IsTrue (limit (take (suc m) xs)) → ⊥
