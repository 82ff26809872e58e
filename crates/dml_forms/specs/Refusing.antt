-- Which tokens are accepted as a part, and at which token others are refused.
use Rattle.std.specs.Prelude.{ℕ, suc, ◌≡◌, ◌<◌, ◌≤◌, Bool, IsTrue, List, length, take}
use Rattle.dml_forms.specs.Forms.{Form, Derives, Starts}

-- A limit that holds for a list holds for each front of it.
abbrev pub IsKeptByFronts : {X : Type 0} → (List X → Bool) → Type 0
IsKeptByFronts {X} limit = (xs : List X) (k m : ℕ) → k ≤ m → IsTrue (limit (take m xs)) → IsTrue (limit (take k xs))

module _ {X N : Type 0} {V : N → Type 0} (sort : X → ℕ) (rule : (n : N) → Form X N V (V n)) (limit : List X → Bool) where
  -- the tokens are this part, with this value, and keep the limit
  abbrev pub Accepted : (n : N) → List X → V n → Type 0
  Accepted n xs v = IsTrue (limit xs) × ((h : ℕ) × Derives sort rule h n xs v)

  -- the tokens begin this part and keep the limit
  abbrev pub Begun : (n : N) → List X → Type 0
  Begun n xs = IsTrue (limit xs) × ((h : ℕ) × Starts sort rule h n xs)

  -- The token of this place, from 0, is the first with which the tokens up to it begin nothing; or, behind them all,
  -- they end too early.
  pub record RefusedAt (n : N) (xs : List X) (k : ℕ) : Type 0 where
    pub within : k ≤ length xs
    pub before : Begun n (take k xs)
    pub here : k < length xs → Begun n (take (suc k) xs) → ⊥
    pub early : k ≡ length xs → (v : V n) → Accepted n xs v → ⊥
