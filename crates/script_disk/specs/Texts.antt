-- The lines that are written of a workspace when it is opened or made.
use Rattle.std.specs.Prelude.{ℕ, ◌≡◌, ◌⊎◌, List, [], ◌∷◌, ◌++◌, codes, Option}
use Rattle.aw_io.specs.Known.{Grows, GrowsByFront}

-- a workspace that isn't made again
abbrev pub already_a_workspace : List ℕ
already_a_workspace = codes "ALREADY A WORKSPACE" ++ 10 ∷ []

-- a workspace that was made
abbrev pub done : List ℕ
done = codes "ok" ++ 10 ∷ []

-- a text was due with this status, and was written; or the sink failed, and a front of it was
abbrev pub Says : ℕ → List ℕ → ℕ → Option (List ℕ) → Option (List ℕ) → Type 0
Says due text status before now = ((status ≡ due) × Grows before now text) ⊎ ((status ≡ 4) × GrowsByFront before now text)
