-- The generations of an object: its first body, and what each commit that changes it makes of the one before.
use Rattle.std.specs.Prelude.{◌≡◌, ◌==◌, ◌+◌, ℕ, Bool, List, [], ◌∷◌, ◌++◌, length, fold, find, Option, Some, slice_get}
use Rattle.std.specs.Option.{option_to_list}

-- what an object holds, and what a change does to it
pub record Bodies (Body Change : Type 0) : Type 0 where
  -- the first generation that an object has, and its number
  pub first : ℕ → Body
  pub first_number : ℕ → ℕ
  -- the object of a change
  pub object : Change → ℕ
  -- the body that a change makes of the latest one, and whether it fits there
  pub applied : Body → Change → Body
  pub fits : Body → Change → Bool

module _ {Body Change : Type 0} (bodies : Bodies Body Change) where
  -- the change that a commit has for an object
  abbrev pub change_of : ℕ → List Change → Option Change
  change_of object changes = find (λ c. bodies.object c == object) changes

  -- an object's changes, in the order of the commits
  abbrev pub changes_of : ℕ → List (List Change) → List Change
  changes_of object [] = []
  changes_of object (commit ∷ commits) = option_to_list (change_of object commit) ++ changes_of object commits

  -- a body, and each that the changes make of it
  abbrev pub generations_from : Body → List Change → List Body
  generations_from body [] = body ∷ []
  generations_from body (c ∷ cs) = body ∷ generations_from (bodies.applied body c) cs

  -- all generations of an object, the oldest first
  abbrev pub generations : List (List Change) → ℕ → List Body
  generations history object = generations_from (bodies.first object) (changes_of object history)

  -- a body is the generation of an object that has a number
  abbrev pub IsGeneration : List (List Change) → ℕ → ℕ → Body → Type 0
  IsGeneration history object number body =
      (k : ℕ) × (number ≡ bodies.first_number object + k) × (slice_get (generations history object) k ≡ Some body)

  -- the latest generation of an object
  abbrev pub latest_number : List (List Change) → ℕ → ℕ
  latest_number history object = bodies.first_number object + length (changes_of object history)

  abbrev pub latest_body : List (List Change) → ℕ → Body
  latest_body history object = fold bodies.applied (bodies.first object) (changes_of object history)
