-- What a crash may leave of a journal: the settled payloads, and perhaps one more.
use Rattle.std.specs.Prelude.{◌⊎◌, ℕ, List, [], ◌∷◌, ◌++◌, Option, None, Some}
use Rattle.aw_journal.specs.Format.{Holds}

abbrev pub Left : List (List ℕ) → Option (List ℕ) → List ℕ → Type 0
Left settled None image = Holds image settled
Left settled (Some payload) image = Holds image settled ⊎ Holds image (settled ++ payload ∷ [])

-- each of these images holds these payloads
abbrev pub AllHold : (List ℕ → Type 0) → List (List ℕ) → Type 0
AllHold images payloads = (image : List ℕ) → images image → Holds image payloads
