-- An index of names: for each word in lower case, the first place of a name that is this word but for case.
use Rattle.std.specs.Prelude.{ℕ, ◌≡◌, List, position, Option}
use Rattle.std.specs.Global.{Vec}
use Rattle.std.specs.HashMap.{HashMap, get_by}
use Rattle.std.specs.Str.{bytes_eq}
use Rattle.aw_cell.specs.Names.{lowercase}

-- the first place of a name whose lower case is this key
abbrev pub first_place : List (List ℕ) → List ℕ → Option ℕ
first_place names key = position (λ name. bytes_eq key (lowercase name)) names

-- the map has the first place of each key, and nothing at a key that no name has
abbrev pub HasFirstPlaces : {S : Type 0} → HashMap (Vec ℕ) ℕ S → List (List ℕ) → Type 0
HasFirstPlaces places names = (key : List ℕ) → get_by (λ k. bytes_eq key k.items) places ≡ first_place names key
