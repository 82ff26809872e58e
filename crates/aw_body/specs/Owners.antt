-- Who owns which object: a finite map from objects to sessions. It is the list of its pairs, with objects that rise, so
-- that one list stands for one map.
use Rattle.std.specs.Prelude.{ℕ, ◌==◌, ◌&&◌, Bool, false, not, IsTrue, List, [], ◌∷◌, Option, Some, None}
use Rattle.std.specs.List.{list_any}
use Rattle.std.specs.Ordering.{nat_cmp}
use Rattle.std.specs.FinMap.{find, put, is_sorted}
use Rattle.std.specs.FinMap.Entries.{where_key}

abbrev pub Owners : Type 0
Owners = List (ℕ × ℕ)

-- pairs that are such a map
abbrev pub AreOwners : Owners → Type 0
AreOwners owners = IsTrue (is_sorted nat_cmp owners)

-- the session that owns an object
abbrev pub owner_of : Owners → ℕ → Option ℕ
owner_of owners object = find nat_cmp object owners

abbrev pub is_own : Owners → ℕ → ℕ → Bool
is_own owners who object = elim (owner_of owners object) [ None ↦ false | Some by ↦ by == who ]

-- a session becomes the owner of each of these objects
abbrev pub taken : Owners → ℕ → List ℕ → Owners
taken owners who [] = owners
taken owners who (object ∷ objects) = taken (put nat_cmp object who owners) who objects

-- a session gives up those of these objects that it owns
abbrev pub given_up : Owners → ℕ → List ℕ → Owners
given_up owners who objects = where_key nat_cmp (λ object. not (is_own owners who object && list_any (λ one. one == object) objects)) owners

-- a session gives up all that it owns
abbrev pub all_given_up : Owners → ℕ → Owners
all_given_up owners who = where_key nat_cmp (λ object. not (is_own owners who object)) owners
