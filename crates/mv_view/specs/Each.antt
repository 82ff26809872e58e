-- Lists with a place for each object, which is filled where the object is kept.
use Rattle.std.specs.Prelude.{ℕ, ◌+◌, ◌==◌, Bool, false, cond, List, [], ◌∷◌, Option, Some, None, slice_get}
use Rattle.std.specs.Option.{option_map}
use Rattle.std.specs.List.{list_any, cons_option}

-- an object that is kept, by its number
abbrev pub object_in : {X : Type 0} → List (Option X) → ℕ → Option X
object_in objects object = elim (slice_get objects object) [ None ↦ None | Some found ↦ found ]

-- each object that is kept is changed, the first one having the number at
abbrev pub each_from : {X : Type 0} → ℕ → (ℕ → X → X) → List (Option X) → List (Option X)
each_from at change [] = []
each_from at change (found ∷ objects) = option_map (change at) found ∷ each_from (at + 1) change objects

-- one object alone is changed
abbrev pub only : {X : Type 0} → ℕ → (X → X) → ℕ → X → X
only object change at found = cond (object == at) (change found) found

-- whether a list names an object
abbrev pub names : List ℕ → ℕ → Bool
names objects object = list_any (λ one. one == object) objects

-- those that a list names are changed
abbrev pub listed : {X : Type 0} → List ℕ → (X → X) → ℕ → X → X
listed objects change at found = cond (names objects at) (change found) found

-- whether an object is there and passes a test
abbrev pub passes : {X : Type 0} → (X → Bool) → Option X → Bool
passes test None = false
passes test (Some found) = test found

-- the numbers of the objects that pass a test, in rising order, the first object having the number at
abbrev pub numbers_from : {X : Type 0} → (X → Bool) → ℕ → List (Option X) → List ℕ
numbers_from test at [] = []
numbers_from test at (None ∷ objects) = numbers_from test (at + 1) objects
numbers_from test at (Some found ∷ objects) = cond (test found) (at ∷ numbers_from test (at + 1) objects) (numbers_from test (at + 1) objects)

-- what is given of each object, in the order of their numbers, the first one having the number at
abbrev pub gathered_from : {X Y : Type 0} → (ℕ → X → Option Y) → ℕ → List (Option X) → List Y
gathered_from give at [] = []
gathered_from give at (None ∷ objects) = gathered_from give (at + 1) objects
gathered_from give at (Some found ∷ objects) = cons_option (give at found) (gathered_from give (at + 1) objects)
