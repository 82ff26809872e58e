-- What is looked up among the objects as they stand.
use Rattle.std.specs.Prelude.{ℕ, ◌+◌, ◌==◌, Bool, false, List, [], ◌∷◌, ◌++◌, Option, Some, None, slice_get}
use Rattle.std.specs.List.{filter_map}
use Rattle.std.specs.Option.{option_map, option_flatten, option_to_list}
use Rattle.aw_body.specs.declared.body.Body.{Body}
use Rattle.aw_body.specs.declared.change.Fresh.{Fresh}
use Rattle.mv_core.specs.declared.object.Object.{Object}

-- the object that has a number, where it is kept
abbrev pub kept_at : List (Option (Object Body)) → ℕ → Option (Object Body)
kept_at objects object = option_flatten (slice_get objects object)

-- whether a session owns the object that was looked up
abbrev pub is_own : ℕ → Option (Object Body) → Bool
is_own who None = false
is_own who (Some it) = elim it.owner [ None ↦ false | Some by ↦ by == who ]

-- the latest generation of an object
abbrev pub fresh_of : ℕ → Object Body → Fresh
fresh_of object it = record { object = object; number = it.number; body = it.body }

-- the latest generations of those of these objects that are kept
abbrev pub latest_of : List (Option (Object Body)) → List ℕ → List Fresh
latest_of objects listed = filter_map (λ object. option_map (fresh_of object) (kept_at objects object)) listed

-- the latest generations of all kept objects, the first object having the number at
abbrev pub latest_from : ℕ → List (Option (Object Body)) → List Fresh
latest_from at [] = []
latest_from at (found ∷ objects) = option_to_list (option_map (fresh_of at) found) ++ latest_from (at + 1) objects
