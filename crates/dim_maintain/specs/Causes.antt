-- Why MAINTAIN is refused: of all causes the first, in the order of the language.
use Rattle.std.specs.Prelude.{ℕ, Bool, ◌+◌, ◌++◌, ◌||◌, ◌==◌, List, [], ◌∷◌, length, nat_lt, not, is_some, Option, Some, None, if◌then◌else◌}
use Rattle.std.specs.Option.{option_or}
use Rattle.aw_dim.specs.DimensionState.{DimensionState, slot_of}
use Rattle.dml_tree.specs.declared.statement.Place.{Place}
use Rattle.dml_tree.specs.declared.statement.Place.TheVariants.{First, Last, Before, After}
use Rattle.dim_maintain.specs.declared.fault.MaintainFault.{MaintainFault}
use Rattle.dim_maintain.specs.declared.fault.MaintainFault.TheVariants.{NoValue, Repeated, Full}
use Rattle.dim_maintain.specs.Maintained.{is_among}

-- a value has this name
abbrev pub is_value : DimensionState → List ℕ → Bool
is_value values name = is_some (slot_of values name)

-- ---- the values of a list, each in turn

-- a new name behind those that were written before it: an empty text is no name, and no value has a name that another has or gets
abbrev pub new_cause : DimensionState → List (List ℕ) → List ℕ → Option MaintainFault
new_cause values earlier name =
    if length name == 0 then Some (NoValue name) else if is_value values name || is_among earlier name then Some (Repeated name) else None

-- the name of a value behind those that were written before it: there is such a value, and it is named once
abbrev pub old_cause : DimensionState → List (List ℕ) → List ℕ → Option MaintainFault
old_cause values earlier name =
    if not (is_value values name) then Some (NoValue name) else if is_among earlier name then Some (Repeated name) else None

-- the first cause of a list of names, by what is asked of each behind those before it
abbrev pub first_cause : (List (List ℕ) → List ℕ → Option MaintainFault) → List (List ℕ) → List (List ℕ) → Option MaintainFault
first_cause cause earlier [] = None
first_cause cause earlier (name ∷ names) = option_or (cause earlier name) (first_cause cause (earlier ++ name ∷ []) names)

-- ---- places, and slots

-- a place is by a value that is there
abbrev pub place_cause : DimensionState → Place → Option MaintainFault
place_cause values First = None
place_cause values Last = None
place_cause values (Before name) = if is_value values name then None else Some (NoValue name)
place_cause values (After name) = if is_value values name then None else Some (NoValue name)

-- values aren't moved to a place by one of them
abbrev pub own_place_cause : List (List ℕ) → Place → Option MaintainFault
own_place_cause names First = None
own_place_cause names Last = None
own_place_cause names (Before name) = if is_among names name then Some (Repeated name) else None
own_place_cause names (After name) = if is_among names name then Some (Repeated name) else None

-- at most 65,536 slots are ever given
abbrev pub full_cause : DimensionState → ℕ → Option MaintainFault
full_cause values count = if nat_lt 65536 (values.next + count) then Some Full else None

-- ---- the first cause of each statement

abbrev pub added_cause : DimensionState → List (List ℕ) → Place → Option MaintainFault
added_cause values names place =
    option_or (first_cause (new_cause values) [] names) (option_or (place_cause values place) (full_cause values (length names)))

abbrev pub deleted_cause : DimensionState → List (List ℕ) → Option MaintainFault
deleted_cause values names = first_cause (old_cause values) [] names

abbrev pub moved_cause : DimensionState → List (List ℕ) → Place → Option MaintainFault
moved_cause values names place =
    option_or (first_cause (old_cause values) [] names) (option_or (place_cause values place) (own_place_cause names place))

abbrev pub renamed_cause : DimensionState → List ℕ → List ℕ → Option MaintainFault
renamed_cause values old new =
    if not (is_value values old) then Some (NoValue old)
    else if length new == 0 then Some (NoValue new)
    else if is_value values new then Some (Repeated new)
    else None
