-- Which definitions a catalogue accepts: the refusals, in their order, and what an accepted definition leaves.
use Rattle.std.specs.Prelude.{ℕ, ◌≡◌, ◌⊎◌, ◌++◌, not, List, [], ◌∷◌, length, Option, Some, None, Result, Ok, Err, find, slice_get, nat_le, nat_eq, if◌then◌else◌, IsTrue}
use Rattle.std.specs.List.{filter_map, list_any}
use Rattle.std.specs.Option.{option_map, option_or, option_and_then}
use Rattle.aw_schema.specs.declared.definition.Def.{Def}
use Rattle.aw_schema.specs.declared.definition.DefKind.{DefKind}
use Rattle.aw_schema.specs.declared.definition.DefKind.TheVariants.{Dimension, Relation, Valueset, Variable, Formula, Program, Aggmap}
use Rattle.aw_schema.specs.declared.fault.SchemaFault.{SchemaFault}
use Rattle.aw_schema.specs.declared.fault.SchemaFault.TheVariants.{Repeat, TooMany, Unknown, WrongKind, NoMemory}
use Rattle.aw_schema.specs.Definitions.{has_name, is_dimension, is_spellable}

-- ---- the refusals

-- the object that has the name already, which is told by its own spelling
abbrev pub repeated_name : List Def → List ℕ → Option SchemaFault
repeated_name catalogue name = option_map (λ (def : Def). Repeat def.name) (find (has_name name) catalogue)

-- there are 4,096 objects
abbrev pub too_many : List Def → Option SchemaFault
too_many catalogue = if nat_le 4096 (length catalogue) then Some TooMany else None

-- the first number that is no object, or else the first of the objects that is no dimension
abbrev pub wrong_kind : List Def → List ℕ → Option SchemaFault
wrong_kind catalogue objects =
    option_map (λ (def : Def). WrongKind def.name) (find (λ (def : Def). not (is_dimension def.kind)) (filter_map (slice_get catalogue) objects))

abbrev pub not_dimensions : List Def → List ℕ → Option SchemaFault
not_dimensions catalogue objects = option_or (option_map Unknown (find (nat_le (length catalogue)) objects)) (wrong_kind catalogue objects)

-- the first number that has come before, among those and before it
abbrev pub first_repeated : List ℕ → List ℕ → Option ℕ
first_repeated before [] = None
first_repeated before (object ∷ objects) =
    if list_any (λ other. nat_eq other object) before then Some object else first_repeated (before ++ object ∷ []) objects

-- the first dimension that has come before
abbrev pub repeated_dimension : List Def → List ℕ → Option SchemaFault
repeated_dimension catalogue dimensions =
    option_map (λ (def : Def). Repeat def.name) (option_and_then (slice_get catalogue) (first_repeated [] dimensions))

-- what a definition names: dimensions, which differ where they are those of a variable
abbrev pub wrong_objects : List Def → DefKind → Option SchemaFault
wrong_objects catalogue Dimension = None
wrong_objects catalogue (Relation target base) = not_dimensions catalogue (target ∷ base ∷ [])
wrong_objects catalogue (Valueset dimension) = not_dimensions catalogue (dimension ∷ [])
wrong_objects catalogue (Variable kind dimensions) = option_or (not_dimensions catalogue dimensions) (repeated_dimension catalogue dimensions)
wrong_objects catalogue (Formula text) = None
wrong_objects catalogue (Program text) = None
wrong_objects catalogue (Aggmap text) = None

-- The refusal of a definition: the first that applies, in this order.
abbrev pub refusal : List Def → Def → Option SchemaFault
refusal catalogue def =
    option_or (repeated_name catalogue def.name) (option_or (too_many catalogue) (wrong_objects catalogue def.kind))

-- ---- the answers

-- a definition that isn't refused gets the next number
abbrev pub answer : List Def → Def → Result ℕ SchemaFault
answer catalogue def = elim (refusal catalogue def) [ Some fault ↦ Err fault | None ↦ Ok (length catalogue) ]

-- this answer, or want of memory
abbrev pub IsAnswer : Result ℕ SchemaFault → Result ℕ SchemaFault → Type 0
IsAnswer result given = (result ≡ Err NoMemory) ⊎ (result ≡ given)

-- an accepted definition is added at the end, and after a refusal the catalogue is as before
abbrev pub catalogue_after : List Def → Def → Result ℕ SchemaFault → List Def
catalogue_after catalogue def (Ok object) = catalogue ++ def ∷ []
catalogue_after catalogue def (Err fault) = catalogue

-- ---- catalogues

-- each of the definitions can be spelled, and is accepted after those before it
abbrev pub AreAcceptedAfter : List Def → List Def → Type 0
AreAcceptedAfter before [] = Unit {0}
AreAcceptedAfter before (def ∷ defs) =
    IsTrue (is_spellable def) × (refusal before def ≡ None) × AreAcceptedAfter (before ++ def ∷ []) defs

-- the definitions of a catalogue are those that were accepted, one after the other
abbrev pub AreAccepted : List Def → Type 0
AreAccepted defs = AreAcceptedAfter [] defs
