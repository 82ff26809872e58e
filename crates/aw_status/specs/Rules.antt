-- The rules by which a list of slots changes a status. All are over lists of slots.
use Rattle.std.specs.Prelude.{ℕ, ◌==◌, ◌∷◌, [], ◌++◌, Bool, not, List, map, IsTrue, if◌then◌else◌}
use Rattle.std.specs.List.{list_any, filter}
use Rattle.aw_dim.specs.DimensionState.{DimensionState}

abbrev pub is_among : List ℕ → ℕ → Bool
is_among slots slot = list_any (λ other. other == slot) slots

-- all values of a dimension, in its order
abbrev pub all_slots : DimensionState → List ℕ
all_slots values = map (λ entry. entry.0) values.entries

-- a status, and behind it the slots of a list that aren't there yet, each at its first place
abbrev pub joined : List ℕ → List ℕ → List ℕ
joined status [] = status
joined status (slot ∷ list) = joined (if is_among status slot then status else status ++ slot ∷ []) list

-- ---- the five rules

-- TO: the list
abbrev pub limited_to : List ℕ → List ℕ
limited_to list = joined [] list

-- ADD: the status and then the list
abbrev pub added : List ℕ → List ℕ → List ℕ
added status list = joined status list

-- KEEP: what the list has of the status, in the status's order
abbrev pub kept : List ℕ → List ℕ → List ℕ
kept status list = filter (λ slot. is_among list slot) status

-- REMOVE: what the list lacks of the status
abbrev pub removed : List ℕ → List ℕ → List ℕ
removed status list = filter (λ slot. not (is_among list slot)) status

-- COMPLEMENT: what the list lacks of the dimension, in its order
abbrev pub complement : DimensionState → List ℕ → List ℕ
complement values list = removed (all_slots values) list

-- ---- what they are asked of

-- these are values of the dimension
abbrev pub AreValues : DimensionState → List ℕ → Type 0
AreValues values slots = (slot : ℕ) → IsTrue (is_among slots slot) → IsTrue (is_among (all_slots values) slot)
