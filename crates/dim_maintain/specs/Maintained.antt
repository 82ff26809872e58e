-- What MAINTAIN makes of the values of a dimension. Values are named as they are written, by their names.
use Rattle.std.specs.Prelude.{ℕ, Bool, ◌+◌, ◌++◌, List, [], ◌∷◌, length, map, take, drop, not, if◌then◌else◌}
use Rattle.std.specs.List.{filter, flat_map, list_any, prefix_len}
use Rattle.std.specs.Str.{bytes_eq}
use Rattle.aw_dim.specs.DimensionState.{Entry, DimensionState}
use Rattle.dml_tree.specs.declared.statement.Place.{Place}
use Rattle.dml_tree.specs.declared.statement.Place.TheVariants.{First, Last, Before, After}

-- the name is one of these
abbrev pub is_among : List (List ℕ) → List ℕ → Bool
is_among names name = list_any (λ other. bytes_eq other name) names

-- the values without those of these names
abbrev pub others : List (List ℕ) → List Entry → List Entry
others names entries = filter (λ entry. not (is_among names entry.1)) entries

-- the value with a name, where there is one
abbrev pub named : List Entry → List ℕ → List Entry
named entries name = filter (λ entry. bytes_eq entry.1 name) entries

-- the values of these names, in the order of the names
abbrev pub in_order : List (List ℕ) → List Entry → List Entry
in_order names entries = flat_map (named entries) names

-- values with these names, which have the slots from one on
abbrev pub with_slots : ℕ → List (List ℕ) → List Entry
with_slots slot [] = []
with_slots slot (name ∷ names) = (slot, name) ∷ with_slots (slot + 1) names

-- ---- places

-- how many values stand before the one with a name: all, where there is none
abbrev pub count_before : List ℕ → List Entry → ℕ
count_before name entries = prefix_len (λ entry. not (bytes_eq entry.1 name)) entries

-- how many values stand before a place
abbrev pub count_at : Place → List Entry → ℕ
count_at First entries = 0
count_at Last entries = length entries
count_at (Before name) entries = count_before name entries
count_at (After name) entries = count_before name entries + 1

-- what stands before a place, then these values, then what stands behind it
abbrev pub placed : List Entry → Place → List Entry → List Entry
placed these place entries = take (count_at place entries) entries ++ these ++ drop (count_at place entries) entries

-- ---- what becomes of the values

-- ADD: the new ones stand at the place in the order written, with the next slots
abbrev pub added : DimensionState → List (List ℕ) → Place → DimensionState
added values names place =
    record { entries = placed (with_slots values.next names) place values.entries; next = values.next + length names }

-- DELETE: the others are left; the slots of those that go are never given again
abbrev pub deleted : DimensionState → List (List ℕ) → DimensionState
deleted values names = record { entries = others names values.entries; next = values.next }

-- MOVE: the values stand at the place among the others, in the order written
abbrev pub moved : DimensionState → List (List ℕ) → Place → DimensionState
moved values names place =
    record { entries = placed (in_order names values.entries) place (others names values.entries); next = values.next }

-- a value, with another name where it has this one
abbrev pub renamed_entry : List ℕ → List ℕ → Entry → Entry
renamed_entry old new entry = (entry.0, if bytes_eq entry.1 old then new else entry.1)

-- RENAME: the value has the new name, and the slot and the place that it had
abbrev pub renamed : DimensionState → List ℕ → List ℕ → DimensionState
renamed values old new = record { entries = map (renamed_entry old new) values.entries; next = values.next }
