-- What becomes of the value of a dimension. A value that is added gets the next slot; one that is
-- removed, renamed or moved is named by its slot.
use Rattle.std.specs.Prelude.{ℕ, ◌==◌, ◌+◌, ◌++◌, List, [], map, take, drop, not, if◌then◌else◌}
use Rattle.std.specs.List.{insert, filter}
use Rattle.aw_dim.specs.DimensionState.{Entry, DimensionState}

-- without values, and with no slot given
abbrev pub empty : DimensionState
empty = record { entries = []; next = 0 }

-- with a value of this name at a place
abbrev pub added : DimensionState → List ℕ → ℕ → DimensionState
added values name place =
    record { entries = insert values.entries place (values.next, name); next = values.next + 1 }

-- the values but the one with this slot
abbrev pub others : List Entry → ℕ → List Entry
others entries slot = filter (λ entry. not (entry.0 == slot)) entries

abbrev pub removed : DimensionState → ℕ → DimensionState
removed values slot = record { entries = others values.entries slot; next = values.next }

-- a value, with another name where it has this slot
abbrev pub renamed_entry : ℕ → List ℕ → Entry → Entry
renamed_entry slot name entry = (entry.0, if entry.0 == slot then name else entry.1)

abbrev pub renamed : DimensionState → ℕ → List ℕ → DimensionState
renamed values slot name = record { entries = map (renamed_entry slot name) values.entries; next = values.next }

-- with the value of this slot at a place among the others, or behind them where they are fewer
abbrev pub moved : DimensionState → ℕ → ℕ → DimensionState
moved values slot place =
    let rest = others values.entries slot in
    let value = filter (λ entry. entry.0 == slot) values.entries in
    record { entries = take place rest ++ value ++ drop place rest; next = values.next }
