-- The value of a dimension: its values in their order, each with its slot and its name, and the slot
-- that the next value gets. Slots and names tell the values apart, each slot is below the next one,
-- and at most 65,536 slots are ever given.
use Rattle.std.specs.Prelude.{ℕ, ◌≡◌, ◌≢◌, ◌==◌, ◌<◌, ◌≤◌, List, [], IsTrue, IsSome}
use Rattle.std.specs.Option.{option_map}
use Rattle.std.specs.List.{All, AllPairs, find, position_from}
use Rattle.std.specs.Str.{bytes_eq}
use Rattle.std.specs.declared.option.Option.{Option}
use Rattle.aw_cell.specs.Text.{is_text}

-- a value of a dimension: its slot and its name
abbrev pub Entry : Type 0
Entry = ℕ × List ℕ

pub record DimensionState : Type 0 where
  pub entries : List Entry
  pub next : ℕ

-- a text that isn't empty
abbrev pub IsValueName : List ℕ → Type 0
IsValueName name = IsTrue (is_text name) × (name ≢ [])

-- entries and a next slot that are the value of a dimension
pub record IsDimension (values : DimensionState) : Type 0 where
  pub slots_differ : AllPairs (λ one other. one.0 ≢ other.0) values.entries
  pub names_differ : AllPairs (λ one other. one.1 ≢ other.1) values.entries
  pub slots_below : All (λ entry. entry.0 < values.next) values.entries
  pub names_are_texts : All (λ entry. IsValueName entry.1) values.entries
  pub next_most : values.next ≤ 65536

-- the slot of the value with this name
abbrev pub slot_of : DimensionState → List ℕ → Option ℕ
slot_of values name = option_map (λ entry. entry.0) (find (λ entry. bytes_eq entry.1 name) values.entries)

-- the name of the value with this slot
abbrev pub name_of : DimensionState → ℕ → Option (List ℕ)
name_of values slot = option_map (λ entry. entry.1) (find (λ entry. entry.0 == slot) values.entries)

-- the place of the value with this slot, from 0
abbrev pub position_of : DimensionState → ℕ → Option ℕ
position_of values slot = position_from (λ entry. entry.0 == slot) 0 values.entries

-- a value has this name
abbrev pub HasName : DimensionState → List ℕ → Type 0
HasName values name = IsSome (slot_of values name)

-- a value has this slot
abbrev pub HasSlot : DimensionState → ℕ → Type 0
HasSlot values slot = IsSome (name_of values slot)
