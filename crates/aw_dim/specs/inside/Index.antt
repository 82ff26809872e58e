-- The index of a dimension: the place of each value, by its slot, and the slots in rising order of
-- the values' names.
use Rattle.std.specs.Prelude.{ℕ, Bool, true, false, cond, ◌==◌, ◌≡◌, ◌<◌, ◌≤◌, List, [], length, Some, None, slice_get}
use Rattle.std.specs.Str.{bytes_eq}
use Rattle.std.specs.Ordering.{nat_cmp, is_lt}
use Rattle.std.specs.Cmp.Lexicographic.{slice_cmp}
use Rattle.std.specs.Option.{option_map}
use Rattle.std.specs.declared.option.Option.{Option}
use Rattle.aw_dim.specs.DimensionState.{Entry, IsValueName}

-- a name stands before another
abbrev pub precedes : List ℕ → List ℕ → Bool
precedes one other = is_lt (slice_cmp nat_cmp one other)

-- a value has this slot and this name
pub record Has (entries : List Entry) (slot : ℕ) (name : List ℕ) : Type 0 where
  pub place : ℕ
  pub value : slice_get entries place ≡ Some (slot, name)

-- the value at a place has this slot
pub record IsAt (entries : List Entry) (place slot : ℕ) : Type 0 where
  pub name : List ℕ
  pub value : slice_get entries place ≡ Some (slot, name)

-- a value that isn't the one with a slot has this slot and this name
pub record HasBut (entries : List Entry) (but slot : ℕ) (name : List ℕ) : Type 0 where
  pub place : ℕ
  pub value : slice_get entries place ≡ Some (slot, name)
  pub other : but ≡ slot → ⊥

-- each slot is below a number
pub record AreBelow (entries : List Entry) (room : ℕ) : Type 0 where
  pub below : (place slot : ℕ) (name : List ℕ) → slice_get entries place ≡ Some (slot, name) → slot < room

-- no two values have one slot, and each slot is below a number
pub record SlotsFit (entries : List Entry) (room : ℕ) : Type 0 where
  pub apart : (one other slot : ℕ) (name renamed : List ℕ) → slice_get entries one ≡ Some (slot, name) → slice_get entries other ≡ Some (slot, renamed) → one ≡ other
  pub below : (place slot : ℕ) (name : List ℕ) → slice_get entries place ≡ Some (slot, name) → slot < room

-- the places of the first values stand at their slots
pub record ArePlaced (entries : List Entry) (places : List ℕ) (count : ℕ) : Type 0 where
  pub at : (place slot : ℕ) (name : List ℕ) → place < count → slice_get entries place ≡ Some (slot, name) → slice_get places slot ≡ Some place

-- each slot that has a name stands here once, and the names rise
pub record IsNameIndex (has : ℕ → List ℕ → Type 0) (slots : List ℕ) : Type 0 where
  pub rise : (i j one other : ℕ) (name later : List ℕ) → i < j → slice_get slots i ≡ Some one → slice_get slots j ≡ Some other → has one name → has other later → precedes name later ≡ true
  pub named : (i slot : ℕ) → slice_get slots i ≡ Some slot → (name : List ℕ) × has slot name
  pub all : (slot : ℕ) (name : List ℕ) → has slot name → (i : ℕ) × (slice_get slots i ≡ Some slot)

abbrev pub name_in : Option Entry → List ℕ
name_in None = []
name_in (Some entry) = entry.1

abbrev pub name_at : List Entry → Option ℕ → List ℕ
name_at entries None = []
name_at entries (Some place) = name_in (slice_get entries place)

-- the name that the places give for a slot
abbrev pub indexed_name : List Entry → List ℕ → ℕ → List ℕ
indexed_name entries places slot = name_at entries (slice_get places slot)

-- the name of the value at a place
abbrev pub name_by : List Entry → Option ℕ → Option (List ℕ)
name_by entries None = None
name_by entries (Some place) = option_map (λ entry. entry.1) (slice_get entries place)

abbrev pub same_place : ℕ → ℕ → Option Entry → Option ℕ
same_place slot place None = None
same_place slot place (Some entry) = cond (entry.0 == slot) (Some place) None

abbrev pub place_at : List Entry → ℕ → Option ℕ → Option ℕ
place_at entries slot None = None
place_at entries slot (Some place) = same_place slot place (slice_get entries place)

-- the place that stands at a slot, where the value there has the slot
abbrev pub indexed_place : List Entry → List ℕ → ℕ → Option ℕ
indexed_place entries places slot = place_at entries slot (slice_get places slot)

-- a listed slot, where its value has this name
abbrev pub listed_slot : List Entry → List ℕ → List ℕ → Option ℕ → Option ℕ
listed_slot entries places name None = None
listed_slot entries places name (Some slot) = cond (bytes_eq (indexed_name entries places slot) name) (Some slot) None

-- the parts of a dimension belong together
pub record IsIndexed (entries : List Entry) (places by_name : List ℕ) : Type 0 where
  pub placed : ArePlaced entries places (length entries)
  pub indexed : IsNameIndex (Has entries) by_name
  pub texts : (slot : ℕ) (name : List ℕ) → Has entries slot name → IsValueName name
  pub most : length places ≤ 65536
