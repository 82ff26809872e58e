-- What is kept of the parts that were read, so that none is read twice.
use Rattle.std.specs.Prelude.{ℕ, ◌≡◌, ◌<◌, Bool, false, List, length, nat_eq, slice_index_or}
use Rattle.std.specs.Global.{Vec}
use Rattle.std.specs.List.{list_any}
use Rattle.std.specs.Str.{bytes_eq}
use Rattle.aw_dim.specs.DimensionState.{Entry}

-- a slot is marked where it was read
pub record AreMarked (was_read : ℕ → Bool) (marks : List Bool) : Type 0 where
  pub marked : (k : ℕ) → k < length marks → slice_index_or marks k false ≡ was_read k

abbrev pub has_slot : List Entry → ℕ → Bool
has_slot entries slot = list_any (λ entry. nat_eq entry.0 slot) entries

abbrev pub is_slot : List ℕ → ℕ → Bool
is_slot slots slot = list_any (λ other. nat_eq other slot) slots

-- a name is held where a value has it
pub record AreHeld (entries : List Entry) (holds : Vec ℕ → Bool) : Type 0 where
  pub held : (key : Vec ℕ) → holds key ≡ list_any (λ entry. bytes_eq entry.1 key.items) entries

abbrev pub same_bytes : Vec ℕ → Vec ℕ → Bool
same_bytes one other = bytes_eq one.items other.items
