-- How the places that are still to come are kept: for each dimension, where the loop stands in its list.
use Rattle.std.specs.Prelude.{ℕ, suc, ◌+◌, ◌<◌, ◌∷◌, [], ◌++◌, Bool as Truth, List, length, map, drop, cond, flat_map, slice_index, nat_lt}
use Rattle.dml_loop.specs.Loops.{places}

-- a list of a dimension, and the place in it where the loop stands
pub record WheelView : Type 0 where
  pub dimension : ℕ
  pub slots : List ℕ
  pub at : ℕ

abbrev pub listed : WheelView → ℕ × List ℕ
listed wheel = (wheel.dimension, wheel.slots)

abbrev pub at_first : ℕ × List ℕ → WheelView
at_first list = record { dimension = list.0; slots = list.1; at = 0 }

abbrev pub IsWithin : WheelView → Type 0
IsWithin wheel = wheel.at < length wheel.slots

-- the slot where it stands, with its dimension
abbrev pub standing : WheelView → ℕ × ℕ
standing wheel = (wheel.dimension, slice_index wheel.slots wheel.at)

-- whether another slot comes behind this one
abbrev pub has_next : WheelView → Truth
has_next wheel = nat_lt (wheel.at + 1) (length wheel.slots)

-- at the next slot, and behind the last one at the first again
abbrev pub stepped : WheelView → WheelView
stepped wheel = record { dimension = wheel.dimension; slots = wheel.slots; at = cond (has_next wheel) (wheel.at + 1) 0 }

-- the places from where the loop stands on: those with the slot of the first dimension, and those with its later slots
abbrev pub to_come : List WheelView → List (List (ℕ × ℕ))
to_come [] = [] ∷ []
to_come (wheel ∷ wheels) =
    map (λ place. standing wheel ∷ place) (to_come wheels)
    ++ flat_map (λ slot. map (λ place. (wheel.dimension, slot) ∷ place) (places (map listed wheels))) (drop (suc wheel.at) wheel.slots)
