-- Worked cases, each worked out by hand.
use Rattle.std.proofs.Common.{◌≡◌, [], ◌∷◌, refl}
use Rattle.std.specs.Prelude.{codes}
use Rattle.aw_dim.specs.DimensionState.{DimensionState}
use Rattle.aw_status.specs.Rules.{all_slots, limited_to, added, kept, removed, complement}

-- A, B and C with the slots 0, 1 and 4, in the order C, A, B
abbrev letters : DimensionState
letters = record { entries = (4, codes "C") ∷ (0, codes "A") ∷ (1, codes "B") ∷ []; next = 5 }

pub all_letters : all_slots letters ≡ 4 ∷ 0 ∷ 1 ∷ []
all_letters = refl

pub as_written : limited_to (4 ∷ 0 ∷ 4 ∷ 1 ∷ 0 ∷ []) ≡ 4 ∷ 0 ∷ 1 ∷ []
as_written = refl

pub behind : added (1 ∷ 4 ∷ []) (0 ∷ 4 ∷ 0 ∷ []) ≡ 1 ∷ 4 ∷ 0 ∷ []
behind = refl

-- TO 'C' 'A' 'B', then KEEP 'A' 'C'
pub in_its_own_order : kept (4 ∷ 0 ∷ 1 ∷ []) (0 ∷ 4 ∷ []) ≡ 4 ∷ 0 ∷ []
in_its_own_order = refl

pub the_others : removed (4 ∷ 0 ∷ 1 ∷ []) (0 ∷ 0 ∷ []) ≡ 4 ∷ 1 ∷ []
the_others = refl

pub nothing_left : removed (4 ∷ 0 ∷ 1 ∷ []) (all_slots letters) ≡ []
nothing_left = refl

pub in_dimension_order : complement letters (0 ∷ []) ≡ 4 ∷ 1 ∷ []
in_dimension_order = refl
