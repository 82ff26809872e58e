-- Coordinates: lists of up to 6 slots, and the numbers that stand for them.
use Rattle.std.specs.Prelude.{ℕ, ◌≡◌, ◌+◌, ◌*◌, ◌^◌, ◌<◌, ◌↔◌, List, [], ◌∷◌, length, take, slice_index, All}
use Rattle.std.specs.Cmp.Lexicographic.{slice_cmp}
use Rattle.std.specs.Ordering.{nat_cmp}

-- each of these numbers is a slot
abbrev pub AreSlots : List ℕ → Type 0
AreSlots slots = All (λ slot. slot < 65536) slots

-- the number that these slots write in base 65,536, beginning with the highest digit
abbrev pub packed : List ℕ → ℕ
packed [] = 0
packed (slot ∷ slots) = slot * 65536 ^ length slots + packed slots

-- at the first place where they differ, one has the lower slot
pub record ComesBefore (one other : List ℕ) : Type 0 where
  pub place : ℕ
  pub within : place < length one
  pub same_before : take place one ≡ take place other
  pub lower : slice_index one place < slice_index other place

-- the numbers of these are equal only where they are, the lower number is that of the one that comes
-- before the other, and the numbers compare as the coordinates do
pub record PackInOrder (one other : List ℕ) : Type 0 where
  pub distinct : packed one ≡ packed other → one ≡ other
  pub ordered : (packed one < packed other) ↔ ComesBefore one other
  pub compared : nat_cmp (packed one) (packed other) ≡ slice_cmp nat_cmp one other

-- so it is for any coordinates of one length
abbrev pub PackingKeepsOrder : Type 0
PackingKeepsOrder =
    (one other : List ℕ) → AreSlots one → AreSlots other → length one ≡ length other → PackInOrder one other
