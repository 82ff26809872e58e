-- The disk model. An image is the bytes that a crash leaves. A successful sync puts the content on
-- the disk. After it each write may or may not be there, in whole or in part: until the next
-- successful sync its range, and all that lies past the end that the last sync covered, may hold
-- any bytes or be cut off. The bytes outside stay.
use Rattle.std.specs.Prelude.{◌≡◌, ◌⊎◌, ℕ, ◌+◌, ◌<◌, ◌≤◌, List, ◌++◌, length, take, drop, slice_index, refl}
use Rattle.std.proofs.Common.{arith, ⊎_elim}
use Rattle.std.proofs.lemmas.List.{get_or_append_left}
use Rattle.std.proofs.lemmas.Grind.{common_steps}

-- the bytes with these in place of those from an offset on, which may reach past the end
abbrev pub overwritten : List ℕ → ℕ → List ℕ → List ℕ
overwritten old offset bytes = take offset old ++ bytes ++ drop (offset + length bytes) old

-- what a write of this many bytes may make of an image: any bytes in the range and past the old
-- end, and each other byte as it was
pub record Torn (offset count : ℕ) (old new : List ℕ) : Type 0 where
  pub no_shorter : length old ≤ length new
  pub outside : (place : ℕ) → place < length old → (place < offset) ⊎ (offset + count ≤ place) → slice_index new place ≡ slice_index old place

-- what a write may make of the images: each is an old one after it
pub record TornFrom (offset count : ℕ) (olds : List ℕ → Type 0) (new : List ℕ) : Type 0 where
  pub old : List ℕ
  pub was : olds old
  pub torn : Torn offset count old new

-- a write may leave an image as it was
pub Torn-same : (offset count : ℕ) (image : List ℕ) → Torn offset count image image
Torn-same offset count image = record { no_shorter = omega arith; outside = λ place within out. refl }

-- a write that is there in whole is one of those
pub Torn-overwritten : (old : List ℕ) (offset : ℕ) (bytes : List ℕ) → Torn offset (length bytes) old (overwritten old offset bytes)
Torn-overwritten old offset bytes = record {
  no_shorter = grind (arith, common_steps);
  outside = λ place within out. ⊎_elim (before place within) (after place within) out;
}
  where
    before : (place : ℕ) → place < length old → place < offset → slice_index (overwritten old offset bytes) place ≡ slice_index old place
    before place within low = grind (arith, common_steps)

    after : (place : ℕ) → place < length old → offset + length bytes ≤ place → slice_index (overwritten old offset bytes) place ≡ slice_index old place
    after place within high = grind (arith, common_steps)

-- more bytes past the old end are what a write may leave
pub Torn-longer : (offset count : ℕ) (old more : List ℕ) → Torn offset count old (old ++ more)
Torn-longer offset count old more = record {
  no_shorter = grind (arith, common_steps);
  outside = λ place within out. get_or_append_left old more 0 place within;
}
