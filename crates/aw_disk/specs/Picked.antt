-- The image of a moment with picked bytes, place by place. A content has the byte 0 at each place
-- past its end.
use Rattle.std.specs.Prelude.{◌≡◌, ℕ, ◌<◌, true, false, List, length, slice_index}
use Rattle.aw_disk.specs.declared.step.Step.{Step}
use Rattle.aw_disk.specs.declared.step.Pick.{Pick}
use Rattle.aw_disk.specs.declared.step.Pick.TheVariants.{Kept, Old, Fill}
use Rattle.aw_disk.specs.Covered.{synced_content, is_covered}
use Rattle.aw_disk.specs.MemDisk.{content_after}

-- the byte at a place that no sync covers, by the content and what the last sync put on the disk
abbrev pub picked_byte : Pick → List ℕ → List ℕ → ℕ → ℕ
picked_byte Kept content synced place = slice_index content place
picked_byte Old content synced place = slice_index synced place
picked_byte (Fill byte) content synced place = byte

-- the image after these steps: as long as the content, with the content's byte where the last sync
-- covers it, and the picked one elsewhere
pub record IsPicked (pick : Pick) (start : List ℕ) (steps : List Step) (image : List ℕ) : Type 0 where
  pub long : length image ≡ length (content_after start steps)
  pub covered : (place : ℕ) → is_covered start steps place ≡ true → slice_index image place ≡ slice_index (content_after start steps) place
  pub other : (place : ℕ) → place < length image → is_covered start steps place ≡ false →
      slice_index image place ≡ picked_byte pick (content_after start steps) (synced_content start steps) place
