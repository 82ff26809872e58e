-- What the last sync covers. It put the content of its time on the disk, and covers the byte at a
-- place where that content has one and no write since reaches. Before any sync the bytes at first
-- are on the disk.
use Rattle.std.specs.Prelude.{◌≡◌, ◌≢◌, ◌↔◌, ℕ, ◌+◌, ◌-◌, ◌≤◌, Bool, true, false, ◌&&◌, not, List, [], length, take, drop, slice_index, nat_le, nat_lt}
use Rattle.std.specs.List.{list_any, suffix_len}
use Rattle.aw_disk.specs.declared.step.Step.{Step}
use Rattle.aw_disk.specs.declared.step.Step.TheVariants.{Write, Sync}
use Rattle.aw_disk.specs.MemDisk.{MemDiskState, content_after, left_at}

abbrev pub is_write : Step → Bool
is_write (Write offset bytes) = true
is_write Sync = false

-- whether a step writes the byte at a place
abbrev pub reaches : ℕ → Step → Bool
reaches place (Write offset bytes) = nat_le offset place && nat_lt place (offset + length bytes)
reaches place Sync = false

-- how many steps there are up to the last sync, that one included
abbrev pub synced_count : List Step → ℕ
synced_count steps = length steps - suffix_len is_write steps

-- the writes since the last sync
abbrev pub writes_since : List Step → List Step
writes_since steps = drop (synced_count steps) steps

-- the content that the last sync put on the disk
abbrev pub synced_content : List ℕ → List Step → List ℕ
synced_content start steps = content_after start (take (synced_count steps) steps)

-- whether the last sync covers the byte at a place
abbrev pub is_covered : List ℕ → List Step → ℕ → Bool
is_covered start steps place =
    nat_lt place (length (synced_content start steps)) && not (list_any (reaches place) (writes_since steps))

-- the image has each byte that the last sync covers, with any bytes elsewhere and past the end
pub record HoldsCovered (start : List ℕ) (steps : List Step) (image : List ℕ) : Type 0 where
  pub no_shorter : length (synced_content start steps) ≤ length image
  pub covered : (place : ℕ) → is_covered start steps place ≡ true → slice_index image place ≡ slice_index (synced_content start steps) place

-- where nothing was written since the last sync, the content that it had is left and nothing else,
-- and otherwise each image that has what it covers
pub record LeavesWhatIsCovered (start : List ℕ) (steps : List Step) (left : List ℕ → Type 0) : Type 0 where
  pub settled : (image : List ℕ) → writes_since steps ≡ [] → left image ↔ (image ≡ synced_content start steps)
  pub unsettled : (image : List ℕ) → writes_since steps ≢ [] → left image ↔ HoldsCovered start steps image

-- so it is at each moment of each disk in memory
abbrev pub CrashesLeaveWhatIsCovered : Type 0
CrashesLeaveWhatIsCovered =
    (disk : MemDiskState) (moment : ℕ) → LeavesWhatIsCovered disk.start (take moment disk.steps) (left_at disk moment)
