-- How a disk in memory holds its first content and its steps.
use Rattle.std.specs.Prelude.{◌≡◌, ℕ, Bool, true, ◌&&◌, List, [], ◌∷◌, length, Option, None, Some, nat_le}
use Rattle.aw_disk.specs.declared.step.Step.{Step}
use Rattle.aw_disk.specs.declared.step.Step.TheVariants.{Write, Sync}
use Rattle.aw_disk.specs.Images.{overwritten}
use Rattle.aw_disk.specs.MemDisk.{content_after}

-- the bytes at first, which are the content until a copy of them is kept
abbrev pub started : Option (List ℕ) → List ℕ → List ℕ
started None content = content
started (Some start) content = start

-- whether each write begins inside the content of its time
abbrev pub all_begin_inside : List ℕ → List Step → Bool
all_begin_inside content [] = true
all_begin_inside content (Write offset bytes ∷ steps) =
    nat_le offset (length content) && all_begin_inside (overwritten content offset bytes) steps
all_begin_inside content (Sync ∷ steps) = all_begin_inside content steps

-- the content is what the steps made of the bytes at first, and each write began inside it
pub record IsReplayed (start : List ℕ) (steps : List Step) (content : List ℕ) : Type 0 where
  pub content_is : content ≡ content_after start steps
  pub begin_inside : all_begin_inside start steps ≡ true
