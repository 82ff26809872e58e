-- How an image with picked bytes is made, write by write.
use Rattle.std.specs.Prelude.{ℕ, ◌+◌, ◌-◌, List, [], ◌∷◌, ◌++◌, length, replicate}
use Rattle.aw_disk.specs.declared.step.Step.{Step}
use Rattle.aw_disk.specs.declared.step.Step.TheVariants.{Write, Sync}
use Rattle.aw_disk.specs.declared.step.Pick.{Pick}
use Rattle.aw_disk.specs.declared.step.Pick.TheVariants.{Kept, Old, Fill}
use Rattle.aw_disk.specs.Images.{overwritten}

-- an image with the picked bytes in the range of a write
abbrev pub picked : Pick → List ℕ → ℕ → List ℕ → List ℕ
picked Kept image offset bytes = overwritten image offset bytes
picked Old image offset bytes = image ++ replicate (offset + length bytes - length image) 0
picked (Fill byte) image offset bytes = overwritten image offset (replicate (length bytes) byte)

-- the same for each write among these steps
abbrev pub left_by : Pick → List ℕ → List Step → List ℕ
left_by pick image [] = image
left_by pick image (Write offset bytes ∷ steps) = left_by pick (picked pick image offset bytes) steps
left_by pick image (Sync ∷ steps) = left_by pick image steps
