-- A disk in memory that keeps all its moments: its bytes at first, and each step since. A write may
-- tear until a sync, and moment n lies behind n steps.
use Rattle.std.specs.Prelude.{◌≡◌, ℕ, ◌+◌, ◌/◌, List, [], ◌∷◌, ◌++◌, length, take, Some, refl}
use Rattle.std.proofs.Common.{arith, sym, subst}
use Rattle.std.proofs.lemmas.List.{take_all}
use Rattle.aw_disk.specs.declared.step.Step.{Step}
use Rattle.aw_disk.specs.declared.step.Step.TheVariants.{Write, Sync}
use Rattle.aw_disk.specs.Images.{overwritten, TornFrom, Torn-overwritten}
use Rattle.aw_lists.specs.Faults.{next_count}

-- the bytes at first, all of them on the disk; the steps since; the numbers of the calls that fail,
-- the number of the next call, and the faults
pub record MemDiskState : Type 0 where
  pub start : List ℕ
  pub steps : List Step
  pub failing : List ℕ
  pub calls : ℕ
  pub faults : ℕ

-- a disk after a call that succeeded, and after one that failed
abbrev pub counted : MemDiskState → MemDiskState
counted disk = record disk { calls = next_count disk.calls }

abbrev pub faulted : MemDiskState → MemDiskState
faulted disk = record disk { calls = next_count disk.calls; faults = next_count disk.faults }

-- a disk after one step more
abbrev pub with_step : MemDiskState → Step → MemDiskState
with_step disk step = record disk { steps = disk.steps ++ step ∷ [] }

-- the first half of these bytes, and of an odd number the greater one, so that one byte is the byte
abbrev pub first_half : List ℕ → List ℕ
first_half bytes = take ((length bytes + 1) / 2) bytes

-- the content after these steps
abbrev pub content_after : List ℕ → List Step → List ℕ
content_after content [] = content
content_after content (Write offset bytes ∷ steps) = content_after (overwritten content offset bytes) steps
content_after content (Sync ∷ steps) = content_after content steps

-- what a crash may leave after these steps, from a content and what a crash may leave of it
abbrev pub LeftAfter : List ℕ → (List ℕ → Type 0) → List Step → List ℕ → Type 0
LeftAfter content images [] image = images image
LeftAfter content images (Write offset bytes ∷ steps) image =
    LeftAfter (overwritten content offset bytes) (TornFrom offset (length bytes) images) steps image
LeftAfter content images (Sync ∷ steps) image = LeftAfter content (λ left. left ≡ content) steps image

-- what the disk holds
abbrev pub content_of : MemDiskState → List ℕ
content_of disk = content_after disk.start disk.steps

-- what a crash after the first steps might have left
abbrev pub left_at : MemDiskState → ℕ → List ℕ → Type 0
left_at disk moment image = LeftAfter disk.start (λ left. left ≡ disk.start) (take moment disk.steps) image

-- the content is one of the images
pub LeftAfter-content : (content : List ℕ) (images : List ℕ → Type 0) (steps : List Step) → images content →
    LeftAfter content images steps (content_after content steps)
LeftAfter-content content images [] left = left
LeftAfter-content content images (Write offset bytes ∷ steps) left =
    LeftAfter-content (overwritten content offset bytes) (TornFrom offset (length bytes) images) steps
    (record { old = content; was = left; torn = Torn-overwritten content offset bytes })
LeftAfter-content content images (Sync ∷ steps) left = LeftAfter-content content (λ old. old ≡ content) steps refl

-- the content is one of the images that a crash now may leave
pub content-left : (disk : MemDiskState) → left_at disk (length disk.steps) (content_of disk)
content-left disk =
    subst (λ steps. LeftAfter disk.start (λ left. left ≡ disk.start) steps (content_of disk)) (sym (take_all (length disk.steps) disk.steps (omega arith)))
    (LeftAfter-content disk.start (λ left. left ≡ disk.start) disk.steps refl)

same_bytes : {one other : List ℕ} → Some one ≡ Some other → one ≡ other
same_bytes same = cc

pub is_content-left : (disk : MemDiskState) (bytes : List ℕ) → Some (content_of disk) ≡ Some bytes → left_at disk (length disk.steps) bytes
is_content-left disk bytes told = subst (λ image. left_at disk (length disk.steps) image) (same_bytes told) (content-left disk)
