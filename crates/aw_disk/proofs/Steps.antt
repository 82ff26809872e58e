-- What one step more does to the content of a disk in memory and to what a crash may leave.
use Rattle.std.proofs.Common.{◌≡◌, ◌↔◌, ◌⊎◌, ℕ, ◌+◌, ◌/◌, ◌≤◌, List, [], ◌∷◌, ◌++◌, length, take, Some, Result, Ok, Err, OnOk, OnErr, arith, ap, ◌∙◌, sym, subst, refl, length-take, ⊎_elim, inl, inr}
use Rattle.std.proofs.lemmas.Bool.{cases_lt}
use Rattle.std.proofs.lemmas.List.{take-append-le, take_all, length_push}
use Rattle.aw_disk.specs.declared.step.Step.{Step}
use Rattle.aw_disk.specs.declared.step.Step.TheVariants.{Write, Sync}
use Rattle.aw_disk.specs.Calls.{Written, HalfWritten, length_limit}
use Rattle.aw_disk.specs.Images.{overwritten, Torn, TornFrom, Torn-same, Torn-overwritten}
use Rattle.aw_disk.specs.MemDisk.{MemDiskState, content_after, content_of, left_at, with_step, first_half, counted, faulted, content-left, LeftAfter}
use Rattle.aw_disk.specs.Moments.{Elapsed}

-- one write more
pub content_after-write : (content : List ℕ) (steps : List Step) (offset : ℕ) (bytes : List ℕ) →
    content_after content (steps ++ Write offset bytes ∷ []) ≡ overwritten (content_after content steps) offset bytes
content_after-write content [] offset bytes = refl
content_after-write content (Write at more ∷ steps) offset bytes = content_after-write (overwritten content at more) steps offset bytes
content_after-write content (Sync ∷ steps) offset bytes = content_after-write content steps offset bytes

-- one sync more
pub content_after-sync : (content : List ℕ) (steps : List Step) → content_after content (steps ++ Sync ∷ []) ≡ content_after content steps
content_after-sync content [] = refl
content_after-sync content (Write at more ∷ steps) = content_after-sync (overwritten content at more) steps
content_after-sync content (Sync ∷ steps) = content_after-sync content steps

pub LeftAfter-write : (content : List ℕ) (images : List ℕ → Type 0) (steps : List Step) (offset : ℕ) (bytes image : List ℕ) →
    LeftAfter content images (steps ++ Write offset bytes ∷ []) image → TornFrom offset (length bytes) (LeftAfter content images steps) image
LeftAfter-write content images [] offset bytes image left = left
LeftAfter-write content images (Write at more ∷ steps) offset bytes image left =
    LeftAfter-write (overwritten content at more) (TornFrom at (length more) images) steps offset bytes image left
LeftAfter-write content images (Sync ∷ steps) offset bytes image left = LeftAfter-write content (λ old. old ≡ content) steps offset bytes image left

pub LeftAfter-sync : (content : List ℕ) (images : List ℕ → Type 0) (steps : List Step) (image : List ℕ) →
    LeftAfter content images (steps ++ Sync ∷ []) image → image ≡ content_after content steps
LeftAfter-sync content images [] image left = left
LeftAfter-sync content images (Write at more ∷ steps) image left =
    LeftAfter-sync (overwritten content at more) (TornFrom at (length more) images) steps image left
LeftAfter-sync content images (Sync ∷ steps) image left = LeftAfter-sync content (λ old. old ≡ content) steps image left

-- time after a step that leaves one of `during`
pub Elapsed-step : (disk : MemDiskState) (step : Step) (during : List ℕ → Type 0) →
    ((image : List ℕ) → left_at disk (length disk.steps) image → during image) →
    ((image : List ℕ) → left_at (with_step disk step) (length disk.steps + 1) image → during image) →
    Elapsed (length disk.steps) (length (disk.steps ++ step ∷ [])) (left_at disk) (left_at (with_step disk step)) during
Elapsed-step disk step during here next = record {
  later = omega (arith, length_push disk.steps step);
  kept = λ moment image old past. same_front moment image old;
  only = λ moment image from to left.
      ⊎_elim (λ below. here image (at_start moment image (omega (arith, below)) from left))
      (λ above. next image (subst (λ now. left_at (with_step disk step) now image) (omega (arith, above, to, length_push disk.steps step)) left))
      (cases_lt moment (length disk.steps + 1));
}
  where
    same_front : (moment : ℕ) (image : List ℕ) → moment ≤ length disk.steps → left_at (with_step disk step) moment image ↔ left_at disk moment image
    same_front moment image old =
        subst (λ front. LeftAfter disk.start (λ left. left ≡ disk.start) front image ↔ left_at disk moment image)
        (sym (take-append-le moment disk.steps (step ∷ []) old)) (λ left. left, λ left. left)

    at_start : (moment : ℕ) (image : List ℕ) → moment ≤ length disk.steps → length disk.steps ≤ moment → left_at (with_step disk step) moment image → left_at disk (length disk.steps) image
    at_start moment image low high left =
        subst (λ now. left_at disk now image) (omega arith) ((same_front moment image low).0 left)

-- all steps of a disk after one more
whole : (disk : MemDiskState) (step : Step) (image : List ℕ) → left_at (with_step disk step) (length disk.steps + 1) image →
    LeftAfter disk.start (λ left. left ≡ disk.start) (disk.steps ++ step ∷ []) image
whole disk step image left =
    subst (λ steps. LeftAfter disk.start (λ old. old ≡ disk.start) steps image)
    (take_all (length disk.steps + 1) (disk.steps ++ step ∷ []) (omega (arith, length_push disk.steps step))) left

all_steps : (disk : MemDiskState) (image : List ℕ) → LeftAfter disk.start (λ left. left ≡ disk.start) disk.steps image → left_at disk (length disk.steps) image
all_steps disk image left =
    subst (λ steps. LeftAfter disk.start (λ old. old ≡ disk.start) steps image) (sym (take_all (length disk.steps) disk.steps (omega arith))) left

-- a sync leaves the content
after_sync : (disk : MemDiskState) (image : List ℕ) → left_at (with_step disk Sync) (length disk.steps + 1) image → image ≡ content_of disk
after_sync disk image left = LeftAfter-sync disk.start (λ old. old ≡ disk.start) disk.steps image (whole disk Sync image left)

-- a smaller range may hold any bytes too
Torn-wider : (offset few count : ℕ) (old new : List ℕ) → few ≤ count → Torn offset few old new → Torn offset count old new
Torn-wider offset few count old new fits torn = record {
  no_shorter = torn.no_shorter;
  outside = λ place within out. torn.outside place within (⊎_elim (λ low. inl low) (λ high. inr (omega (arith, high, fits))) out);
}

-- time after a write, of all bytes or of the first of them
pub Elapsed-write : (disk : MemDiskState) (offset count : ℕ) (bytes : List ℕ) → length bytes ≤ count →
    Elapsed (length disk.steps) (length (disk.steps ++ Write offset bytes ∷ [])) (left_at disk) (left_at (with_step disk (Write offset bytes)))
    (TornFrom offset count (left_at disk (length disk.steps)))
Elapsed-write disk offset count bytes fits =
    Elapsed-step disk (Write offset bytes) (TornFrom offset count (left_at disk (length disk.steps)))
    (λ image left. record { old = image; was = left; torn = Torn-same offset count image })
    (λ image left.
    let from : TornFrom offset (length bytes) (LeftAfter disk.start (λ old. old ≡ disk.start) disk.steps) image =
    LeftAfter-write disk.start (λ old. old ≡ disk.start) disk.steps offset bytes image (whole disk (Write offset bytes) image left) in
    record { old = from.old; was = all_steps disk from.old from.was; torn = Torn-wider offset (length bytes) count from.old image fits from.torn })

-- time after a call that changed nothing
pub Elapsed-nothing : (disk : MemDiskState) (during : List ℕ → Type 0) → ((image : List ℕ) → left_at disk (length disk.steps) image → during image) →
    Elapsed (length disk.steps) (length disk.steps) (left_at disk) (left_at disk) during
Elapsed-nothing disk during here = record {
  later = omega arith;
  kept = λ moment image old past. (λ left. left, λ left. left);
  only = λ moment image from to left. here image (subst (λ now. left_at disk now image) (omega arith) left);
}

-- time and content after a write, by its answer
module _ {T E : Type 0} (old new : MemDiskState) (offset : ℕ) (bytes : List ℕ) where
  pub write-time : (result : Result T E) → OnOk result (new ≡ counted (with_step old (Write offset bytes))) →
      OnErr result ((new ≡ faulted old) ⊎ (new ≡ faulted (with_step old (Write offset (first_half bytes))))) →
      Elapsed (length old.steps) (length new.steps) (left_at old) (left_at new) (TornFrom offset (length bytes) (left_at old (length old.steps)))
  write-time (Ok value) ok err =
      subst (λ (disk : MemDiskState). Elapsed (length old.steps) (length disk.steps) (left_at old) (left_at disk) (TornFrom offset (length bytes) (left_at old (length old.steps))))
      (sym ok) (Elapsed-write old offset (length bytes) bytes (omega arith))
  write-time (Err failed) ok err = ⊎_elim
      (λ same. subst (λ (disk : MemDiskState). Elapsed (length old.steps) (length disk.steps) (left_at old) (left_at disk) (TornFrom offset (length bytes) (left_at old (length old.steps))))
      (sym same) (Elapsed-nothing old (TornFrom offset (length bytes) (left_at old (length old.steps)))
      (λ image left. record { old = image; was = left; torn = Torn-same offset (length bytes) image })))
      (λ front. subst (λ (disk : MemDiskState). Elapsed (length old.steps) (length disk.steps) (left_at old) (left_at disk) (TornFrom offset (length bytes) (left_at old (length old.steps))))
      (sym front) (Elapsed-write old offset (length bytes) (first_half bytes) (omega (arith, length-take ((length bytes + 1) / 2) bytes))))
      err

  pub write-content : (result : Result T E) → OnOk result (new ≡ counted (with_step old (Write offset bytes))) → OnOk result (offset + length bytes ≤ length_limit) →
      OnOk result (Written offset bytes (Some (content_of old)) (Some (content_of new)))
  write-content (Ok value) ok within = record {
    where_told = record {
      content = ap content_of ok ∙ content_after-write old.start old.steps offset bytes;
      within = within;
    };
  }
  write-content (Err failed) ok within = tt

  pub write-torn : (result : Result T E) →
      OnErr result ((new ≡ faulted old) ⊎ (new ≡ faulted (with_step old (Write offset (first_half bytes))))) →
      OnErr result (HalfWritten offset (length bytes) (Some (content_of old)) (Some (content_of new)))
  write-torn (Ok value) err = tt
  write-torn (Err failed) err = ⊎_elim
      (λ same. record { where_told = subst (λ now. Torn offset (length bytes) (content_of old) now) (sym (ap content_of same)) (Torn-same offset (length bytes) (content_of old)); goes_on = λ told. told })
      (λ front. record {
        where_told = subst (λ now. Torn offset (length bytes) (content_of old) now)
            (sym (ap content_of front ∙ content_after-write old.start old.steps offset (first_half bytes)))
            (Torn-wider offset (length (first_half bytes)) (length bytes) (content_of old) (overwritten (content_of old) offset (first_half bytes))
            (omega (arith, length-take ((length bytes + 1) / 2) bytes)) (Torn-overwritten (content_of old) offset (first_half bytes)));
        goes_on = λ told. told;
      })
      err

-- time and content after a sync, by its answer
module _ {T E : Type 0} (old new : MemDiskState) where
  pub sync-time : (result : Result T E) → OnOk result (new ≡ counted (with_step old Sync)) → OnErr result (new ≡ faulted old) →
      Elapsed (length old.steps) (length new.steps) (left_at old) (left_at new) (left_at old (length old.steps))
  sync-time (Ok value) ok err =
      subst (λ (disk : MemDiskState). Elapsed (length old.steps) (length disk.steps) (left_at old) (left_at disk) (left_at old (length old.steps)))
      (sym ok) (Elapsed-step old Sync (left_at old (length old.steps)) (λ image left. left)
      (λ image left. subst (λ now. left_at old (length old.steps) now) (sym (after_sync old image left)) (content-left old)))
  sync-time (Err failed) ok err =
      subst (λ (disk : MemDiskState). Elapsed (length old.steps) (length disk.steps) (left_at old) (left_at disk) (left_at old (length old.steps)))
      (sym err) (Elapsed-nothing old (left_at old (length old.steps)) (λ image left. left))

  pub sync-durable : (result : Result T E) → OnOk result (new ≡ counted (with_step old Sync)) →
      OnOk result ((image : List ℕ) → left_at new (length new.steps) image → Some (content_of new) ≡ Some image)
  sync-durable (Ok value) ok =
      subst (λ (disk : MemDiskState). (image : List ℕ) → left_at disk (length disk.steps) image → Some (content_of disk) ≡ Some image)
      (sym ok) (λ image left. ap Some (content_after-sync old.start old.steps ∙ sym (after_sync old image (subst (λ now. left_at (with_step old Sync) now image) (length_push old.steps Sync) left))))
  sync-durable (Err failed) ok = tt

  pub sync-stays : (result : Result T E) → OnOk result (new ≡ counted (with_step old Sync)) → OnErr result (new ≡ faulted old) →
      Some (content_of new) ≡ Some (content_of old)
  sync-stays (Ok value) ok err = ap Some (ap content_of ok ∙ content_after-sync old.start old.steps)
  sync-stays (Err failed) ok err = ap Some (ap content_of err)
