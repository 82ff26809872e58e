-- What making a workspace did to a disk, and how it ends.
use Rattle.std.specs.Prelude.{ℕ, ◌≡◌, ◌⊎◌, ◌++◌, ◌∷◌, [], List, Option, Some, IfSome}
use Rattle.aw_disk.specs.Calls.{Written}
use Rattle.aw_disk.specs.Images.{TornFrom}
use Rattle.aw_io.specs.Known.{Grows, GrowsByFront}
use Rattle.aw_journal.specs.Format.{head, IsFormatted}
use Rattle.aw_journal.specs.CrashPayloads.{AllHold}
use Rattle.aw_journal.specs.Passed.{Passed}
use Rattle.aw_journal.specs.Undisturbed.{Undisturbed}
use Rattle.script_disk.specs.Texts.{done, already_a_workspace}

module _ {D : Type 0} (content : D → Option (List ℕ)) (faults clock : D → ℕ) (crash : D → ℕ → List ℕ → Type 0) (old new : D) where
  -- it was no workspace; the head and a closed gate stand over its front; a crash now leaves the content, without a payload
  pub record IsMade : Type 0 where
    pub was : IfSome (content old) (λ bytes. ¬ (IsFormatted bytes))
    pub written : Written 0 (head ++ 0 ∷ []) (content old) (content new)
    pub durable : (image : List ℕ) → crash new (clock new) image → content new ≡ Some image
    pub empty : AllHold (crash new (clock new)) []

  -- it was a workspace, and neither its content nor its images changed
  pub record IsLeft : Type 0 where
    pub was : IfSome (content old) IsFormatted
    pub stays : Undisturbed content faults clock crash old new

  -- What the sink had and has now, where it tells, by the status. A workspace keeps its content and its images, whatever
  -- the status, which is 9 unless a device failed. At each moment of the call a crash leaves what it might have left before, but for the first 9 bytes and
  -- what lies past the end.
  pub record Makes (before now : Option (List ℕ)) (status : ℕ) : Type 0 where
    pub statuses : (status ≡ 0) ⊎ (status ≡ 4) ⊎ (status ≡ 5) ⊎ (status ≡ 9)
    pub kept : IfSome (content old) (λ bytes. IsFormatted bytes → Undisturbed content faults clock crash old new)
    pub made : status ≡ 0 → IsMade × Grows before now done
    pub left : status ≡ 9 → IsLeft × Grows before now already_a_workspace
    pub formatted : IfSome (content old) (λ bytes. IsFormatted bytes → (status ≡ 9) ⊎ (status ≡ 4) ⊎ (status ≡ 5))
    pub cut : status ≡ 4 → (IsMade × GrowsByFront before now done) ⊎ (IsLeft × GrowsByFront before now already_a_workspace)
    pub silent : status ≡ 5 → now ≡ before
    pub moments : Passed (clock old) (clock new) (crash old) (crash new) (TornFrom 0 9 (crash old (clock old)))
