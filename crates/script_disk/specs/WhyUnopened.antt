-- Why a workspace wasn't opened, and what was written of it.
use Rattle.std.specs.Prelude.{ℕ, ◌≡◌, ◌⊎◌, List, Option, IfSome, [], ◌∷◌, ◌++◌, codes}
use Rattle.std.specs.Fmt.{decimal}
use Rattle.aw_io.specs.Known.{Grows, GrowsByFront}
use Rattle.aw_journal.specs.Format.{IsUnformatted}
use Rattle.aw_journal.specs.declared.fault.LoadFault.{LoadFault}
use Rattle.aw_journal.specs.declared.fault.LoadFault.TheVariants as load
use Rattle.aw_store.specs.StoredRecords.{IsDamaged, HoldsRecords}
use Rattle.script_disk.specs.declared.opening.Unopened.{Unopened}
use Rattle.script_disk.specs.declared.opening.Unopened.TheVariants.{Unformatted, Damaged, DiskFault, NoMemory, SinkFault}
use Rattle.aw_codec.specs.declared.record.Decoded.{Decoded}
use Rattle.script_meaning.specs.Transcript.{SameRecords}

-- a disk that is no workspace
abbrev pub not_a_workspace : List ℕ
not_a_workspace = codes "NOT A WORKSPACE" ++ 10 ∷ []

-- a workspace that is damaged at the gate of this offset
abbrev pub damaged : ℕ → List ℕ
damaged offset = codes "DAMAGED " ++ decimal offset ++ 10 ∷ []

abbrev pub status_of : Unopened → ℕ
status_of SinkFault = 4
status_of DiskFault = 5
status_of NoMemory = 6
status_of Unformatted = 7
status_of (Damaged offset) = 8

-- a text that is due: the content is unformatted, or is damaged at an offset, where it is told
abbrev pub IsDue : Option (List ℕ) → List ℕ → Type 0
IsDue content text =
    (IfSome content IsUnformatted × (text ≡ not_a_workspace))
    ⊎ ((offset : ℕ) × IfSome content (λ image. IsDamaged image offset) × (text ≡ damaged offset))

-- the sink failed before it took all of a text that was due
pub record CutOff (content before now : Option (List ℕ)) : Type 0 where
  pub text : List ℕ
  pub due : IsDue content text
  pub wrote : GrowsByFront before now text

-- what the content is, where it is told, and what the sink had and has now, where it tells: the whole text was
-- written, or nothing, or a front of the text
abbrev pub IsUnopened : Unopened → Option (List ℕ) → Option (List ℕ) → Option (List ℕ) → Type 0
IsUnopened Unformatted content before now = IfSome content IsUnformatted × Grows before now not_a_workspace
IsUnopened (Damaged offset) content before now = IfSome content (λ image. IsDamaged image offset) × Grows before now (damaged offset)
IsUnopened DiskFault content before now = now ≡ before
IsUnopened NoMemory content before now = now ≡ before
IsUnopened SinkFault content before now = CutOff content before now

-- what was written of this refusal
abbrev pub Told : LoadFault → Unopened → Option (List ℕ) → Option (List ℕ) → Type 0
Told load.Unformatted why before now =
    ((why ≡ Unformatted) × Grows before now not_a_workspace) ⊎ ((why ≡ SinkFault) × GrowsByFront before now not_a_workspace)
Told (load.Damaged offset) why before now =
    ((why ≡ Damaged offset) × Grows before now (damaged offset)) ⊎ ((why ≡ SinkFault) × GrowsByFront before now (damaged offset))
Told load.DiskFault why before now = (why ≡ DiskFault) × (now ≡ before)
Told load.NoMemory why before now = (why ≡ NoMemory) × (now ≡ before)

-- a device failed, or memory ran out
abbrev pub IsHindered : ℕ → Type 0
IsHindered status = (status ≡ 4) ⊎ (status ≡ 5) ⊎ (status ≡ 6)

-- What the status says of the content of a disk that was to be opened: 7 exactly where it's no workspace, and 8 exactly where
-- it's damaged, unless the call was hindered.
pub record ExplainsContent (status : ℕ) (image : List ℕ) : Type 0 where
  pub seven : status ≡ 7 → IsUnformatted image
  pub eight : status ≡ 8 → (offset : ℕ) × IsDamaged image offset
  pub unformatted : IsUnformatted image → (status ≡ 7) ⊎ IsHindered status
  pub bad : (offset : ℕ) → IsDamaged image offset → (status ≡ 8) ⊎ IsHindered status

-- ---- a disk that each crash would leave as a workspace

-- lists of records are compared by an argument
module _ (Same : List Decoded → List Decoded → Type 0) where
  -- the image holds these records, and perhaps one record more
  pub record HoldsSo (records : List Decoded) (image : List ℕ) : Type 0 where
    pub held : List Decoded
    pub holds : HoldsRecords image held
    pub are : Same held records ⊎ ((more : Decoded) × Same held (records ++ more ∷ []))

  -- one list of records is what each of these images holds so
  pub record AreFormattedBy (images : List ℕ → Type 0) : Type 0 where
    pub records : List Decoded
    pub each : (image : List ℕ) → images image → HoldsSo records image

abbrev pub AreFormatted : (List ℕ → Type 0) → Type 0
AreFormatted images = AreFormattedBy SameRecords images
