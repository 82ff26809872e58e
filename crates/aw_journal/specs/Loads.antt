-- What a load answers.
use Rattle.std.specs.Prelude.{◌≡◌, ◌⊎◌, ℕ, List, Option, IfSome, IfOk, IfErr, Result, Ok, Err}
use Rattle.aw_lists.specs.Faults.{Rose}
use Rattle.aw_journal.specs.Format.{IsUnformatted, CutShort, Holds}
use Rattle.aw_journal.specs.Journal.{JournalState}
use Rattle.aw_journal.specs.declared.fault.LoadFault.{LoadFault}
use Rattle.aw_journal.specs.declared.fault.LoadFault.TheVariants.{Unformatted, Damaged, DiskFault, NoMemory}
use Rattle.aw_journal.specs.declared.payload.Payload.{Payload}

-- why a load was refused: what the content is, where it is told, or a failure of the disk in the call
abbrev pub Explains : LoadFault → Option (List ℕ) → ℕ → ℕ → Type 0
Explains Unformatted content before now = IfSome content IsUnformatted
Explains (Damaged offset) content before now = IfSome content (λ bytes. CutShort bytes offset)
Explains DiskFault content before now = Rose before now
Explains NoMemory content before now = Unit {0}

-- the disk that a load took, inside the journal or handed back
abbrev pub disk_of : {D : Type 0} → Result (JournalState D × List Payload) (LoadFault × D) → D
disk_of (Ok loaded) = loaded.0.disk
disk_of (Err refused) = refused.1

-- the disk failed, or there was no memory
abbrev pub IsHindered : LoadFault → Type 0
IsHindered fault = (fault ≡ DiskFault) ⊎ (fault ≡ NoMemory)

-- the load was refused so, unless it was hindered
abbrev pub IsRefusedAs : {A D : Type 0} → LoadFault → Result A (LoadFault × D) → Type 0
IsRefusedAs fault result = IfOk result (λ loaded. ⊥) × IfErr result (λ refused. (refused.0 ≡ fault) ⊎ IsHindered refused.0)

-- Each image has its own answer, unless the load is hindered: bytes that are no journal are refused as that, an image that
-- is damaged is refused with the offset, and one that can be loaded is loaded.
module _ (IsDamaged : List ℕ → ℕ → Type 0) (IsWhole : List ℕ → Type 0) where
  pub record IsAnswered {A D : Type 0} (result : Result A (LoadFault × D)) (image : List ℕ) : Type 0 where
    pub unformatted : IsUnformatted image → IsRefusedAs Unformatted result
    pub damaged : (offset : ℕ) → IsDamaged image offset → IsRefusedAs (Damaged offset) result
    pub whole : IsWhole image → IfErr result (λ refused. IsHindered refused.0)

-- the image holds some payloads
abbrev pub HoldsSome : List ℕ → Type 0
HoldsSome image = (payloads : List (List ℕ)) × Holds image payloads
