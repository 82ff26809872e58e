-- Laws of spellings and of faults.
use Rattle.std.specs.Prelude.{ℕ, ◌≡◌, ◌<◌, ◌⊎◌, ◌↔◌, List, ◌++◌, All}
use Rattle.aw_codec.specs.declared.record.Decoded.{Decoded}
use Rattle.aw_codec.specs.Formats.{IsWhole, HasFault}
use Rattle.aw_codec.specs.RecordFormat.{record_format}
use Rattle.aw_codec.specs.Records.{IsRecord, spelled}

-- no spelling begins another, and no two records have the same one
abbrev pub SpellingsDiffer : Type 0
SpellingsDiffer = (a b : Decoded) (x y : List ℕ) → IsRecord a → IsRecord b → spelled a ++ x ≡ spelled b ++ y → (a ≡ b) × (x ≡ y)

-- the bytes are the spelling of this record, and have no fault
pub record IsSpelling (bytes : List ℕ) (r : Decoded) : Type 0 where
  pub fits : IsRecord r
  pub same : bytes ≡ spelled r
  pub sound : (k : ℕ) → HasFault record_format bytes k → ⊥

-- the bytes have a fault at this offset and at no other, and are the spelling of no record
pub record IsFaulty (bytes : List ℕ) (k : ℕ) : Type 0 where
  pub here : HasFault record_format bytes k
  pub alone : (j : ℕ) → HasFault record_format bytes j → j ≡ k
  pub none : (r : Decoded) → IsRecord r → bytes ≡ spelled r → ⊥

-- bytes are the spelling of a record, or have one fault
abbrev pub SpellingOrFault : Type 0
SpellingOrFault = (bytes : List ℕ) → All (λ b. b < 256) bytes → ((r : Decoded) × IsSpelling bytes r) ⊎ ((k : ℕ) × IsFaulty bytes k)

-- the values that the format has are the records, and the bytes of each are its spelling
abbrev pub WholesAreRecords : Type 0
WholesAreRecords = (bytes : List ℕ) (r : Decoded) → All (λ b. b < 256) bytes → IsWhole record_format bytes r ↔ (IsRecord r × (bytes ≡ spelled r))
