-- Each image reads in one way as records.
use Rattle.std.specs.Prelude.{◌≡◌, ◌⊎◌, ℕ, List}
use Rattle.aw_codec.specs.declared.record.Decoded.{Decoded}
use Rattle.aw_journal.specs.Format.{IsUnformatted}
use Rattle.aw_store.specs.StoredRecords.{HoldsRecords, IsDamaged}

-- the image is unformatted, or holds records that can be replayed, or is damaged
abbrev pub ReadsRecords : List ℕ → Type 0
ReadsRecords image = IsUnformatted image ⊎ (((records : List Decoded) × HoldsRecords image records) ⊎ ((offset : ℕ) × IsDamaged image offset))

-- the image is only one of these, with one list of records or at one offset
pub record ReadsRecordsOneWay (image : List ℕ) : Type 0 where
  pub unformatted_or_holds : (records : List Decoded) → IsUnformatted image → HoldsRecords image records → ⊥
  pub unformatted_or_damaged : (offset : ℕ) → IsUnformatted image → IsDamaged image offset → ⊥
  pub holds_or_damaged : (records : List Decoded) (offset : ℕ) → HoldsRecords image records → IsDamaged image offset → ⊥
  pub records : (records others : List Decoded) → HoldsRecords image records → HoldsRecords image others → records ≡ others
  pub offset : (offset other : ℕ) → IsDamaged image offset → IsDamaged image other → offset ≡ other
