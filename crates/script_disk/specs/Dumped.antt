-- How a dump ends, and what it does to the disk.
use Rattle.std.specs.Prelude.{ℕ, ◌≡◌, ◌⊎◌, List, Option, IfSome}
use Rattle.aw_codec.specs.declared.record.Decoded.{Decoded}
use Rattle.aw_io.specs.Known.{Grows, GrowsByFront}
use Rattle.aw_journal.specs.Format.{IsUnformatted}
use Rattle.aw_journal.specs.Passed.{Passed}
use Rattle.aw_store.specs.StoredRecords.{HoldsRecords, IsDamaged, CanBeOpened}
use Rattle.script_meaning.specs.Dump.{dump_text}
use Rattle.script_disk.specs.WhyUnopened.{CutOff, not_a_workspace, damaged}

-- the text is the dump of the records that the content holds, where it is told, and that a crash now leaves
pub record IsDumpOf (content : Option (List ℕ)) (images : List ℕ → Type 0) (text : List ℕ) : Type 0 where
  pub records : List Decoded
  pub can_be_opened : CanBeOpened records
  pub holds : IfSome content (λ image. HoldsRecords image records)
  pub durable : (image : List ℕ) → images image → HoldsRecords image records
  pub text_is : text ≡ dump_text records

-- the whole dump was written
pub record IsWritten (content : Option (List ℕ)) (images : List ℕ → Type 0) (before now : Option (List ℕ)) : Type 0 where
  pub text : List ℕ
  pub dump : IsDumpOf content images text
  pub wrote : Grows before now text

-- the sink failed before it took the whole dump
pub record IsBroken (content : Option (List ℕ)) (images : List ℕ → Type 0) (before now : Option (List ℕ)) : Type 0 where
  pub text : List ℕ
  pub dump : IsDumpOf content images text
  pub wrote : GrowsByFront before now text

-- the content, where it is told, what a crash now leaves, and what the sink had and has now, where it tells, by the
-- status: the whole dump, a front of what was due, the text of a disk that is no workspace or is damaged, or nothing
pub record EndsDump (status : ℕ) (content : Option (List ℕ)) (images : List ℕ → Type 0) (before now : Option (List ℕ)) : Type 0 where
  pub statuses : (status ≡ 0) ⊎ (status ≡ 4) ⊎ (status ≡ 5) ⊎ (status ≡ 6) ⊎ (status ≡ 7) ⊎ (status ≡ 8)
  pub whole : status ≡ 0 → IsWritten content images before now
  pub cut : status ≡ 4 → IsBroken content images before now ⊎ CutOff content before now
  pub unformatted : status ≡ 7 → IfSome content IsUnformatted × Grows before now not_a_workspace
  pub bad : status ≡ 8 → (offset : ℕ) × IfSome content (λ image. IsDamaged image offset) × Grows before now (damaged offset)
  pub silent : (status ≡ 5) ⊎ (status ≡ 6) → now ≡ before

-- the disk keeps its content, and a crash leaves what it might have left before
pub record Dumps {D : Type 0} (content : D → Option (List ℕ)) (clock : D → ℕ) (crash : D → ℕ → List ℕ → Type 0) (old new : D) (before now : Option (List ℕ)) (status : ℕ) : Type 0 where
  pub ends : EndsDump status (content old) (crash new (clock new)) before now
  pub stays : content new ≡ content old
  pub moments : Passed (clock old) (clock new) (crash old) (crash new) (crash old (clock old))

-- the whole dump was written, or there was no memory for what the records leave
abbrev pub CompletesDump : ℕ → Type 0
CompletesDump status = (status ≡ 0) ⊎ (status ≡ 6)
