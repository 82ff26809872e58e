-- The records that a journal's payloads spell.
use Rattle.std.specs.Prelude.{ℕ, ◌≡◌, ◌++◌, List, [], ◌∷◌, map, length, min, Option, None, Some, IsTrue}
use Rattle.std.specs.Result.{result_unwrap_or}
use Rattle.aw_codec.specs.declared.record.Decoded.{Decoded}
use Rattle.aw_codec.specs.declared.record.Decoded.TheVariants.{Definitions}
use Rattle.aw_codec.specs.Parsing.{whole}
use Rattle.aw_codec.specs.RecordFormat.{record_format}
use Rattle.aw_codec.specs.Records.{spelled}
use Rattle.aw_store.specs.StoredRecords.{can_replay, last_spelling, IsStored, AreRecords}

-- the record that these bytes spell; bytes that spell none aren't asked
unfoldable pub record_from : List ℕ → Decoded
record_from bytes = result_unwrap_or (whole record_format bytes) (Definitions [])

-- these bytes spell a record with which the records so far can be replayed
pub record IsNext (records : List Decoded) (bytes : List ℕ) : Type 0 where
  pub spelling : bytes ≡ spelled (record_from bytes)
  pub fits : IsStored (record_from bytes)
  pub replayable : IsTrue (can_replay (records ++ record_from bytes ∷ []))

-- so does a payload in doubt, where there is one
abbrev pub IsNextInDoubt : List Decoded → Option (List ℕ) → Type 0
IsNextInDoubt records None = Unit {0}
IsNextInDoubt records (Some payload) = IsNext records payload

-- the settled payloads of a journal, and the one in doubt, are spellings of records that can be replayed
pub record AreSpellings (settled : List (List ℕ)) (doubt : Option (List ℕ)) : Type 0 where
  pub same : map spelled (map record_from settled) ≡ settled
  pub spellings : AreRecords (map record_from settled)
  pub replayable : IsTrue (can_replay (map record_from settled))
  pub next : IsNextInDoubt (map record_from settled) doubt

-- how many records there are, up to 2 ^ 64 - 1, and the bytes of the last one
pub record IsLast (records : List Decoded) (number : ℕ) (bytes : List ℕ) : Type 0 where
  pub number_is : number ≡ min (length records) 18446744073709551615
  pub bytes_are : bytes ≡ last_spelling records

-- a journal as its records: the disk, the settled ones, and the one in doubt
pub record LogState (D : Type 0) : Type 0 where
  pub disk : D
  pub records : List Decoded
  pub doubt : Option Decoded
