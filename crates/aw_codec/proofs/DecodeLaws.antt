-- What the answer of the decoder says of the bytes.
use Rattle.std.specs.Prelude.{ℕ, ◌≡◌, ◌<◌, List, Result, Ok, Err, IfOk, length, All}
use Rattle.std.proofs.Common.{refl, ap, ◌∙◌, arith, inl, inr}
use Rattle.std.proofs.lemmas.Bool.{cases_lt}
use Rattle.std.proofs.lemmas.List.{get_or_past}
use Rattle.aw_codec.specs.declared.record.Decoded.{Decoded}
use Rattle.aw_codec.specs.declared.record.BadRecord.{BadRecord}
use Rattle.aw_codec.specs.declared.record.BadRecord.TheVariants.{At, NoMemory}
use Rattle.aw_codec.specs.Decoding.{IsOrNoMemory}
use Rattle.aw_codec.specs.Formats.{HasFault}
use Rattle.aw_codec.specs.Parsing.{Gives, whole}
use Rattle.aw_codec.specs.RecordFormat.{record_format}
use Rattle.aw_codec.specs.Records.{IsRecord, spelled}
use Rattle.aw_codec.proofs.FormatLaws.{value_of_whole, whole_of_value, fault_of_whole, whole_of_fault}
use Rattle.aw_codec.proofs.Parts.{AreBytes}
use Rattle.aw_codec.proofs.RecordLaws.{record_is, record_whole}

pub bytes_are_below : (bytes : List ℕ) → All (λ b. b < 256) bytes → AreBytes bytes
bytes_are_below bytes each i =
    elim (cases_lt i (length bytes)) [
      | inl within ↦ each i 0 within
      | inr past ↦ rw (get_or_past bytes i 0 past) (omega arith)
    ]

-- what all of the bytes give
pub record_of_whole : (bytes : List ℕ) (r : Decoded) → AreBytes bytes → whole record_format bytes ≡ Ok r → IsRecord r × (bytes ≡ spelled r)
record_of_whole bytes r each e = record_is bytes r (record { each = each; whole = value_of_whole record_format bytes r e })

pub whole_of_record : (bytes : List ℕ) (r : Decoded) → IsRecord r → bytes ≡ spelled r → whole record_format bytes ≡ Ok r
whole_of_record bytes r fits same = ap (whole record_format) same ∙ whole_of_value record_format (spelled r) r (record_whole r fits)

module _ (bytes : List ℕ) where
  pub found_record : (result : Result Decoded BadRecord) → AreBytes bytes → Gives (λ x. x) result (whole record_format bytes) → IfOk result (λ r. IsRecord r × (bytes ≡ spelled r))
  found_record (Ok r) each given = record_of_whole bytes r each given
  found_record (Err e) each given = tt

  pub found_fault : (result : Result Decoded BadRecord) (k : ℕ) → Gives (λ x. x) result (whole record_format bytes) → result ≡ Err (At k) → HasFault record_format bytes k
  found_fault (Ok r) k given e = absurd cc
  found_fault (Err (At j)) k given e = let same : j ≡ k = cc in fault_of_whole record_format bytes k (given ∙ ap Err same)
  found_fault (Err NoMemory) k given e = absurd cc

  pub answers_record : (result : Result Decoded BadRecord) (r : Decoded) → Gives (λ x. x) result (whole record_format bytes) → IsRecord r → bytes ≡ spelled r → IsOrNoMemory result (Ok r)
  answers_record (Ok v) r given fits same = let is = whole_of_record bytes r fits same in inl cc
  answers_record (Err (At j)) r given fits same = let is = whole_of_record bytes r fits same in absurd cc
  answers_record (Err NoMemory) r given fits same = inr refl

  pub answers_fault : (result : Result Decoded BadRecord) (k : ℕ) → Gives (λ x. x) result (whole record_format bytes) → HasFault record_format bytes k → IsOrNoMemory result (Err (At k))
  answers_fault (Ok v) k given fault = let is = whole_of_fault record_format bytes k fault in absurd cc
  answers_fault (Err (At j)) k given fault = let is = whole_of_fault record_format bytes k fault in inl cc
  answers_fault (Err NoMemory) k given fault = inr refl
