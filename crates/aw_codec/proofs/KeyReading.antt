-- Reading the slots of a key one behind the other, as a loop does.
use Rattle.std.specs.Prelude.{ℕ, ◌≡◌, ◌+◌, ◌-◌, ◌≤◌, ◌<◌, List, length, take, slice_set, Option, Result, Ok, nat_le}
use Rattle.std.specs.Int.{w16}
use Rattle.std.proofs.Common.{subst, sym}
use Rattle.std.proofs.lemmas.List.{take_more_set}
use Rattle.aw_codec.specs.declared.record.BadRecord.{BadRecord}
use Rattle.aw_codec.specs.Formats.{Format, number, many}
use Rattle.aw_codec.specs.Parsing.{reading, Fails}
use Rattle.aw_codec.specs.RecordFormat.{least_slot}
use Rattle.aw_codec.proofs.Readings.{next_part, no_part, all_parts}

abbrev pub next_slot : ℕ → Option (List ℕ) → List ℕ → Format ℕ
next_slot size previous slots = number w16 (nat_le (least_slot size previous slots))

module _ (size i : ℕ) (previous : Option (List ℕ)) (slots bytes : List ℕ) (at : ℕ) (total : Result (List ℕ × ℕ) ℕ) (so_far : reading (many (next_slot size previous) (size - i) (take i slots)) bytes at ≡ total) where
  module _ (least : ℕ) (least_is : least ≡ least_slot size previous (take i slots)) where
    pub slot_read : (n behind : ℕ) → i < size → i < length slots → reading (number w16 (nat_le least)) bytes at ≡ Ok (n, behind)
        → reading (many (next_slot size previous) (size - (i + 1)) (take (i + 1) (slice_set slots i n))) bytes behind ≡ total
    slot_read n behind lt room read =
        let read-2 = subst (λ (m : ℕ). reading (number w16 (nat_le m)) bytes at ≡ Ok (n, behind)) least_is read in
        subst (λ (before : List ℕ). reading (many (next_slot size previous) (size - (i + 1)) before) bytes behind ≡ total) (sym (take_more_set slots i n room))
        (next_part (next_slot size previous) size i (take i slots) bytes at total so_far n behind lt read-2)

    pub no_slot : (e : BadRecord) → i < size → Fails e (reading (number w16 (nat_le least)) bytes at) → Fails e total
    no_slot e lt fails =
        no_part (next_slot size previous) size i (take i slots) bytes at total so_far e lt (subst (λ (m : ℕ). Fails e (reading (number w16 (nat_le m)) bytes at)) least_is fails)

  pub all_slots : size ≤ i → total ≡ Ok (take i slots, at)
  all_slots le = all_parts (next_slot size previous) size i (take i slots) bytes at total so_far le
