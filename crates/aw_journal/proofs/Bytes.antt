-- What the writes of an append and of a repair make of the content.
use Rattle.std.proofs.Common.{◌≡◌, ℕ, ◌+◌, ◌<◌, ◌^◌, List, [], ◌∷◌, ◌++◌, length, drop, Option, None, Some, refl, sym, ◌∙◌, ap, arith}
use Rattle.aw_disk.specs.Calls.{BothTold, Written}
use Rattle.aw_disk.specs.Images.{overwritten}
use Rattle.aw_journal.specs.Bytes.{Appended, Repaired}
use Rattle.aw_journal.specs.Format.{head, frames, size_bytes}
use Rattle.aw_journal.specs.Journal.{AtRest, HalfOpen}
use Rattle.aw_journal.proofs.callers.Frames.{frames-push}
use Rattle.aw_journal.proofs.Torn.{written_behind, written_at, written_from}

module _ (settled : List (List ℕ)) (payload frame : List ℕ) (gate : ℕ) (is : frame ≡ size_bytes (length payload) ++ payload ++ 0 ∷ []) where
  abbrev front : List ℕ
  front = head ++ frames settled

  -- the frame behind the gate, and then the gate
  both_written : (old middle now : List ℕ) → AtRest settled gate old → middle ≡ overwritten old (gate + 1) frame → now ≡ overwritten middle gate (1 ∷ []) →
      Appended settled payload old now
  both_written old middle now rests staged opened =
      let place : gate ≡ length front = omega (arith, rests.place) in
      let there : 8 + length (frames settled) ≡ length front = omega arith in
      let behind : gate + 1 ≡ length front + 1 = omega (arith, place) in
      let rest = drop (length frame) rests.holds.rest in
      let middle_is : middle ≡ front ++ rests.holds.gate ∷ (frame ++ rest) =
      staged ∙ ap (λ (l : List ℕ). overwritten l (gate + 1) frame) rests.holds.bytes
      ∙ ap (λ (n : ℕ). overwritten (front ++ rests.holds.gate ∷ rests.holds.rest) n frame) behind ∙ written_behind front rests.holds.gate rests.holds.rest frame in
      let now_is : now ≡ front ++ 1 ∷ (frame ++ rest) =
      opened ∙ ap (λ (l : List ℕ). overwritten l gate (1 ∷ [])) middle_is
      ∙ ap (λ (n : ℕ). overwritten (front ++ rests.holds.gate ∷ (frame ++ rest)) n (1 ∷ [])) place ∙ written_at front rests.holds.gate (frame ++ rest) 1 in
      let whole : frames (payload ∷ []) ++ 0 ∷ [] ≡ 1 ∷ frame = frames-push [] payload (0 ∷ []) ∙ ap (λ (l : List ℕ). 1 ∷ l) (sym is) in
      let at_once : overwritten old (8 + length (frames settled)) (frames (payload ∷ []) ++ 0 ∷ []) ≡ front ++ 1 ∷ (frame ++ rest) =
      ap (λ (l : List ℕ). overwritten l (8 + length (frames settled)) (frames (payload ∷ []) ++ 0 ∷ [])) rests.holds.bytes
      ∙ ap (λ (n : ℕ). overwritten (front ++ rests.holds.gate ∷ rests.holds.rest) n (frames (payload ∷ []) ++ 0 ∷ [])) there
      ∙ ap (λ (l : List ℕ). overwritten (front ++ rests.holds.gate ∷ rests.holds.rest) (length front) l) whole
      ∙ written_from front rests.holds.gate rests.holds.rest 1 frame in
      record { content = now_is ∙ sym at_once }

  -- an append's two writes
  pub appended : (offset : ℕ) (before middle now : Option (List ℕ)) → ((bytes : List ℕ) → before ≡ Some bytes → AtRest settled gate bytes) →
      (gate < 2 ^ 62 → offset ≡ gate + 1) → Written offset frame before middle → Written gate (1 ∷ []) middle now → BothTold (Appended settled payload) before now
  appended offset None None None rests behind first second = tt
  appended offset None None (Some now) rests behind first second = absurd second.where_told
  appended offset None (Some middle) now rests behind first second = absurd first.where_told
  appended offset (Some old) None None rests behind first second = tt
  appended offset (Some old) None (Some now) rests behind first second = absurd second.where_told
  appended offset (Some old) (Some middle) None rests behind first second = tt
  appended offset (Some old) (Some middle) (Some now) rests behind first second =
      let at = rests old refl in
      both_written old middle now at (first.where_told.content ∙ ap (λ (n : ℕ). overwritten old n frame) (behind at.within)) second.where_told.content

-- a repair's write
pub repaired : (settled : List (List ℕ)) (payload : List ℕ) (gate : ℕ) (before now : Option (List ℕ)) → ((bytes : List ℕ) → before ≡ Some bytes → HalfOpen settled payload gate bytes) →
    Written gate (0 ∷ []) before now → BothTold (Repaired settled) before now
repaired settled payload gate None None half written = tt
repaired settled payload gate None (Some now) half written = absurd written.where_told
repaired settled payload gate (Some old) None half written = tt
repaired settled payload gate (Some old) (Some now) half written =
    record { content = written.where_told.content ∙ ap (λ (n : ℕ). overwritten old n (0 ∷ [])) (half old refl).place }
