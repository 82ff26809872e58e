-- What the payloads of a journal say of its records.
use Rattle.std.proofs.Common.{ℕ, ◌≡◌, ◌⊎◌, ◌+◌, ◌<◌, ◌++◌, List, [], ◌∷◌, length, map, fold, min, Option, None, Some, IsTrue, refl, ap, ap₂, sym, subst, ◌∙◌, inl, inr, arith, length-append}
use Rattle.std.proofs.lemmas.List.{map-append, length-map}
use Rattle.std.proofs.lemmas.List.Sums.{fold-append}
use Rattle.std.specs.Option.{option_map}
use Rattle.std.specs.Result.{result_unwrap_or}
use Rattle.aw_codec.specs.declared.record.Decoded.{Decoded}
use Rattle.aw_codec.specs.declared.record.Decoded.TheVariants.{Definitions}
use Rattle.aw_codec.specs.Records.{spelled, IsRecord}
use Rattle.aw_journal.specs.Format.{Holds}
use Rattle.aw_journal.specs.CrashPayloads.{Left}
use Rattle.aw_store.specs.StoredRecords.{can_replay, IsStored, AreRecords, HoldsRecords, LeftRecords}
use Rattle.aw_store.specs.inside.PayloadRecords.{record_from, IsNext, IsNextInDoubt, IsLast, AreSpellings}
use Rattle.aw_store.specs.inside.ReplaySteps.{last_bytes}
use Rattle.aw_codec.proofs.CallerLemmas.{whole_of_record}

-- a record is found by its spelling
pub record_from-spelled : (r : Decoded) → IsRecord r → record_from (spelled r) ≡ r
unfolding record_from
record_from-spelled r fits =
    ap (λ found. result_unwrap_or found (Definitions [])) (whole_of_record (spelled r) r fits refl)

pub found : (r : Decoded) (bytes : List ℕ) → IsRecord r → bytes ≡ spelled r → record_from bytes ≡ r
found r bytes fits spelling = ap record_from spelling ∙ record_from-spelled r fits

pub IsNext-spelled : (records : List Decoded) (r : Decoded) (bytes : List ℕ) → IsStored r → bytes ≡ spelled r → IsTrue (can_replay (records ++ r ∷ [])) → IsNext records bytes
IsNext-spelled records r bytes fits spelling replayable =
    let is = sym (found r bytes fits.spelling spelling) in
    record {
      spelling = spelling ∙ ap spelled is;
      fits = subst IsStored is fits;
      replayable = subst (λ next. IsTrue (can_replay (records ++ next ∷ []))) is replayable;
    }

pub AreRecords-append : (records : List Decoded) (r : Decoded) → AreRecords records → IsStored r → AreRecords (records ++ r ∷ [])
AreRecords-append [] r are is = (is, tt)
AreRecords-append (one ∷ records) r are is = (are.0, AreRecords-append records r are.1 is)

-- one payload more is one record more
pub one_more : (settled : List (List ℕ)) (payload : List ℕ) → map record_from (settled ++ payload ∷ []) ≡ map record_from settled ++ record_from payload ∷ []
one_more settled payload = map-append record_from settled (payload ∷ [])

-- the settled records are among what a crash may leave
left_settled : (records : List Decoded) (doubt : Option Decoded) (image : List ℕ) → HoldsRecords image records → LeftRecords records doubt image
left_settled records None image held = held
left_settled records (Some r) image held = inl held

module _ (settled : List (List ℕ)) (doubt : Option (List ℕ)) (are : AreSpellings settled doubt) where
  records_held : (image : List ℕ) → Holds image settled → HoldsRecords image (map record_from settled)
  records_held image held = record {
    holds = subst (Holds image) (sym are.same) held;
    spellings = are.spellings;
    replayable = are.replayable;
  }

  spelled_more : (payload : List ℕ) → IsNext (map record_from settled) payload → map spelled (map record_from settled ++ record_from payload ∷ []) ≡ settled ++ payload ∷ []
  spelled_more payload next =
      map-append spelled (map record_from settled) (record_from payload ∷ []) ∙ ap₂ (λ (front : List (List ℕ)) (last : List ℕ). front ++ last ∷ []) are.same (sym next.spelling)

  pub next_held : (payload : List ℕ) (image : List ℕ) → IsNext (map record_from settled) payload → Holds image (settled ++ payload ∷ []) → HoldsRecords image (map record_from settled ++ record_from payload ∷ [])
  next_held payload image next held = record {
    holds = subst (Holds image) (sym (spelled_more payload next)) held;
    spellings = AreRecords-append (map record_from settled) (record_from payload) are.spellings next.fits;
    replayable = next.replayable;
  }

  -- with the next payload settled
  pub settled_more : (payload : List ℕ) → IsNext (map record_from settled) payload → AreSpellings (settled ++ payload ∷ []) None
  settled_more payload next = record {
    same = ap (map spelled) (one_more settled payload) ∙ spelled_more payload next;
    spellings = subst AreRecords (sym (one_more settled payload)) (AreRecords-append (map record_from settled) (record_from payload) are.spellings next.fits);
    replayable = subst (λ records. IsTrue (can_replay records)) (sym (one_more settled payload)) next.replayable;
    next = tt;
  }

  -- with the next payload in doubt
  pub in_doubt : (payload : List ℕ) → IsNext (map record_from settled) payload → AreSpellings settled (Some payload)
  in_doubt payload next = record { same = are.same; spellings = are.spellings; replayable = are.replayable; next = next }

  left_next : (doubtful : Option (List ℕ)) (image : List ℕ) → IsNextInDoubt (map record_from settled) doubtful → Left settled doubtful image → LeftRecords (map record_from settled) (option_map record_from doubtful) image
  left_next None image next left = records_held image left
  left_next (Some payload) image next (inl left) = inl (records_held image left)
  left_next (Some payload) image next (inr left) = inr (next_held payload image next left)

  -- what a crash leaves of the payloads
  pub LeftRecords-left : (image : List ℕ) → Left settled doubt image → LeftRecords (map record_from settled) (option_map record_from doubt) image
  LeftRecords-left image left = left_next doubt image are.next left

  -- what a crash leaves while the next payload is put there
  pub left_writing : (payload : List ℕ) (image : List ℕ) → IsNext (map record_from settled) payload → Left settled (Some payload) image → LeftRecords (map record_from settled) (option_map record_from doubt) image ⊎ HoldsRecords image (map record_from settled ++ record_from payload ∷ [])
  left_writing payload image next (inl left) = inl (left_settled (map record_from settled) (option_map record_from doubt) image (records_held image left))
  left_writing payload image next (inr left) = inr (next_held payload image next left)

-- ---- the last record

-- one record more is counted, and is the last one
pub IsLast-next : (settled : List (List ℕ)) (number after : ℕ) (last payload : List ℕ) → IsLast (map record_from settled) number last → IsNext (map record_from settled) payload → after ≡ min (number + 1) 18446744073709551615 → IsLast (map record_from (settled ++ payload ∷ [])) after payload
IsLast-next settled number after last payload is next counted =
    let records = map record_from settled in
    let r = record_from payload in
    subst (λ them. IsLast them after payload) (sym (one_more settled payload)) (record {
      number_is = omega (arith, counted, is.number_is, length-append records (r ∷ []));
      bytes_are = next.spelling ∙ sym (fold-append (λ (bytes : List ℕ) (one : Decoded). spelled one) [] records (r ∷ []));
    })

last-spelled : (bytes : List ℕ) (records : List Decoded) → fold (λ (before after : List ℕ). after) bytes (map spelled records) ≡ fold (λ (before : List ℕ) (r : Decoded). spelled r) bytes records
last-spelled bytes [] = refl
last-spelled bytes (r ∷ records) = last-spelled (spelled r) records

-- all payloads of a journal
pub IsLast-loaded : (settled : List (List ℕ)) (number : ℕ) (last : List ℕ) → AreSpellings settled None → number ≡ length settled → number < 18446744073709551616 → last ≡ last_bytes settled → IsLast (map record_from settled) number last
IsLast-loaded settled number last are counted few is = record {
  number_is = omega (arith, counted, few, length-map settled record_from);
  bytes_are = is ∙ ap last_bytes (sym are.same) ∙ last-spelled [] (map record_from settled);
}
