-- The payloads of a journal, one after the other.
use Rattle.std.proofs.Common.{ℕ, zero, suc, ◌≡◌, ◌+◌, ◌<◌, ◌≤◌, ◌++◌, ◌∷◌, [], List, length, map, take, drop, get_or, Option, None, ap, sym, subst, ◌∙◌, arith, append_assoc, length-append, take-append-drop}
use Rattle.std.proofs.lemmas.List.{length-map, take_more, get_or-map, length-take}
use Rattle.aw_schema.specs.declared.definition.Def.{Def}
use Rattle.aw_journal.specs.Format.{frames, size_bytes, placed}
use Rattle.aw_journal.proofs.callers.Frames.{length-size_bytes}
use Rattle.aw_journal.specs.declared.payload.Payload.{Payload}
use Rattle.mv_core.specs.Workspace.{Table}
use Rattle.aw_store.specs.inside.PayloadRecords.{record_from, AreSpellings}
use Rattle.aw_store.specs.inside.ReplaySteps.{bytes_of, Leave, AreReplayed, IsStopped, IsNoNext, Taken}
use Rattle.aw_store.proofs.callers.Spellings.{one_more, settled_more}

pub length-front : (i : ℕ) (payloads : List Payload) → length (map record_from (take i (map bytes_of payloads))) ≤ length payloads
length-front i payloads =
    let settled = map bytes_of payloads in
    omega (arith, length-map (take i settled) record_from, length-take i settled, length-map payloads bytes_of)

-- the bytes of the next payload
pub next_bytes : (payloads : List Payload) (i : ℕ) (payload : Payload) → i < length payloads → payload ≡ get_or payloads i payload → take (i + 1) (map bytes_of payloads) ≡ take i (map bytes_of payloads) ++ payload.bytes ∷ []
next_bytes payloads i payload within is =
    take_more (map bytes_of payloads) i payload.bytes (omega (arith, within, length-map payloads bytes_of)) ∙ ap (λ bytes. take i (map bytes_of payloads) ++ bytes ∷ []) (get_or-map bytes_of payloads i payload payload.bytes within ∙ ap bytes_of (sym is))

-- where each payload stands
placed-offset : (offset : ℕ) (settled : List (List ℕ)) (i : ℕ) (other : Payload) → i < length settled → (get_or (placed offset settled) i other).offset ≡ offset + length (frames (take i settled))
placed-offset offset [] i other within = absurd (omega arith)
placed-offset offset (bytes ∷ settled) zero other within = omega arith
placed-offset offset (bytes ∷ settled) (suc i) other within =
    omega (
      arith,
      placed-offset (offset + 5 + length bytes) settled i other (omega arith),
      length-append (size_bytes (length bytes) ++ bytes) (frames (take i settled)),
      length-append (size_bytes (length bytes)) bytes,
      length-size_bytes (length bytes),
    )

pub next_taken : (payloads : List Payload) (i : ℕ) (payload : Payload) (catalogue : Option (List Def)) (table : Table) → i < length payloads → payload ≡ get_or payloads i payload
    → AreSpellings (take i (map bytes_of payloads)) None → Taken (map record_from (take i (map bytes_of payloads))) payload.bytes catalogue table → AreReplayed (take (i + 1) (map bytes_of payloads)) catalogue table
next_taken payloads i payload catalogue table within is spellings taken =
    let front = take i (map bytes_of payloads) in
    rw (next_bytes payloads i payload within is) (record {
      spellings = settled_more front None spellings payload.bytes taken.next;
      leave = subst (λ records. Leave records catalogue table) (sym (one_more front payload.bytes)) taken.leave;
    })

pub stopped : (payloads : List Payload) (i : ℕ) (payload : Payload) → payloads ≡ placed 8 (map bytes_of payloads) → i < length payloads → payload ≡ get_or payloads i payload
    → AreSpellings (take i (map bytes_of payloads)) None → IsNoNext (map record_from (take i (map bytes_of payloads))) payload.bytes → IsStopped (map bytes_of payloads) payload.offset
stopped payloads i payload places within is spellings bad =
    let settled = map bytes_of payloads in
    record {
      before = take i settled;
      payload = payload.bytes;
      after = drop (i + 1) settled;
      parts = sym (take-append-drop (i + 1) settled) ∙ ap (λ front. front ++ drop (i + 1) settled) (next_bytes payloads i payload within is) ∙ append_assoc (take i settled) (payload.bytes ∷ []) (drop (i + 1) settled);
      spellings = spellings;
      bad = bad;
      place = ap (λ (one : Payload). one.offset) is ∙ ap (λ them. (get_or them i payload).offset) places ∙ placed-offset 8 settled i payload (omega (arith, within, length-map payloads bytes_of));
    }
