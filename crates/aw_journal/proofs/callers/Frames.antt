-- What images hold by their bytes.
use Rattle.std.proofs.Common.{◌≡◌, ◌≢◌, ℕ, ◌+◌, ◌-◌, ◌<◌, ◌^◌, List, [], ◌∷◌, ◌++◌, length, take, drop, Some, inl, inr, refl, sym, ◌∙◌, ap, subst, arith, append_assoc, length-append}
use Rattle.std.proofs.lemmas.Bool.{cases_eq}
use Rattle.std.proofs.lemmas.List.{append-nil, take_at, drop_at}
use Rattle.std.proofs.lemmas.Nat.{from_be_bytes-to_be_bytes_4}
use Rattle.std.specs.Int.{from_be_bytes, w32}
use Rattle.aw_journal.specs.Format.{head, frames, size_bytes, AreShort, Holds}
use Rattle.aw_journal.specs.CrashPayloads.{Left}
use Rattle.aw_journal.specs.Journal.{framed, HalfOpen}

pub length-size_bytes : (size : ℕ) → length (size_bytes size) ≡ 4
unfolding size_bytes
length-size_bytes size = refl

pub size-read : (size : ℕ) → size < 2 ^ 32 → from_be_bytes w32 (size_bytes size) ≡ size
unfolding size_bytes
size-read size short = from_be_bytes-to_be_bytes_4 size short

-- a frame more, and what stands behind it
pub frames-push : (payloads : List (List ℕ)) (payload rest : List ℕ) →
    frames (payloads ++ payload ∷ []) ++ rest ≡ frames payloads ++ 1 ∷ (size_bytes (length payload) ++ payload ++ rest)
frames-push [] payload rest = ap (λ (l : List ℕ). 1 ∷ (l ++ rest)) (append-nil (size_bytes (length payload) ++ payload))
frames-push (first ∷ payloads) payload rest =
    ap (λ (l : List ℕ). 1 ∷ l)
    (append_assoc (size_bytes (length first) ++ first) (frames (payloads ++ payload ∷ [])) rest
    ∙ ap (λ (l : List ℕ). (size_bytes (length first) ++ first) ++ l) (frames-push payloads payload rest)
    ∙ sym (append_assoc (size_bytes (length first) ++ first) (frames payloads) (1 ∷ (size_bytes (length payload) ++ payload ++ rest))))

pub length-frames-push : (payloads : List (List ℕ)) (payload : List ℕ) → length (frames (payloads ++ payload ∷ [])) ≡ length (frames payloads) + 5 + length payload
length-frames-push payloads payload =
    omega (
      arith,
      ap length (frames-push payloads payload []),
      length-append (frames (payloads ++ payload ∷ [])) [],
      length-append (frames payloads) (1 ∷ (size_bytes (length payload) ++ payload ++ [])),
      length-append (size_bytes (length payload) ++ payload) [],
      length-append (size_bytes (length payload)) payload,
      length-size_bytes (length payload),
    )

pub AreShort-push : (payloads : List (List ℕ)) (payload : List ℕ) → AreShort payloads → length payload < 2 ^ 32 → AreShort (payloads ++ payload ∷ [])
AreShort-push [] payload all short = (short, tt)
AreShort-push (first ∷ payloads) payload all short = (all.0, AreShort-push payloads payload all.1 short)

-- a whole frame behind the gate counts where the gate is open
pub Holds-open : (payloads : List (List ℕ)) (payload : List ℕ) (next : ℕ) (rest image : List ℕ) → next ≢ 1 → AreShort payloads → length payload < 2 ^ 32 →
    image ≡ head ++ frames payloads ++ 1 ∷ (size_bytes (length payload) ++ payload ++ next ∷ rest) → Holds image (payloads ++ payload ∷ [])
Holds-open payloads payload next rest image closed all short is = record {
  gate = next;
  rest = rest;
  closed = closed;
  short = AreShort-push payloads payload all short;
  bytes = is ∙ ap (λ (l : List ℕ). head ++ l) (sym (frames-push payloads payload (next ∷ rest)));
}

pub HalfOpen-left : (settled : List (List ℕ)) (payload : List ℕ) (gate : ℕ) (image : List ℕ) → HalfOpen settled payload gate image → Left settled (Some payload) image
HalfOpen-left settled payload gate image half =
    elim (cases_eq half.opener 1) [
      | inl opened ↦
          inr (Holds-open settled payload half.next half.rest image half.closed half.short.0 half.short.1
          (half.bytes ∙ ap (λ (byte : ℕ). head ++ frames settled ++ byte ∷ (size_bytes (length payload) ++ payload ++ half.next ∷ half.rest)) opened))
      | inr shut ↦
          inl (record { gate = half.opener; rest = size_bytes (length payload) ++ payload ++ half.next ∷ half.rest; closed = shut; short = half.short.0; bytes = half.bytes })
    ]

-- the payload of the frame that an append writes
pub framed-frame : (payload frame : List ℕ) → frame ≡ size_bytes (length payload) ++ payload ++ 0 ∷ [] → framed frame ≡ payload
framed-frame payload frame is = subst (λ (l : List ℕ). framed l ≡ payload) (sym is) whole
  where
    behind : drop 4 (size_bytes (length payload) ++ payload ++ 0 ∷ []) ≡ payload ++ 0 ∷ []
    behind = ap (λ (l : List ℕ). drop 4 l) (append_assoc (size_bytes (length payload)) payload (0 ∷ [])) ∙ drop_at (size_bytes (length payload)) (payload ++ 0 ∷ []) 4 (length-size_bytes (length payload))

    size : length (size_bytes (length payload) ++ payload ++ 0 ∷ []) - 5 ≡ length payload
    size = omega (arith, length-append (size_bytes (length payload) ++ payload) (0 ∷ []), length-append (size_bytes (length payload)) payload, length-size_bytes (length payload))

    whole : framed (size_bytes (length payload) ++ payload ++ 0 ∷ []) ≡ payload
    whole =
        ap (λ (l : List ℕ). take (length (size_bytes (length payload) ++ payload ++ 0 ∷ []) - 5) l) behind
        ∙ ap (λ (n : ℕ). take n (payload ++ 0 ∷ [])) size ∙ take_at payload (0 ∷ []) (length payload) refl
