-- Each row of bytes reads in one way.
use Rattle.std.proofs.Common.{◌≡◌, ◌≢◌, ◌⊎◌, ℕ, ◌+◌, ◌<◌, ◌≤◌, ◌^◌, List, [], ◌∷◌, ◌++◌, length, take, drop, ⊎_elim, refl, sym, ◌∙◌, ap, arith, append_assoc, length-append}
use Rattle.std.proofs.lemmas.List.{append_cancel_left, take_at, drop_at}
use Rattle.std.specs.Int.{from_be_bytes, w32}
use Rattle.aw_journal.specs.Format.{head, frames, size_bytes, AreShort, IsUnformatted}
use Rattle.aw_journal.specs.Laws.{ReadsOneWay}
use Rattle.aw_journal.proofs.callers.Frames.{length-size_bytes, size-read}

-- no whole frame begins here, and there is at least a gate
record Ends (tail : List ℕ) : Type 0 where
  some : 1 ≤ length tail
  no_frame : (payload more : List ℕ) → length payload < 2 ^ 32 → 1 ≤ length more → tail ≡ 1 ∷ (size_bytes (length payload) ++ payload ++ more) → ⊥

first_of : {one other : ℕ} {rest more : List ℕ} → one ∷ rest ≡ other ∷ more → one ≡ other
first_of same = cc

rest_of : {one other : ℕ} {rest more : List ℕ} → one ∷ rest ≡ other ∷ more → rest ≡ more
rest_of same = cc

Ends-closed : (gate : ℕ) (rest : List ℕ) → gate ≢ 1 → Ends (gate ∷ rest)
Ends-closed gate rest closed = record { some = omega arith; no_frame = λ payload more short some same. closed (first_of same) }

Ends-cut : (rest : List ℕ) → (length rest < 4) ⊎ (length rest < 4 + from_be_bytes w32 (take 4 rest) + 1) → Ends (1 ∷ rest)
Ends-cut rest cut = record { some = omega arith; no_frame = λ payload more short some same. whole payload more short some (rest_of same) cut }
  where
    whole : (payload more : List ℕ) → length payload < 2 ^ 32 → 1 ≤ length more → rest ≡ size_bytes (length payload) ++ payload ++ more →
        (length rest < 4) ⊎ (length rest < 4 + from_be_bytes w32 (take 4 rest) + 1) → ⊥
    whole payload more short some is cut =
        let long : length rest ≡ 4 + length payload + length more =
        omega (arith, ap length is, length-append (size_bytes (length payload) ++ payload) more, length-append (size_bytes (length payload)) payload, length-size_bytes (length payload)) in
        let said : from_be_bytes w32 (take 4 rest) ≡ length payload =
        ap (λ (l : List ℕ). from_be_bytes w32 (take 4 l)) (is ∙ append_assoc (size_bytes (length payload)) payload more)
        ∙ ap (λ (l : List ℕ). from_be_bytes w32 l) (take_at (size_bytes (length payload)) (payload ++ more) 4 (length-size_bytes (length payload)))
        ∙ size-read (length payload) short in
        ⊎_elim (λ few. omega (arith, few, long)) (λ few. omega (arith, few, long, said, some)) cut

-- two frames that begin one row of bytes
frame_same : (one other more less : List ℕ) → length one < 2 ^ 32 → length other < 2 ^ 32 →
    size_bytes (length one) ++ one ++ more ≡ size_bytes (length other) ++ other ++ less → (one ≡ other) × (more ≡ less)
frame_same one other more less short shorter same =
    let grouped = sym (append_assoc (size_bytes (length one)) one more) ∙ same ∙ append_assoc (size_bytes (length other)) other less in
    let sizes : size_bytes (length one) ≡ size_bytes (length other) =
    sym (take_at (size_bytes (length one)) (one ++ more) 4 (length-size_bytes (length one)))
    ∙ ap (λ (l : List ℕ). take 4 l) grouped ∙ take_at (size_bytes (length other)) (other ++ less) 4 (length-size_bytes (length other)) in
    let long : length one ≡ length other =
    sym (size-read (length one) short) ∙ ap (λ (l : List ℕ). from_be_bytes w32 l) sizes ∙ size-read (length other) shorter in
    let behind : one ++ more ≡ other ++ less =
    sym (drop_at (size_bytes (length one)) (one ++ more) 4 (length-size_bytes (length one)))
    ∙ ap (λ (l : List ℕ). drop 4 l) grouped ∙ drop_at (size_bytes (length other)) (other ++ less) 4 (length-size_bytes (length other)) in (
      sym (take_at one more (length one) refl) ∙ ap (λ (l : List ℕ). take (length one) l) behind ∙ take_at other less (length one) (sym long),
      sym (drop_at one more (length one) refl) ∙ ap (λ (l : List ℕ). drop (length one) l) behind ∙ drop_at other less (length one) (sym long),
    )

frames_same : (payloads others : List (List ℕ)) (tail end : List ℕ) → AreShort payloads → AreShort others → Ends tail → Ends end →
    frames payloads ++ tail ≡ frames others ++ end → (payloads ≡ others) × (tail ≡ end)
frames_same [] [] tail end short shorter ends last same = (refl, same)
frames_same [] (other ∷ others) tail end short shorter ends last same =
    absurd (ends.no_frame other (frames others ++ end) shorter.0 (omega (arith, last.some, length-append (frames others) end))
    (same ∙ ap (λ (l : List ℕ). 1 ∷ l) (append_assoc (size_bytes (length other) ++ other) (frames others) end)))
frames_same (payload ∷ payloads) [] tail end short shorter ends last same =
    absurd (last.no_frame payload (frames payloads ++ tail) short.0 (omega (arith, ends.some, length-append (frames payloads) tail))
    (sym same ∙ ap (λ (l : List ℕ). 1 ∷ l) (append_assoc (size_bytes (length payload) ++ payload) (frames payloads) tail)))
frames_same (payload ∷ payloads) (other ∷ others) tail end short shorter ends last same =
    let first = frame_same payload other (frames payloads ++ tail) (frames others ++ end) short.0 shorter.0
    (sym (append_assoc (size_bytes (length payload) ++ payload) (frames payloads) tail) ∙ rest_of same ∙ append_assoc (size_bytes (length other) ++ other) (frames others) end) in
    let later = frames_same payloads others tail end short.1 shorter.1 ends last first.1 in
    (cons_same payload other payloads others first.0 later.0, later.1)
  where
    cons_same : (one other : List ℕ) (more less : List (List ℕ)) → one ≡ other → more ≡ less → one ∷ more ≡ other ∷ less
    cons_same one other more less first later = cc

formatted : (image : List ℕ) (payloads : List (List ℕ)) (tail : List ℕ) → image ≡ head ++ frames payloads ++ tail → 1 ≤ length tail → IsUnformatted image → ⊥
formatted image payloads tail is some =
    ⊎_elim (λ few. omega (arith, few, ap length is, length-append (frames payloads) tail, some)) (λ other. other (ap (λ (l : List ℕ). take 8 l) is))

pub reads_one_way : (image : List ℕ) → ReadsOneWay image
reads_one_way image = record {
  unformatted_or_holds = λ payloads other holds. formatted image payloads (holds.gate ∷ holds.rest) holds.bytes (omega arith) other;
  unformatted_or_cut = λ offset other cut. formatted image cut.payloads (1 ∷ cut.rest) cut.bytes (omega arith) other;
  holds_or_cut = λ payloads offset holds cut.
      let same = frames_same payloads cut.payloads (holds.gate ∷ holds.rest) (1 ∷ cut.rest) holds.short cut.short (Ends-closed holds.gate holds.rest holds.closed) (Ends-cut cut.rest cut.cut)
      (append_cancel_left head _ _ (sym holds.bytes ∙ cut.bytes)) in
      holds.closed (first_of same.1);
  payloads = λ payloads others holds again.
      (frames_same payloads others (holds.gate ∷ holds.rest) (again.gate ∷ again.rest) holds.short again.short (Ends-closed holds.gate holds.rest holds.closed) (Ends-closed again.gate again.rest again.closed)
      (append_cancel_left head _ _ (sym holds.bytes ∙ again.bytes))).0;
  offset = λ offset other cut again.
      let same = frames_same cut.payloads again.payloads (1 ∷ cut.rest) (1 ∷ again.rest) cut.short again.short (Ends-cut cut.rest cut.cut) (Ends-cut again.rest again.cut)
      (append_cancel_left head _ _ (sym cut.bytes ∙ again.bytes)) in
      cut.place ∙ ap (λ (payloads : List (List ℕ)). 8 + length (frames payloads)) same.0 ∙ sym again.place;
}
