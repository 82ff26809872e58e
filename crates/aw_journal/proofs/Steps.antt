-- What the writes of an append and of a repair make of each image.
use Rattle.std.proofs.Common.{◌≡◌, ℕ, ◌+◌, ◌<◌, ◌≤◌, ◌^◌, List, [], ◌∷◌, ◌++◌, length, drop, get_or, Option, None, Some, IfSome, refl, sym, ◌∙◌, ap, subst, arith, append_assoc, length-append}
use Rattle.aw_disk.specs.Calls.{Written}
use Rattle.aw_disk.specs.Images.{overwritten, Torn, TornFrom}
use Rattle.aw_journal.specs.Format.{head, frames, size_bytes}
use Rattle.aw_journal.specs.Journal.{AtRest, HalfOpen}
use Rattle.aw_journal.proofs.callers.Frames.{length-size_bytes, length-frames-push, Holds-open}
use Rattle.aw_journal.proofs.Torn.{torn_behind, torn_at, written_behind, written_at}

module _ (settled : List (List ℕ)) (gate : ℕ) (old : List ℕ) where
  abbrev front : List ℕ
  front = head ++ frames settled

  -- a write behind the closed gate, torn or whole
  pub AtRest-torn : (count : ℕ) (image : List ℕ) → AtRest settled gate old → Torn (gate + 1) count old image → AtRest settled gate image
  AtRest-torn count image rests torn =
      let torn_there : Torn (length front + 1) count (front ++ rests.holds.gate ∷ rests.holds.rest) image =
      subst (λ (l : List ℕ). Torn (length front + 1) count l image) rests.holds.bytes (subst (λ (n : ℕ). Torn n count old image) (omega (arith, rests.place)) torn) in
      record {
        holds = record { gate = rests.holds.gate; rest = drop (length front + 1) image; closed = rests.holds.closed; short = rests.holds.short; bytes = torn_behind front rests.holds.gate rests.holds.rest count image torn_there };
        place = rests.place;
        within = rests.within;
      }

  -- a whole frame behind the closed gate
  pub HalfOpen-written : (payload image : List ℕ) → AtRest settled gate old → length payload < 2 ^ 32 → gate + 5 + length payload < 2 ^ 62 →
      image ≡ overwritten old (gate + 1) (size_bytes (length payload) ++ payload ++ 0 ∷ []) → HalfOpen settled payload gate image
  HalfOpen-written payload image rests short fits is =
      let frame = size_bytes (length payload) ++ payload ++ 0 ∷ [] in
      let rest = drop (length frame) rests.holds.rest in
      let at_end : overwritten old (gate + 1) frame ≡ overwritten (front ++ rests.holds.gate ∷ rests.holds.rest) (length front + 1) frame =
      ap (λ (l : List ℕ). overwritten l (gate + 1) frame) rests.holds.bytes
      ∙ ap (λ (n : ℕ). overwritten (front ++ rests.holds.gate ∷ rests.holds.rest) n frame) (omega (arith, rests.place)) in
      record {
        opener = rests.holds.gate;
        next = 0;
        rest = rest;
        closed = omega arith;
        short = (rests.holds.short, short);
        bytes = is ∙ at_end ∙ written_behind front rests.holds.gate rests.holds.rest frame
            ∙ ap (λ (l : List ℕ). front ++ rests.holds.gate ∷ l) (append_assoc (size_bytes (length payload) ++ payload) (0 ∷ []) rest);
        place = rests.place;
        within = fits;
      }

  module _ (payload image : List ℕ) (half : HalfOpen settled payload gate old) where
    abbrev tail : List ℕ
    tail = size_bytes (length payload) ++ payload ++ half.next ∷ half.rest

    place : gate ≡ length front
    place = omega (arith, half.place)

    -- a write of the gate, torn
    pub HalfOpen-torn : Torn gate 1 old image → HalfOpen settled payload gate image
    HalfOpen-torn torn =
        let torn_there : Torn (length front) 1 (front ++ half.opener ∷ tail) image =
        subst (λ (l : List ℕ). Torn (length front) 1 l image) half.bytes (subst (λ (n : ℕ). Torn n 1 old image) place torn) in
        let more = drop (length front + 1 + length tail) image in
        record {
          opener = get_or image (length front) 0;
          next = half.next;
          rest = half.rest ++ more;
          closed = half.closed;
          short = half.short;
          bytes = torn_at front half.opener tail image torn_there
              ∙ ap (λ (l : List ℕ). front ++ get_or image (length front) 0 ∷ l) (append_assoc (size_bytes (length payload) ++ payload) (half.next ∷ half.rest) more);
          place = half.place;
          within = half.within;
        }

    changed : (byte : ℕ) → image ≡ overwritten old gate (byte ∷ []) → image ≡ front ++ byte ∷ tail
    changed byte is =
        is ∙ ap (λ (l : List ℕ). overwritten l gate (byte ∷ [])) half.bytes
        ∙ ap (λ (n : ℕ). overwritten (front ++ half.opener ∷ tail) n (byte ∷ [])) place ∙ written_at front half.opener tail byte

    -- the gate opened
    pub AtRest-opened : image ≡ overwritten old gate (1 ∷ []) → AtRest (settled ++ payload ∷ []) (gate + 5 + length payload) image
    AtRest-opened is = record {
      holds = Holds-open settled payload half.next half.rest image half.closed half.short.0 half.short.1 (changed 1 is);
      place = omega (arith, half.place, length-frames-push settled payload);
      within = half.within;
    }

    -- the gate closed
    pub AtRest-closed : image ≡ overwritten old gate (0 ∷ []) → AtRest settled gate image
    AtRest-closed is = record {
      holds = record { gate = 0; rest = tail; closed = omega arith; short = half.short.0; bytes = changed 0 is };
      place = half.place;
      within = omega (arith, half.within);
    }

-- a write that succeeded, and an image that is the content then
pub record Landed (offset : ℕ) (bytes : List ℕ) (before : Option (List ℕ)) (image : List ℕ) : Type 0 where
  pub old : List ℕ
  pub told : before ≡ Some old
  pub content : image ≡ overwritten old offset bytes
  pub within : offset + length bytes ≤ 2 ^ 62

pub landed : (offset : ℕ) (bytes : List ℕ) (before now : Option (List ℕ)) (image : List ℕ) → Written offset bytes before now → now ≡ Some image → Landed offset bytes before image
landed offset bytes None None image written told = cc
landed offset bytes None (Some now) image written told = absurd written.where_told
landed offset bytes (Some old) None image written told = cc
landed offset bytes (Some old) (Some now) image written told =
    let same : now ≡ image = cc in
    record { old = old; told = refl; content = sym same ∙ written.where_told.content; within = written.where_told.within }

-- a fact of the content where it is told
pub IfSome-each : (content : Option (List ℕ)) (P : List ℕ → Type 0) → ((bytes : List ℕ) → content ≡ Some bytes → P bytes) → IfSome content P
IfSome-each None P each = tt
IfSome-each (Some bytes) P each = each bytes refl

module _ (settled : List (List ℕ)) (gate offset : ℕ) (content : Option (List ℕ)) (images : List ℕ → Type 0)
    (is_an_image : (bytes : List ℕ) → content ≡ Some bytes → images bytes)
    (rests : (image : List ℕ) → images image → AtRest settled gate image)
    (behind : gate < 2 ^ 62 → offset ≡ gate + 1) where
  pub behind-inside : IfSome content (λ bytes. offset ≤ length bytes)
  behind-inside = IfSome-each content (λ bytes. offset ≤ length bytes) (λ bytes told.
      let at = rests bytes (is_an_image bytes told) in
      omega (arith, behind at.within, at.place, ap length at.holds.bytes, length-append (frames settled) (at.holds.gate ∷ at.holds.rest)))

  pub behind-torn : (count : ℕ) (image : List ℕ) → TornFrom offset count images image → AtRest settled gate image
  behind-torn count image from =
      let at = rests from.old from.was in
      AtRest-torn settled gate from.old count image at (subst (λ (n : ℕ). Torn n count from.old image) (behind at.within) from.torn)

  pub behind-written : (payload frame image : List ℕ) → frame ≡ size_bytes (length payload) ++ payload ++ 0 ∷ [] → length payload < 2 ^ 32 →
      Landed offset frame content image → HalfOpen settled payload gate image
  behind-written payload frame image is short land =
      let at = rests land.old (is_an_image land.old land.told) in
      let size : length frame ≡ 5 + length payload =
      omega (arith, ap length is, length-append (size_bytes (length payload) ++ payload) (0 ∷ []), length-append (size_bytes (length payload)) payload, length-size_bytes (length payload)) in
      HalfOpen-written settled gate land.old payload image at short (omega (arith, land.within, behind at.within, size))
      (land.content ∙ ap (λ (n : ℕ). overwritten land.old n frame) (behind at.within) ∙ ap (λ (l : List ℕ). overwritten land.old (gate + 1) l) is)

module _ (settled : List (List ℕ)) (payload : List ℕ) (gate : ℕ) (content : Option (List ℕ)) (images : List ℕ → Type 0)
    (is_an_image : (bytes : List ℕ) → content ≡ Some bytes → images bytes)
    (half : (image : List ℕ) → images image → HalfOpen settled payload gate image) where
  pub gate-inside : IfSome content (λ bytes. gate ≤ length bytes)
  gate-inside = IfSome-each content (λ bytes. gate ≤ length bytes) (λ bytes told.
      let at = half bytes (is_an_image bytes told) in
      omega (arith, at.place, ap length at.bytes, length-append (frames settled) (at.opener ∷ (size_bytes (length payload) ++ payload ++ at.next ∷ at.rest))))

  pub gate-torn : (image : List ℕ) → TornFrom gate 1 images image → HalfOpen settled payload gate image
  gate-torn image from = HalfOpen-torn settled gate from.old payload image (half from.old from.was) from.torn

  pub gate-opened : (image : List ℕ) → Landed gate (1 ∷ []) content image → AtRest (settled ++ payload ∷ []) (gate + 5 + length payload) image
  gate-opened image land = AtRest-opened settled gate land.old payload image (half land.old (is_an_image land.old land.told)) land.content

  pub gate-closed : (image : List ℕ) → Landed gate (0 ∷ []) content image → AtRest settled gate image
  gate-closed image land = AtRest-closed settled gate land.old payload image (half land.old (is_an_image land.old land.told)) land.content
