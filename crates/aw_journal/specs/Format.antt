-- The journal's format. A disk begins with the head and a gate byte. A frame is an open gate, the
-- payload's length as four bytes, the highest first, and the payload; behind it stands the next gate
-- byte. Gate 1 is open, any other value is closed. The payloads are those of the frames up to the
-- first closed gate, and bytes behind it mean nothing.
use Rattle.std.specs.Prelude.{◌≡◌, ◌≢◌, ◌⊎◌, ℕ, ◌+◌, ◌<◌, ◌≤◌, ◌^◌, List, [], ◌∷◌, ◌++◌, length, take}
use Rattle.std.specs.Int.{to_be_bytes, from_be_bytes, w32}
use Rattle.aw_journal.specs.declared.payload.Payload.{Payload}

-- OLAPMW1 and a line feed
abbrev pub head : List ℕ
head = 79 ∷ 76 ∷ 65 ∷ 80 ∷ 77 ∷ 87 ∷ 49 ∷ 10 ∷ []

-- a length as four bytes, the highest first
unfoldable pub size_bytes : ℕ → List ℕ
size_bytes size = to_be_bytes w32 size

-- the frames of these payloads, each behind its open gate
abbrev pub frames : List (List ℕ) → List ℕ
frames [] = []
frames (payload ∷ payloads) = 1 ∷ size_bytes (length payload) ++ payload ++ frames payloads

-- four bytes can say the length of each payload
abbrev pub AreShort : List (List ℕ) → Type 0
AreShort [] = Unit {0}
AreShort (payload ∷ payloads) = (length payload < 2 ^ 32) × AreShort payloads

-- the image holds these payloads
pub record Holds (image : List ℕ) (payloads : List (List ℕ)) : Type 0 where
  pub gate : ℕ
  pub rest : List ℕ
  pub closed : gate ≢ 1
  pub short : AreShort payloads
  pub bytes : image ≡ head ++ frames payloads ++ gate ∷ rest

-- the image is no disk of this format
abbrev pub IsUnformatted : List ℕ → Type 0
IsUnformatted image = (length image < 9) ⊎ (take 8 image ≢ head)

-- the frame whose gate is at this offset is open, and the image ends inside it or before its next gate
pub record CutShort (image : List ℕ) (offset : ℕ) : Type 0 where
  pub payloads : List (List ℕ)
  pub rest : List ℕ
  pub short : AreShort payloads
  pub bytes : image ≡ head ++ frames payloads ++ 1 ∷ rest
  pub place : offset ≡ 8 + length (frames payloads)
  pub cut : (length rest < 4) ⊎ (length rest < 4 + from_be_bytes w32 (take 4 rest) + 1)

-- the payloads with the offsets of their gates, the first at this one
abbrev pub placed : ℕ → List (List ℕ) → List Payload
placed offset [] = []
placed offset (payload ∷ payloads) = record { offset = offset; bytes = payload } ∷ placed (offset + 5 + length payload) payloads

-- the image has the head and a gate
pub record IsFormatted (image : List ℕ) : Type 0 where
  pub long : 9 ≤ length image
  pub same : take 8 image ≡ head
