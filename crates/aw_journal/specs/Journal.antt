-- A journal between two calls.
use Rattle.std.specs.Prelude.{◌≡◌, ◌≢◌, ◌+◌, ◌-◌, ◌<◌, ◌^◌, ℕ, Bool, true, false, List, ◌∷◌, ◌++◌, length, take, drop, Option, None, Some}
use Rattle.aw_journal.specs.Format.{head, frames, size_bytes, AreShort, Holds}
use Rattle.aw_journal.specs.declared.doubt.Doubt.{Doubt}
use Rattle.aw_journal.specs.declared.doubt.Doubt.TheVariants.{Settled, Closed, Opening}

-- the disk; the settled payloads; the payload in doubt after an append that failed; whether that
-- append had begun to open its gate; up to how many bytes of a payload there is memory for
pub record JournalState (D : Type 0) : Type 0 where
  pub disk : D
  pub settled : List (List ℕ)
  pub doubt : Option (List ℕ)
  pub opening : Bool
  pub reserved : ℕ

-- the payload of a frame with its length in front and the next gate behind
abbrev pub framed : List ℕ → List ℕ
framed frame = take (length frame - 5) (drop 4 frame)

abbrev pub doubtful : Doubt → List ℕ → Option (List ℕ)
doubtful Settled frame = None
doubtful Closed frame = Some (framed frame)
doubtful Opening frame = Some (framed frame)

abbrev pub is_opening : Doubt → Bool
is_opening Settled = false
is_opening Closed = false
is_opening Opening = true

-- the image holds the settled payloads, and the journal's gate is the closed one behind them
pub record AtRest (settled : List (List ℕ)) (gate : ℕ) (image : List ℕ) : Type 0 where
  pub holds : Holds image settled
  pub place : gate ≡ 8 + length (frames settled)
  pub within : gate < 2 ^ 62

-- a whole frame and a closed gate stand behind the journal's gate, which may be open or closed
pub record HalfOpen (settled : List (List ℕ)) (payload : List ℕ) (gate : ℕ) (image : List ℕ) : Type 0 where
  pub opener : ℕ
  pub next : ℕ
  pub rest : List ℕ
  pub closed : next ≢ 1
  pub short : AreShort settled × (length payload < 2 ^ 32)
  pub bytes : image ≡ head ++ frames settled ++ opener ∷ (size_bytes (length payload) ++ payload ++ next ∷ rest)
  pub place : gate ≡ 8 + length (frames settled)
  pub within : gate + 5 + length payload < 2 ^ 62

-- what a crash may leave of a journal
abbrev pub Stands : Doubt → List (List ℕ) → List ℕ → ℕ → List ℕ → Type 0
Stands Settled settled frame gate image = AtRest settled gate image
Stands Closed settled frame gate image = AtRest settled gate image
Stands Opening settled frame gate image = HalfOpen settled (framed frame) gate image
