-- Each row of bytes reads in one way.
use Rattle.std.specs.Prelude.{◌≡◌, ◌⊎◌, ℕ, List}
use Rattle.aw_journal.specs.Format.{Holds, IsUnformatted, CutShort}

-- the image is unformatted, or holds payloads, or is cut short
abbrev pub Reads : List ℕ → Type 0
Reads image = IsUnformatted image ⊎ (((payloads : List (List ℕ)) × Holds image payloads) ⊎ ((offset : ℕ) × CutShort image offset))

-- the image is only one of these, with one list of payloads or at one offset
pub record ReadsOneWay (image : List ℕ) : Type 0 where
  pub unformatted_or_holds : (payloads : List (List ℕ)) → IsUnformatted image → Holds image payloads → ⊥
  pub unformatted_or_cut : (offset : ℕ) → IsUnformatted image → CutShort image offset → ⊥
  pub holds_or_cut : (payloads : List (List ℕ)) (offset : ℕ) → Holds image payloads → CutShort image offset → ⊥
  pub payloads : (payloads others : List (List ℕ)) → Holds image payloads → Holds image others → payloads ≡ others
  pub offset : (offset other : ℕ) → CutShort image offset → CutShort image other → offset ≡ other
