-- The attempts that the calls of a store make, and how they ended.
use Rattle.std.specs.Prelude.{ℕ, Bool, true, false, List, [], ◌∷◌, ◌≡◌, ◌≤◌, length, Option}
use Rattle.std.specs.Option.{ForSome}
use Rattle.aw_codec.specs.declared.record.Decoded.{Decoded}
use Rattle.mv_core.specs.declared.entry.Entry.{Entry}
use Rattle.mv_core.specs.declared.entry.Reply.{Reply}
use Rattle.mv_core.specs.declared.entry.Reply.TheVariants.{Fault}
use Rattle.mv_core.specs.SharedStep.{writes}
use Rattle.aw_store.specs.Stores.{record_of, StoreState}
use Rattle.script_world.specs.Outcomes.{Outcome, done, faulted, Attempt, settled_records, IsInDoubt}
use Rattle.script_meaning.specs.Transcript.{Rise, ended_by, HoldsLeft}

-- the outcomes that a reply to an entry tells: that of the commit, where it reached the disk
abbrev pub done_where : Bool → List Outcome
done_where true = done ∷ []
done_where false = []

abbrev pub outcomes_told : Entry → Reply → List Outcome
outcomes_told entry Fault = faulted ∷ []
outcomes_told entry reply = done_where (writes entry reply)

-- the attempts to write this record that ended so
abbrev pub attempts_ended : Decoded → List Outcome → List (Attempt Decoded)
attempts_ended attempted [] = []
attempts_ended attempted (outcome ∷ outcomes) = (record { attempted = attempted; outcome = outcome }) ∷ attempts_ended attempted outcomes

abbrev pub act_attempts : Entry → Reply → List (Attempt Decoded)
act_attempts entry reply = attempts_ended (record_of entry) (outcomes_told entry reply)

-- the moment at which each of these attempts ended
abbrev pub ends_at : ℕ → List (Attempt Decoded) → List ℕ
ends_at moment [] = []
ends_at moment (attempt ∷ made) = moment ∷ ends_at moment made

-- ---- what the attempts of a run do to its disk

-- lists of records are compared by an argument
module _ (Same : List Decoded → List Decoded → Type 0) where
  -- A disk was opened with records, at a moment; these attempts were made, and each ended at one of these moments. Now these
  -- records are settled, and one may be in doubt. What a crash leaves at a moment since then, by the attempts that ended by then.
  pub record HasAttempted (opened : List Decoded) (made : List (Attempt Decoded)) (ends : List ℕ) (start now : ℕ) (crash : ℕ → List ℕ → Type 0) (records : List Decoded) (doubt : Option Decoded) : Type 0 where
    pub are_settled : Same records (settled_records opened made)
    pub in_doubt : ForSome doubt (IsInDoubt made)
    pub as_many : length ends ≡ length made
    pub rise : Rise start ends now
    pub each : (moment : ℕ) (image : List ℕ) → start ≤ moment → moment ≤ now → crash moment image → HoldsLeft Same opened made (ended_by moment ends) image

  -- of a store on a disk with this clock and these images
  abbrev pub StoreHasAttempted : {D : Type 0} → (D → ℕ) → (D → ℕ → List ℕ → Type 0) → List Decoded → List (Attempt Decoded) → List ℕ → ℕ → StoreState D → Type 0
  StoreHasAttempted clock crash opened made ends start store =
      HasAttempted opened made ends start (clock store.disk) (crash store.disk) store.records store.doubt
