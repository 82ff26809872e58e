-- The transcript of a script on a disk: each event's answer, in order, each in the world that the events before it left.
use Rattle.std.specs.Prelude.{ℕ, Bool, List, [], ◌≤◌, ◌∷◌, nat_le}
use Rattle.std.specs.List.{count_by}
use Rattle.aw_codec.specs.declared.record.Decoded.{Decoded}
use Rattle.aw_store.specs.StoredRecords.{definitions_of, workspace_of, stood_by, HoldsRecords}
use Rattle.script_world.specs.Worlds.{Event, text_of, any_refused, world_after, ended_events, script_events}
use Rattle.script_world.specs.Outcomes as disk
use Rattle.script_world.specs.Outcomes.{Outcome, Attempt, attempts_of, AreEqual, MayLeave}
use Rattle.script_meaning.specs.Language.{HistoryWorld, ObjectsWorld, by_history}

-- The world in which a disk with these records is opened: without a record of definitions nothing is defined and nothing is
-- open. These names of sessions are known before.
abbrev pub opening : List (List ℕ) → List Decoded → HistoryWorld
opening names records = disk.opening names (definitions_of records) (workspace_of records [])

-- the same over the objects as these commits leave them
abbrev pub opening_objects : List (List ℕ) → List Decoded → ObjectsWorld
opening_objects names records = disk.opening names (definitions_of records) (stood_by records [])

-- what the whole script is answered, and whether a line of it is refused
abbrev pub transcript : List (List ℕ) → List Decoded → List Outcome → List ℕ → List ℕ
transcript names records coming script = text_of (by_history coming) (opening names records) (script_events script)

abbrev pub has_refusal : List (List ℕ) → List Decoded → List Outcome → List ℕ → Bool
has_refusal names records coming script = any_refused (by_history coming) (opening names records) (script_events script)

-- what the lines that ended are answered
abbrev pub ended_transcript : List (List ℕ) → List Decoded → List Outcome → List ℕ → List ℕ
ended_transcript names records coming bytes = text_of (by_history coming) (opening names records) (ended_events bytes)

-- the world after these events
abbrev pub world_at : List (List ℕ) → List Decoded → List Outcome → List Event → HistoryWorld
world_at names records coming events = world_after (by_history coming) (opening names records) events

-- the records that these events were to write
abbrev pub attempts : List (List ℕ) → List Decoded → List Outcome → List Event → List (Attempt Decoded)
attempts names records coming events = attempts_of (world_at names records coming events).shared

-- ---- when two lists of records are the same

abbrev pub SameRecords : List Decoded → List Decoded → Type 0
SameRecords one other = AreEqual one other

-- ---- what a crash leaves at a moment of the run
-- moments that never fall, none before the first of these two and none after the other
abbrev pub Rise : ℕ → List ℕ → ℕ → Type 0
Rise least [] last = least ≤ last
Rise least (moment ∷ moments) last = (least ≤ moment) × Rise moment moments last

-- how many of these are at most that moment
abbrev pub ended_by : ℕ → List ℕ → ℕ
ended_by moment ends = count_by (λ end. nat_le end moment) ends

-- lists of records are compared by an argument
module _ (Same : List Decoded → List Decoded → Type 0) where
  -- the image holds records that may be left after so many of these attempts
  pub record HoldsLeft (opened : List Decoded) (made : List (Attempt Decoded)) (ended : ℕ) (image : List ℕ) : Type 0 where
    pub records : List Decoded
    pub holds : HoldsRecords image records
    pub may_leave : MayLeave Same ended opened made records
