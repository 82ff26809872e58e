-- What a crash leaves of a run on a store is what the same events settle with other outcomes of their commits, and it opens.
use Rattle.std.specs.Prelude.{ℕ, List}
use Rattle.aw_codec.specs.declared.record.Decoded.{Decoded}
use Rattle.script_world.specs.Worlds.{Event}
use Rattle.script_world.specs.Outcomes.{Outcome, among, MayLeave}
use Rattle.script_world.specs.SettledRuns.{LeavesARun}
use Rattle.script_meaning.specs.Language.{store_writing, history_machine}
use Rattle.aw_store.specs.StoredRecords.{CanBeOpened}
use Rattle.script_meaning.specs.Transcript.{SameRecords, opening, attempts}

abbrev pub LeavesARunOf : List (List ℕ) → List Decoded → List Outcome → List Event → Type 0
LeavesARunOf names records coming events =
    LeavesARun store_writing history_machine SameRecords records (opening names records) (among coming) events

-- it can be opened, where the records that were there can
abbrev pub LeavesWhatOpens : List (List ℕ) → List Decoded → List Outcome → List Event → Type 0
LeavesWhatOpens names records coming events =
    (ended : ℕ) (left : List Decoded) → MayLeave SameRecords ended records (attempts names records coming events) left → CanBeOpened left
