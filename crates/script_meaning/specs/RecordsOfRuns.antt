-- What is acknowledged is what the disk will be opened to: the commits of a world are those of the records that were there
-- when the disk was opened, and then of the attempts that were done.
use Rattle.std.specs.Prelude.{◌≡◌, ◌++◌, ℕ, List, [], ◌∷◌, None, Some, unwrap_or}
use Rattle.std.specs.Option.{ForSome}
use Rattle.aw_schema.specs.declared.definition.Def.{Def}
use Rattle.aw_codec.specs.declared.record.Decoded.{Decoded}
use Rattle.mv_core.specs.Workspace.{Workspace}
use Rattle.aw_store.specs.StoredRecords.{definitions_of, commits_of, workspace_of, CanBeOpened}
use Rattle.script_world.specs.Worlds.{Event, script_ends}
use Rattle.script_world.specs.Outcomes.{Outcome, settled_records}
use Rattle.script_meaning.specs.Language.{HistoryDisk}
use Rattle.script_meaning.specs.Transcript.{world_at, attempts}

-- these records stand for this shared state over these definitions
pub record StandFor (records : List Decoded) (definitions : List Def) (state : Workspace) : Type 0 where
  pub definitions_are : definitions_of records ≡ Some definitions
  pub commits : commits_of records ≡ state.history
  pub workspace : workspace_of records state.owners ≡ state

-- of the events so far
pub record RecordsMatch (names : List (List ℕ)) (records : List Decoded) (coming : List Outcome) (events : List Event) : Type 0 where
  pub can_be_opened : CanBeOpened (settled_records records (attempts names records coming events))
  pub stand_for : ForSome (world_at names records coming events).shared (λ disk. StandFor (settled_records records (attempts names records coming events)) (world_at names records coming events).definitions disk.state)
  pub unopened : (world_at names records coming events).shared ≡ None → settled_records records (attempts names records coming events) ≡ []

-- and of a script that has ended: its definitions are among the records
abbrev pub EndMatches : List (List ℕ) → List Decoded → List Outcome → List Event → Type 0
EndMatches names records coming events =
    let all = events ++ script_ends ∷ [] in
    unwrap_or (definitions_of (settled_records records (attempts names records coming all))) [] ≡ (world_at names records coming all).definitions

-- the commits and the owners are the same
abbrev pub SameState : HistoryDisk → HistoryDisk → Type 0
SameState before after = after.state ≡ before.state
