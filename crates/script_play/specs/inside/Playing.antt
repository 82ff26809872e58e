-- What a player has done with the bytes that it was fed: from records with which a disk was opened, and from the disk as it was then.
use Rattle.std.specs.Prelude.{◌≡◌, ◌++◌, ◌⊎◌, ℕ, Bool, true, false, List, [], ◌∷◌, map, Option, None, Some, Result, Ok, Err}
use Rattle.aw_lists.specs.Faults.{Rose}
use Rattle.aw_io.specs.Known.{Grows, GrowsByFront}
use Rattle.aw_codec.specs.declared.record.Decoded.{Decoded}
use Rattle.aw_store.specs.StoredRecords.{definitions_of}
use Rattle.aw_store.specs.Stores.{StoreState}
use Rattle.ses_step.specs.Answers.{answer_line, is_refusal}
use Rattle.script_world.specs.Outcomes.{Outcome, faulted, Attempt, all_attempts, attempts_of}
use Rattle.script_world.specs.Script.{open_line, script_lines}
use Rattle.script_world.specs.Worlds.{Event, line, block_ends, script_ends, text_of, ended_events, script_events}
use Rattle.script_meaning.specs.ObjectsSimulation.{objects_at}
use Rattle.script_meaning.specs.StoreAttempts.{StoreHasAttempted}
use Rattle.script_meaning.specs.Language.{is_any, by_objects}
use Rattle.script_meaning.specs.Transcript.{SameRecords, opening_objects}
use Rattle.script_meaning.specs.StoreRuns.{StoreRun}
use Rattle.script_play.specs.declared.world.StoreWorld.{StoreWorld}
use Rattle.script_play.specs.declared.stop.Stop.{Stop}
use Rattle.script_play.specs.declared.stop.Stop.TheVariants.{SinkFault, DiskFault, NoMemory}
use Rattle.script_play.specs.declared.response.Response.{Response}
use Rattle.script_play.specs.Runs.{with_last, last_text, GrowsBehind, FewFaults, defining}
use Rattle.script_play.specs.inside.StoreWorlds.{world_of, IsMade}
use Rattle.script_play.specs.inside.LineSteps.{Later, event_means, IsOfSession, Responds, Wants, FailsToOpen}
use Rattle.script_play.specs.declared.player.Player.{Player}

-- what is written of a response, and whether it is a refusal
abbrev pub said_of : Option Response → List ℕ
said_of None = []
said_of (Some response) = answer_line response.prefix response.answer

abbrev pub refuses_of : Option Response → Bool
refuses_of None = false
refuses_of (Some response) = is_refusal response.answer

-- a response was written, or a front of it
abbrev pub WritesSo : Response → Result Bool Stop → Option (List ℕ) → Option (List ℕ) → Type 0
WritesSo response (Ok refused) before now = (refused ≡ is_refusal response.answer) × Grows before now (answer_line response.prefix response.answer)
WritesSo response (Err SinkFault) before now = GrowsByFront before now (answer_line response.prefix response.answer)
WritesSo response (Err NoMemory) before now = GrowsByFront before now (answer_line response.prefix response.answer)
WritesSo response (Err DiskFault) before now = ⊥

-- the same of an event, which may have no answer
abbrev pub WritesResponse : Option Response → Result Bool Stop → Option (List ℕ) → Option (List ℕ) → Type 0
WritesResponse response (Ok refused) before now = (refused ≡ refuses_of response) × Grows before now (said_of response)
WritesResponse response (Err SinkFault) before now = GrowsByFront before now (said_of response)
WritesResponse response (Err NoMemory) before now = GrowsByFront before now (said_of response)
WritesResponse response (Err DiskFault) before now = ⊥

-- a session's line closes the definitions, and so does the end of a script with any
abbrev pub ClosesWith : {D : Type 0} → StoreWorld (StoreState D) → Event → Type 0
ClosesWith w (line text) = IsOfSession text × (w.open_lines ≡ [])
ClosesWith w block_ends = ⊥
ClosesWith w script_ends = is_any w.drafted ≡ true

-- the world, the bytes of the line that hasn't ended, and whether a line was refused
pub record Play (D : Type 0) : Type 0 where
  pub world : StoreWorld (StoreState D)
  pub line : List ℕ
  pub refused : Bool

module _ {D : Type 0} (faults clock : D → ℕ) (crash : D → ℕ → List ℕ → Type 0) where
  -- ---- one line, or the end of a block

  -- a line was answered, and the answer was written
  pub record Responded (event : Event) (refused : Bool) (old new : StoreWorld (StoreState D)) (before now : Option (List ℕ)) : Type 0 where
    pub response : Option Response
    pub answers : Responds faults clock crash (event_means event) response old new
    pub refuses : refused ≡ refuses_of response
    pub written : Grows before now (said_of response)

  -- a line was answered, and a front of the answer was written
  pub record CutIn (event : Event) (old new : StoreWorld (StoreState D)) (before now : Option (List ℕ)) : Type 0 where
    pub response : Option Response
    pub answers : Responds faults clock crash (event_means event) response old new
    pub written : GrowsByFront before now (said_of response)

  abbrev pub RespondedSo : Event → Result Bool Stop → StoreWorld (StoreState D) → StoreWorld (StoreState D) → Option (List ℕ) → Option (List ℕ) → Type 0
  RespondedSo event (Ok refused) old new before now = Responded event refused old new before now
  RespondedSo event (Err SinkFault) old new before now = CutIn event old new before now
  RespondedSo event (Err NoMemory) old new before now = CutIn event old new before now ⊎ (Wants faults clock crash (event_means event) old new × (now ≡ before))
  RespondedSo event (Err DiskFault) old new before now = FailsToOpen faults clock crash old new × (now ≡ before) × ClosesWith old event

  module _ (records : List Decoded) (at : D) where
    -- ---- lines

    -- how a run stands with its disk: what a crash may leave since it was opened, and the faults
    pub record Stands (coming : List Outcome) (made : List (Attempt Decoded)) (store : StoreState D) : Type 0 where
      pub ends : List ℕ
      pub fares : StoreHasAttempted SameRecords clock crash records made ends (clock at) store
      pub few : FewFaults coming (faults at) (faults store.disk)
      pub later : Later faults clock crash at store.disk

    -- these events were answered
    pub record HasDone (events : List Event) (text : List ℕ) (refused : Bool) (w : StoreWorld (StoreState D)) : Type 0 where
      pub coming : List Outcome
      pub opened : Option Decoded
      pub tried : List (Attempt Decoded)
      pub run : StoreRun [] records events coming opened tried text refused (world_of w)
      pub stands : Stands coming (all_attempts opened tried) w.store
      pub is_made : IsMade opened tried w.store

    -- ---- why a run stopped

    -- The first of these events were answered, and the answers written. Perhaps one more was taken up, and a front of its
    -- answer was written. They made their attempts.
    pub record WasCut (all : List Event) (store : StoreState D) (before now : Option (List ℕ)) : Type 0 where
      pub events : List Event
      pub last : Option Event
      pub rest : List Event
      pub front : all ≡ with_last events last ++ rest
      pub coming : List Outcome
      pub made : List (Attempt Decoded)
      pub attempted : attempts_of (objects_at [] records coming (with_last events last)).shared ≡ made
      pub written : GrowsBehind before now (text_of (by_objects coming) (opening_objects [] records) events) (last_text (by_objects coming) (objects_at [] records coming events) last)
      pub stands : Stands coming made store

    -- The first of these events were answered, and nothing was open then. The next one closes the definitions, and the disk
    -- failed while they were written.
    pub record HasFailed (all : List Event) (store : StoreState D) (before now : Option (List ℕ)) : Type 0 where
      pub events : List Event
      pub next : Event
      pub rest : List Event
      pub front : all ≡ (events ++ next ∷ []) ++ rest
      pub text : List ℕ
      pub refused : Bool
      pub w : StoreWorld (StoreState D)
      pub closes : ClosesWith w next
      pub unopened : definitions_of w.store.records ≡ None
      pub run : StoreRun [] records events [] None [] text refused (world_of w)
      pub stands : Stands [] (defining w.drafted faulted ∷ []) store
      pub rose : Rose (faults at) (faults store.disk)
      pub written : Grows before now text

    abbrev pub HasStopped : Stop → List Event → StoreState D → Option (List ℕ) → Option (List ℕ) → Type 0
    HasStopped SinkFault all store before now = WasCut all store before now
    HasStopped NoMemory all store before now = WasCut all store before now
    HasStopped DiskFault all store before now = HasFailed all store before now

    -- ---- bytes

    -- these bytes were fed, each line that ended in them is answered, and the answers are written
    pub record HasPlayed (taken : List ℕ) (play : Play D) (before now : Option (List ℕ)) : Type 0 where
      pub text : List ℕ
      pub lines : HasDone (ended_events taken) text play.refused play.world
      pub line : play.line ≡ open_line taken
      pub written : Grows before now text

    -- all events of a script were answered
    pub record HasFinished (events : List Event) (refused : Bool) (store : StoreState D) (before now : Option (List ℕ)) : Type 0 where
      pub text : List ℕ
      pub w : StoreWorld (StoreState D)
      pub done_so : HasDone events text refused w
      pub store_is : store ≡ w.store
      pub written : Grows before now text

  -- from one play to the next these bytes were fed
  pub record Feeds (bytes : List ℕ) (old : Play D) (old_written : Option (List ℕ)) (new : Play D) (new_written : Option (List ℕ)) : Type 0 where
    pub plays : (records : List Decoded) (at : D) (taken : List ℕ) (before : Option (List ℕ)) → HasPlayed records at taken old before old_written → HasPlayed records at (taken ++ bytes) new before new_written

  -- while these bytes were fed the play stopped
  pub record StopsIn (stop : Stop) (bytes : List ℕ) (old : Play D) (old_written : Option (List ℕ)) (new : Play D) (new_written : Option (List ℕ)) : Type 0 where
    pub stops : (records : List Decoded) (at : D) (taken : List ℕ) (before : Option (List ℕ)) → HasPlayed records at taken old before old_written → HasStopped records at stop (ended_events (taken ++ bytes)) new.world.store before new_written

  abbrev pub FeedsSo : List ℕ → Result (Unit {0}) Stop → Play D → Option (List ℕ) → Play D → Option (List ℕ) → Type 0
  FeedsSo bytes (Ok nothing) old old_written new new_written = Feeds bytes old old_written new new_written
  FeedsSo bytes (Err stop) old old_written new new_written = StopsIn stop bytes old old_written new new_written

  -- ---- the end of the script

  -- the last line was answered, if there was one
  pub record EndsLines (refused : Bool) (old : Play D) (old_written : Option (List ℕ)) (new : StoreWorld (StoreState D)) (new_written : Option (List ℕ)) : Type 0 where
    pub ends : (records : List Decoded) (at : D) (taken : List ℕ) (before : Option (List ℕ)) → HasPlayed records at taken old before old_written →
        (text : List ℕ) × HasDone records at (map line (script_lines taken)) text refused new × Grows before new_written text

  -- and a definition that was still open
  pub record EndsBlock (refused : Bool) (old : Play D) (old_written : Option (List ℕ)) (new : StoreWorld (StoreState D)) (new_written : Option (List ℕ)) : Type 0 where
    pub ends : (records : List Decoded) (at : D) (taken : List ℕ) (before : Option (List ℕ)) → HasPlayed records at taken old before old_written →
        (text : List ℕ) × HasDone records at (map line (script_lines taken) ++ block_ends ∷ []) text refused new × Grows before new_written text

  pub record Finishes (refused : Bool) (old : Play D) (old_written : Option (List ℕ)) (store : StoreState D) (new_written : Option (List ℕ)) : Type 0 where
    pub finishes : (records : List Decoded) (at : D) (taken : List ℕ) (before : Option (List ℕ)) → HasPlayed records at taken old before old_written → HasFinished records at (script_events taken) refused store before new_written

  pub record StopsAtEnd (stop : Stop) (old : Play D) (old_written : Option (List ℕ)) (store : StoreState D) (new_written : Option (List ℕ)) : Type 0 where
    pub stops : (records : List Decoded) (at : D) (taken : List ℕ) (before : Option (List ℕ)) → HasPlayed records at taken old before old_written → HasStopped records at stop (script_events taken) store before new_written

  abbrev pub EndsLinesSo : Result Bool Stop → Play D → Option (List ℕ) → StoreWorld (StoreState D) → Option (List ℕ) → Type 0
  EndsLinesSo (Ok refused) old old_written new new_written = EndsLines refused old old_written new new_written
  EndsLinesSo (Err stop) old old_written new new_written = StopsAtEnd stop old old_written new.store new_written

  abbrev pub EndsBlockSo : Result Bool Stop → Play D → Option (List ℕ) → StoreWorld (StoreState D) → Option (List ℕ) → Type 0
  EndsBlockSo (Ok refused) old old_written new new_written = EndsBlock refused old old_written new new_written
  EndsBlockSo (Err stop) old old_written new new_written = StopsAtEnd stop old old_written new.store new_written

  abbrev pub FinishesSo : Result Bool Stop → Play D → Option (List ℕ) → StoreState D → Option (List ℕ) → Type 0
  FinishesSo (Ok refused) old old_written store new_written = Finishes refused old old_written store new_written
  FinishesSo (Err stop) old old_written store new_written = StopsAtEnd stop old old_written store new_written

-- ---- a player as a play

abbrev pub play_of : {D : Type 0} → Player (StoreState D) → Play D
play_of player = record { world = player.world; line = player.line.items; refused = player.refused }

-- ---- the play that begins over a store that was just loaded

-- nothing is drafted
abbrev pub opened_world : {D : Type 0} → StoreState D → StoreWorld (StoreState D)
opened_world store = record { drafted = []; open_lines = []; store = store; names = []; sessions = [] }

abbrev pub opened_play : {D : Type 0} → StoreState D → Play D
opened_play store = record { world = opened_world store; line = []; refused = false }
