-- What the parts of the answer to a line do to a store and to a run, whatever the run did before.
use Rattle.std.specs.Prelude.{◌≡◌, ◌≢◌, ◌≤◌, ◌<◌, ◌++◌, ◌⊎◌, ◌↔◌, ℕ, List, [], ◌∷◌, length, Option, None, Some, Result, Ok, Err, slice_set}
use Rattle.aw_lists.specs.Faults.{Rose}
use Rattle.aw_schema.specs.declared.definition.Def.{Def}
use Rattle.aw_body.specs.KeptBodies.{bodies_of}
use Rattle.aw_codec.specs.declared.record.Decoded.{Decoded}
use Rattle.mv_core.specs.declared.entry.Entry.{Entry}
use Rattle.mv_core.specs.declared.entry.Reply.{Reply}
use Rattle.mv_core.specs.Workspace.{table_of, opened as just_opened}
use Rattle.aw_store.specs.StoredRecords.{definitions_of}
use Rattle.aw_store.specs.Stores.{StoreState}
use Rattle.ses_step.specs.declared.answer.Answer.{Answer}
use Rattle.ses_step.specs.declared.line.LineForm.TheVariants as line
use Rattle.ses_step.specs.declared.session.Known.{Known}
use Rattle.ses_step.specs.declared.session.Session.{Session}
use Rattle.ses_step.specs.Lines.{line_form}
use Rattle.ses_step.specs.Sessions.{Sees, finished}
use Rattle.script_world.specs.Outcomes.{Outcome, done, faulted, Attempt, on_disk, all_attempts, attempts_of}
use Rattle.script_world.specs.LearntOutcomes.{Tells}
use Rattle.script_world.specs.Meaning.{Form}
use Rattle.script_world.specs.Worlds as script
use Rattle.script_world.specs.Worlds.{Machine, Event, Answered, session_place, with_session, commanded, shared_of, closed, session_planned, form_planned, settled, answered}
use Rattle.script_meaning.specs.StoreAttempts.{StoreHasAttempted}
use Rattle.script_meaning.specs.Language.{language, Written, store_writing, objects_machine, ObjectsDisk, ObjectsWorld}
use Rattle.script_meaning.specs.Transcript.{SameRecords}
use Rattle.script_meaning.specs.StoreRuns.{store_disk}
use Rattle.script_meaning.specs.Turns.{line_turn}
use Rattle.script_play.specs.declared.world.StoreWorld.{StoreWorld}
use Rattle.script_play.specs.declared.stop.Stop.{Stop}
use Rattle.script_play.specs.declared.stop.Stop.TheVariants.{SinkFault, DiskFault, NoMemory}
use Rattle.script_play.specs.declared.response.Response.{Response}
use Rattle.script_play.specs.inside.StoreWorlds.{definitions_in, own_known, on_machine, IsMade, IsSound, answered_by}
use Rattle.script_play.specs.Runs.{FewFaults, defining}

-- the store has definitions
abbrev pub IsOpen : {D : Type 0} → StoreState D → Type 0
IsOpen store = (definitions : List Def) × (definitions_of store.records ≡ Some definitions)

-- a line under a session's name
pub record IsOfSession (text : List ℕ) : Type 0 where
  pub name : List ℕ
  pub from : ℕ
  pub is : line_form text ≡ line.Session name from

-- ---- what a line means on the machine, by the outcomes of its commits

abbrev pub machine : (ℕ → Outcome) → Machine language ObjectsDisk
machine next = on_disk store_writing next objects_machine

abbrev pub Means : Type 0
Means = (ℕ → Outcome) → ObjectsWorld → Answered language ObjectsDisk

abbrev pub turn_means : ℕ → Written → Means
turn_means who written next w = settled (machine next) (commanded w (shared_of (machine next).opens w) who written)

-- under a session's name, once the definitions are closed
abbrev pub session_means : List ℕ → Written → Means
session_means name written next w =
    settled (machine next) (session_planned (machine next).opens (with_session w name) (session_place w name) written)

-- the same, where they may still have to be closed
abbrev pub named_means : List ℕ → Written → Means
named_means name written next w = session_means name written next (closed (machine next).opens w)

abbrev pub form_means : List ℕ → Form Written → Means
form_means text form next w = settled (machine next) (form_planned (machine next).opens w text form)

-- the open lines are a definition, by themselves or with one line more
abbrev pub definition_means : Means
definition_means next w = script.defined w w.open_lines

abbrev pub ended_means : List ℕ → Means
ended_means text next w = script.defined w (w.open_lines ++ text ∷ [])

abbrev pub event_means : Event → Means
event_means event next w = answered (machine next) w event

abbrev pub line_means : List ℕ → Means
line_means text = event_means (script.line text)

-- the record of the definitions, written before or by this event
abbrev pub joined : Option Decoded → Option Decoded → Option Decoded
joined opened None = opened
joined opened (Some r) = Some r

module _ {D : Type 0} (faults clock : D → ℕ) (crash : D → ℕ → List ℕ → Type 0) where
  -- neither the count of faults nor the clock falls, and moments that are past keep their images
  pub record Later (old new : D) : Type 0 where
    pub clock_later : clock old ≤ clock new
    pub kept : (moment : ℕ) (image : List ℕ) → moment < clock old → crash new moment image ↔ crash old moment image
    pub faults_later : faults old ≤ faults new

  -- a call told these outcomes of commits, and made these attempts, which ended at some moments
  pub record Moves (told : List Outcome) (more : List (Attempt Decoded)) (old new : StoreState D) : Type 0 where
    pub more_ends : List ℕ
    pub fares : (opened_with : List Decoded) (made : List (Attempt Decoded)) (ends : List ℕ) (start : ℕ) → StoreHasAttempted SameRecords clock crash opened_with made ends start old → StoreHasAttempted SameRecords clock crash opened_with (made ++ more) (ends ++ more_ends) start new
    pub few : FewFaults told (faults old.disk) (faults new.disk)
    pub later : Later old.disk new.disk
    pub keeps_open : (definitions : List Def) → definitions_of old.records ≡ Some definitions → definitions_of new.records ≡ Some definitions

  -- ---- a line of a session

  -- an entry, answered by a step of the machine
  pub record Asked (asked : Entry) (reply : Reply) (old new : StoreState D) : Type 0 where
    pub told : List Outcome
    pub more : List (Attempt Decoded)
    pub as_many : length more ≡ length told
    pub moves : Moves told more old new
    pub step : (next : ℕ → Outcome) (opened : Option Decoded) (tried : List (Attempt Decoded)) → Tells next (length tried) told → (machine next).step (store_disk opened tried old) asked ≡ (reply, store_disk opened (tried ++ more) new)

  -- an entry and the answer by its reply, of a session that waits for it
  pub record Replied (definitions : List Def) (names : List (List ℕ)) (asked : Entry) (answer : Answer) (waiting : Session) (after : Known) (old new : StoreState D) : Type 0 where
    pub reply : Reply
    pub asks : Asked asked reply old new
    pub finishes : (answer, after) ≡ finished definitions names waiting reply
    pub keeps_seen : Sees definitions waiting.known → Sees definitions after

  -- for want of memory an entry has no answer: it did nothing, or was replied to
  abbrev pub ReplyWants : Entry → StoreState D → StoreState D → Type 0
  ReplyWants asked old new = (new ≡ old) ⊎ ((reply : Reply) × Asked asked reply old new)

  -- a session's line, answered by a turn of the machine
  pub record Turned (definitions : List Def) (names : List (List ℕ)) (its : Written) (answer : Answer) (before after : Known) (old new : StoreState D) : Type 0 where
    pub told : List Outcome
    pub more : List (Attempt Decoded)
    pub as_many : length more ≡ length told
    pub moves : Moves told more old new
    pub turns : (next : ℕ → Outcome) (opened : Option Decoded) (tried : List (Attempt Decoded)) → Tells next (length tried) told → line_turn (machine next) definitions names (store_disk opened tried old) before its ≡ record { answer = answer; session = after; shared = store_disk opened (tried ++ more) new }
    pub keeps_seen : Sees definitions before → Sees definitions after

  -- a line that was taken up by its session, and made its attempts
  pub record TurnTakes (definitions : List Def) (names : List (List ℕ)) (its : Written) (before : Known) (old new : StoreState D) : Type 0 where
    pub told : List Outcome
    pub more : List (Attempt Decoded)
    pub as_many : length more ≡ length told
    pub moves : Moves told more old new
    pub made_so : (next : ℕ → Outcome) (opened : Option Decoded) (tried : List (Attempt Decoded)) → Tells next (length tried) told → attempts_of (Some (line_turn (machine next) definitions names (store_disk opened tried old) before its).shared) ≡ all_attempts opened tried ++ more

  abbrev pub TurnWants : List Def → List (List ℕ) → Written → Known → StoreState D → StoreState D → Type 0
  TurnWants definitions names its before old new = (new ≡ old) ⊎ TurnTakes definitions names its before old new

  -- a line of the session at a place
  pub record TurnsAt (its : Written) (answer : Answer) (who : ℕ) (old new : StoreWorld (StoreState D)) : Type 0 where
    pub after : Session
    pub turned : Turned (definitions_in old.store) old.names its answer (own_known old who) after.known old.store new.store
    pub rest : new ≡ record old { store = new.store; sessions = slice_set old.sessions who after }

  -- ---- a line

  -- all of a line's meaning, with its answer, once the definitions are closed
  pub record Answers (means : Means) (response : Option Response) (old new : StoreWorld (StoreState D)) : Type 0 where
    pub told : List Outcome
    pub more : List (Attempt Decoded)
    pub as_many : length more ≡ length told
    pub moves : Moves told more old.store new.store
    pub means_so : (next : ℕ → Outcome) (opened : Option Decoded) (tried : List (Attempt Decoded)) → IsMade opened tried old.store → Tells next (length tried) told → means next (on_machine opened tried old) ≡ answered_by response (on_machine opened (tried ++ more) new)
    pub all_made : (opened : Option Decoded) (tried : List (Attempt Decoded)) → IsMade opened tried old.store → IsMade opened (tried ++ more) new.store
    pub keeps_sound : IsSound old → IsSound new

  -- the same of any event, which may have written the record of the definitions
  pub record Responds (means : Means) (response : Option Response) (old new : StoreWorld (StoreState D)) : Type 0 where
    pub opening : Option Decoded
    pub told : List Outcome
    pub more : List (Attempt Decoded)
    pub as_many : length more ≡ length told
    pub moves : Moves told (all_attempts opening more) old.store new.store
    pub means_so : (next : ℕ → Outcome) (opened : Option Decoded) (tried : List (Attempt Decoded)) → IsMade opened tried old.store → Tells next (length tried) told → means next (on_machine opened tried old) ≡ answered_by response (on_machine (joined opened opening) (tried ++ more) new)
    pub all_made : (opened : Option Decoded) (tried : List (Attempt Decoded)) → IsMade opened tried old.store → IsMade (joined opened opening) (tried ++ more) new.store
    pub behind : (opened : Option Decoded) (tried : List (Attempt Decoded)) → IsMade opened tried old.store → all_attempts (joined opened opening) (tried ++ more) ≡ all_attempts opened tried ++ all_attempts opening more
    pub keeps_sound : IsSound old → IsSound new

  -- a line that was taken up, and made its attempts
  pub record Takes (means : Means) (old new : StoreWorld (StoreState D)) : Type 0 where
    pub told : List Outcome
    pub more : List (Attempt Decoded)
    pub moves : Moves told more old.store new.store
    pub made_so : (next : ℕ → Outcome) (opened : Option Decoded) (tried : List (Attempt Decoded)) → IsMade opened tried old.store → Tells next (length tried) told → attempts_of (means next (on_machine opened tried old)).world.shared ≡ all_attempts opened tried ++ more

  -- for want of memory a line has no answer: nothing was attempted, or it made its attempts
  abbrev pub Wants : Means → StoreWorld (StoreState D) → StoreWorld (StoreState D) → Type 0
  Wants means old new = (new.store ≡ old.store) ⊎ Takes means old new

  -- the definitions were written
  pub record Opens (old new : StoreWorld (StoreState D)) : Type 0 where
    pub unopened : definitions_of old.store.records ≡ None
    pub moves : Moves [] (defining old.drafted done ∷ []) old.store new.store
    pub defined : definitions_of new.store.records ≡ Some old.drafted
    pub table : new.store.table ≡ table_of (bodies_of old.drafted) (just_opened old.drafted)
    pub rest : new ≡ record old { drafted = []; store = new.store }

  -- the disk failed while the definitions were written
  pub record FailsToOpen (old new : StoreWorld (StoreState D)) : Type 0 where
    pub unopened : definitions_of old.store.records ≡ None
    pub moves : Moves [] (defining old.drafted faulted ∷ []) old.store new.store
    pub rose : Rose (faults old.store.disk) (faults new.store.disk)

  abbrev pub OpensSo : Result (Unit {0}) Stop → StoreWorld (StoreState D) → StoreWorld (StoreState D) → Type 0
  OpensSo (Ok nothing) old new = Opens old new
  OpensSo (Err DiskFault) old new = FailsToOpen old new
  OpensSo (Err NoMemory) old new = new.store ≡ old.store
  OpensSo (Err SinkFault) old new = ⊥

  -- the definitions are closed, by now or before
  abbrev pub ClosesSo : Result (Unit {0}) Stop → StoreWorld (StoreState D) → StoreWorld (StoreState D) → Type 0
  ClosesSo (Ok nothing) old new = ((new ≡ old) × IsOpen old.store) ⊎ Opens old new
  ClosesSo (Err DiskFault) old new = FailsToOpen old new
  ClosesSo (Err NoMemory) old new = new.store ≡ old.store
  ClosesSo (Err SinkFault) old new = ⊥

  -- the script has ended: what was only defined is written
  abbrev pub FinishesWorldSo : Result (Unit {0}) Stop → StoreWorld (StoreState D) → StoreWorld (StoreState D) → Type 0
  FinishesWorldSo (Ok nothing) old new =
      ((new ≡ old) × (IsOpen old.store ⊎ ((definitions_of old.store.records ≡ None) × (old.drafted ≡ [])))) ⊎ (Opens old new × (old.drafted ≢ []))
  FinishesWorldSo (Err DiskFault) old new = FailsToOpen old new × (old.drafted ≢ [])
  FinishesWorldSo (Err NoMemory) old new = new.store ≡ old.store
  FinishesWorldSo (Err SinkFault) old new = ⊥

  -- why a line has no answer
  abbrev pub StopsSo : Means → Stop → StoreWorld (StoreState D) → StoreWorld (StoreState D) → Type 0
  StopsSo means DiskFault old new = FailsToOpen old new
  StopsSo means NoMemory old new = Wants means old new
  StopsSo means SinkFault old new = ⊥

  -- what a line is answered, or why it has no answer
  abbrev pub RespondsSo : Means → Result (Option Response) Stop → StoreWorld (StoreState D) → StoreWorld (StoreState D) → Type 0
  RespondsSo means (Ok response) old new = Responds means response old new
  RespondsSo means (Err stop) old new = StopsSo means stop old new
