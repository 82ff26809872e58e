-- What a session sees of an object: the latest generation when it attaches, and what its own commands make of that.
use Rattle.std.specs.Prelude.{◌≡◌, ◌≢◌, ◌==◌, ◌&&◌, ◌⊎◌, ◌↔◌, ℕ, Bool, true, false, not, cond, List, [], ◌∷◌, Option, Some, None, Result, Ok, Err, slice_get}
use Rattle.std.specs.Option.{ForSome, option_map, option_and_then}
use Rattle.aw_cell.specs.declared.cell.Cell.{Cell}
use Rattle.aw_schema.specs.declared.definition.Def.{Def}
use Rattle.aw_schema.specs.declared.definition.DefKind.{DefKind}
use Rattle.aw_body.specs.declared.change.Fresh.{Fresh}
use Rattle.aw_body.specs.Owners.{owner_of}
use Rattle.aw_codec.specs.declared.record.Decoded.{Decoded}
use Rattle.dml_tree.specs.declared.expr.Expr.{Expr}
use Rattle.dml_tree.specs.declared.statement.Mode.{Mode}
use Rattle.dml_tree.specs.declared.statement.Mode.TheVariants.{ReadOnly}
use Rattle.dml_tree.specs.declared.statement.Statement.TheVariants as statement
use Rattle.dml_lines.specs.Lines.{statement_in}
use Rattle.dml_loop.specs.declared.fault.LoopFault.{LoopFault}
use Rattle.mv_core.specs.Workspace.{Workspace}
use Rattle.mv_view.specs.Each.{object_in, names as is_named}
use Rattle.mv_view.specs.Rules as rule
use Rattle.mv_view.specs.ViewState.{ObjectView, ViewState, object_of, kinds_of, kept_kinds}
use Rattle.ses_step.specs.declared.answer.Answer.{Answer}
use Rattle.ses_step.specs.declared.answer.Answer.TheVariants.{Done, Shown, Refused}
use Rattle.ses_step.specs.declared.command.Asked.{Asked}
use Rattle.ses_step.specs.declared.command.Asked.TheVariants as asked
use Rattle.ses_step.specs.declared.command.Asked.TheVariants.{Runs}
use Rattle.ses_step.specs.declared.command.Command.{Command}
use Rattle.ses_step.specs.declared.command.Command.TheVariants as command
use Rattle.ses_step.specs.declared.session.Known.{Known as Session}
use Rattle.ses_step.specs.Meant.{fault_refusal, typed_expression}
use Rattle.ses_step.specs.Sessions.{seen_in, IsReady}
use Rattle.ses_value.specs.Evaluating.{shown_in}
use Rattle.script_world.specs.Worlds.{Event, answered, session_of, is_refused}
use Rattle.script_world.specs.Outcomes.{Outcome}
use Rattle.script_meaning.specs.Generations.{generations, latest_number, latest_body}
use Rattle.script_meaning.specs.Language.{Written, HistoryDisk, HistoryWorld, by_history}
use Rattle.script_meaning.specs.Transcript.{opening, world_at}
use Rattle.script_meaning.specs.Turns.{Turn, turn, line_turn, asked_of}
use Rattle.script_meaning.specs.LineAnswers.{HasPassed}
use Rattle.script_meaning.specs.Extending.{HasLatest, IsExtended, ForAttached}

-- ---- AW ATTACH

-- the latest generation of an object
abbrev pub latest : Workspace → ℕ → Fresh
latest shared object = record { object = object; number = latest_number shared object; body = latest_body shared object }

-- an object as it is first seen, where it is kept: all three bodies are the latest generation, and it isn't owned
abbrev pub first_seen : Workspace → ℕ → Option ObjectView
first_seen shared object =
    option_map (λ (kind : DefKind). rule.seen kind (latest shared object)) (object_in (kept_kinds shared.definitions) object)

-- it is answered `ok`, gives such a view of each kept object, and changes nothing that is shared
pub record Attaches (disk : HistoryDisk) (mode : Mode) (t : Turn HistoryDisk) : Type 0 where
  pub answer : t.answer ≡ Done
  pub shared : t.shared ≡ disk
  pub mode_is : t.session.mode ≡ mode
  pub view : ViewState
  pub attached : t.session.view ≡ Some view
  pub kinds : kinds_of view ≡ kept_kinds disk.state.definitions
  pub each : (object : ℕ) → object_of view object ≡ first_seen disk.state object

-- of a session under the definitions of what is shared
abbrev pub AttachGivesLatest : List Outcome → Type 0
AttachGivesLatest coming =
    (names : List (List ℕ)) (disk : HistoryDisk) (session : Session) (mode : Mode) → session.view ≡ None → Attaches disk mode (turn (by_history coming) disk.state.definitions names disk session (command.Attach mode))

-- ---- what a command makes of what the session sees of an object

abbrev pub is_at : Option ℕ → ℕ → Bool
is_at None place = false
is_at (Some found) place = found == place

-- the object is in the list; one that isn't written stands for all
abbrev pub covers : List ℕ → ℕ → Bool
covers [] object = true
covers (first ∷ objects) object = is_named (first ∷ objects) object

-- A command that isn't refused makes this of what the session sees of an object, with the latest generation as it is then. An
-- assignment changes cells that are read of one object, MAINTAIN the values that are staged and read of one dimension, and SHOW
-- nothing. UPDATE stages what is read of an owned object, and REVERT gives back what was staged. RESYNC and the list of ACQUIRE
-- behind RESYNC give the latest generation, and ACQUIRE owns the objects of its first two lists. RELEASE gives up an object of
-- which nothing is staged, and marks any other as leaving. COMMIT makes what is staged of an owned object the base, and gives it
-- up if it is marked.
abbrev pub seen_after : Workspace → ℕ → Command → ObjectView → ObjectView
seen_after shared object (command.Write at cells) old = cond (at == object) (rule.with_cells cells old) old
seen_after shared object (command.Maintain at values) old = cond (at == object) (rule.with_values values old) old
seen_after shared object (command.Update objects) old = cond (old.owned && covers objects object) (rule.staging old) old
seen_after shared object (command.Revert objects) old = cond (covers objects object) (rule.reverting old) old
seen_after shared object (command.Resync objects) old = cond (is_named objects object) (rule.with_latest (latest shared object) old) old
seen_after shared object (command.Acquire keep fresh same) old =
    cond (is_named fresh object) (rule.with_latest (latest shared object) (rule.owning old)) (cond (is_named keep object) (rule.owning old) old)
seen_after shared object (command.Release objects) old = cond (is_named objects object) (rule.releasing old) old
seen_after shared object command.Commit old = rule.after_commit old
seen_after shared object _ old = old

-- ---- the generation that a session has

-- RESYNC of the object, alone or in an ACQUIRE
abbrev pub renews : Command → ℕ → Bool
renews (command.Resync objects) object = is_named objects object
renews (command.Acquire keep fresh same) object = is_named fresh object
renews _ object = false

-- no generation was added, and the session has the one that it had
pub record KeepsGeneration (before after : Workspace) (object : ℕ) (old new : ObjectView) : Type 0 where
  pub none_added : generations after object ≡ generations before object
  pub number : new.number ≡ old.number
  pub body : new.base ≡ old.base

-- no generation was added, and the session has the latest one now
pub record GetsLatest (own : Command) (before after : Workspace) (object : ℕ) (new : ObjectView) : Type 0 where
  pub asked : renews own object ≡ true
  pub none_added : generations after object ≡ generations before object
  pub has : HasLatest before object new

-- a COMMIT put what was staged behind the generation that the session had, and the session has that now
pub record AddsGeneration (own : Command) (before after : Workspace) (object : ℕ) (old new : ObjectView) : Type 0 where
  pub by_commit : own ≡ command.Commit
  pub extended : IsExtended before after object old
  pub has : HasLatest after object new

-- What a session sees of an object before a command of its own that isn't refused, and after it. It has another generation by
-- RESYNC, ACQUIRE with RESYNC and its own COMMIT alone.
pub record MovesBy (own : Command) (before after : Workspace) (object : ℕ) (old new : ObjectView) : Type 0 where
  pub sees : new ≡ seen_after after object own old
  pub generation : KeepsGeneration before after object old new ⊎ (GetsLatest own before after object new ⊎ AddsGeneration own before after object old new)

-- ---- the session's own commands

abbrev pub is_refusal : Answer → Bool
is_refusal (Refused refusal) = true
is_refusal _ = false

-- a command that is refused changes nothing
pub record IsStill (disk : HistoryDisk) (session : Session) (t : Turn HistoryDisk) : Type 0 where
  pub refused : is_refusal t.answer ≡ true
  pub same_session : t.session ≡ session
  pub same_state : t.shared.state ≡ disk.state

-- AW DETACH gives up all that the session owned, and drops what it staged and read
pub record HasDetached (own : Command) (disk : HistoryDisk) (session : Session) (t : Turn HistoryDisk) : Type 0 where
  pub by_detach : own ≡ command.Detach
  pub done : t.answer ≡ Done
  pub detached : t.session.view ≡ None
  pub owners : (object : ℕ) → owner_of t.shared.state.owners object ≡ cond (is_at (owner_of disk.state.owners object) session.who) None (owner_of disk.state.owners object)
  pub history : t.shared.state.history ≡ disk.state.history

-- AW ATTACH and AW DETACH give a view or drop it
abbrev pub moves_view : Command → Bool
moves_view (command.Attach mode) = false
moves_view command.Detach = false
moves_view _ = true

-- any other command moves what the session sees of each object
pub record HasMoved (own : Command) (disk : HistoryDisk) (session : Session) (view : ViewState) (t : Turn HistoryDisk) : Type 0 where
  pub done : is_refusal t.answer ≡ false
  pub other : moves_view own ≡ true
  pub view_after : ViewState
  pub attached : t.session.view ≡ Some view_after
  pub mode_is : t.session.mode ≡ session.mode
  pub kinds : kinds_of view_after ≡ kinds_of view
  pub each : (object : ℕ) (old : ObjectView) → object_of view object ≡ Some old → (new : ObjectView) × (object_of view_after object ≡ Some new) × MovesBy own disk.state t.shared.state object old new

abbrev pub Moves : Command → HistoryDisk → Session → ViewState → Turn HistoryDisk → Type 0
Moves own disk session view t =
    IsStill disk session t ⊎ (HasDetached own disk session t ⊎ HasMoved own disk session view t)

-- of each command for which the session is ready, as it is for each that a line of it asks for
abbrev pub OwnCommandsMove : List Outcome → HistoryWorld → Type 0
OwnCommandsMove coming w =
    ForAttached w (λ disk session view. (own : Command) → IsReady session own → Moves own disk session view (turn (by_history coming) w.definitions w.names disk session own))

-- ---- SHOW

-- the answer by what an expression comes to
abbrev pub shown_answer : List Def → Result Cell LoopFault → Answer
shown_answer definitions (Ok cell) = Shown cell
shown_answer definitions (Err fault) = Refused (fault_refusal definitions fault)

-- it shows what its expression comes to by what the session reads, and changes nothing
pub record IsShown (definitions : List Def) (disk : HistoryDisk) (session : Session) (view : ViewState) (e : Expr) (t : Turn HistoryDisk) : Type 0 where
  pub answer : t.answer ≡ shown_answer definitions (shown_in view (typed_expression definitions e))
  pub same_session : t.session ≡ session
  pub same_shared : t.shared ≡ disk

-- of each line of an attached session that is a SHOW and passes what is asked before it is evaluated
abbrev pub ShowsWhatIsRead : List Outcome → Type 0
ShowsWhatIsRead coming =
    (definitions : List Def) (names : List (List ℕ)) (disk : HistoryDisk) (session : Session) (view : ViewState) → session.view ≡ Some view → (written : Written) (e : Expr) → statement_in written.line written.from ≡ Ok (statement.Show e) → HasPassed definitions session (statement.Show e) →
    IsShown definitions disk session view e (line_turn (by_history coming) definitions names disk session written)

-- ---- what a session sees after events

-- by a command of its own that isn't refused, with what is shared behind it
abbrev pub seen_now : Option HistoryDisk → ℕ → Command → Option ObjectView → Option ObjectView
seen_now None object own seen = seen
seen_now (Some disk) object (command.Attach mode) seen = first_seen disk.state object
seen_now (Some disk) object command.Detach seen = None
seen_now (Some disk) object own seen = option_map (seen_after disk.state object own) seen

-- a command of this session moves what it sees of the object, and no other event does
abbrev pub seen_by : Option HistoryDisk → ℕ → ℕ → Option (ℕ × Asked) → Bool → Option ObjectView → Option ObjectView
seen_by shared who object (Some (place, Runs own)) refused seen = cond (place == who && not refused) (seen_now shared object own seen) seen
seen_by shared who object (Some (place, asked.Refused refusal)) refused seen = seen
seen_by shared who object None refused seen = seen

-- the events one after the other, each in the world in which it is taken up
abbrev pub seen_on : List Outcome → ℕ → ℕ → HistoryWorld → List Event → Option ObjectView → Option ObjectView
seen_on coming who object w [] seen = seen
seen_on coming who object w (event ∷ events) seen =
    let a = answered (by_history coming) w event in
    seen_on coming who object a.world events (seen_by a.world.shared who object (asked_of w event) (is_refused a.answer) seen)

-- what the session at this place sees of an object, if it is there and attached
abbrev pub seen_at : HistoryWorld → ℕ → ℕ → Option ObjectView
seen_at w who object = option_and_then (λ (session : Session). seen_in session object) (slice_get w.sessions who)

-- of each object a session sees what its own lines gave it
abbrev pub SeesItsOwn : List (List ℕ) → List Decoded → List Outcome → List Event → Type 0
SeesItsOwn names records coming events =
    (who object : ℕ) → seen_at (world_at names records coming events) who object ≡ seen_on coming who object (opening names records) events None

-- ---- who owns what

-- an event that isn't of a session changes nothing of what this session owns
abbrev pub KeepsOwned : List Outcome → HistoryWorld → Event → Type 0
KeepsOwned coming w event =
    (who object : ℕ) (before after : HistoryDisk) → ForSome (session_of w event) (λ own. own.0 ≢ who) → w.shared ≡ Some before → (answered (by_history coming) w event).world.shared ≡ Some after → (owner_of after.state.owners object ≡ Some who) ↔ (owner_of before.state.owners object ≡ Some who)

-- ---- sessions that read alone

-- the commits, the owners and what is tried are as before
pub record SharesNothing (disk : HistoryDisk) (t : Turn HistoryDisk) : Type 0 where
  pub definitions : t.shared.state.definitions ≡ disk.state.definitions
  pub history : t.shared.state.history ≡ disk.state.history
  pub owners : (object : ℕ) → owner_of t.shared.state.owners object ≡ owner_of disk.state.owners object
  pub tried : t.shared.tried ≡ disk.tried

-- a session that attached for reading alone owns nothing, and no line of it changes anything that is shared
pub record Reads (disk : HistoryDisk) (session : Session) (turn_of : Written → Turn HistoryDisk) : Type 0 where
  pub owns_nothing : (object : ℕ) → owner_of disk.state.owners object ≢ Some session.who
  pub lines : (written : Written) → SharesNothing disk (turn_of written)

abbrev pub ReadersShareNothing : List Outcome → HistoryWorld → Type 0
ReadersShareNothing coming w =
    ForAttached w (λ disk session view. session.mode ≡ ReadOnly → Reads disk session (line_turn (by_history coming) w.definitions w.names disk session))
