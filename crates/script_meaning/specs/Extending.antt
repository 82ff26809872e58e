-- A commit extends the latest generations and gives up what is leaving, and an acquire grants objects of which the session then has
-- the latest ones.
use Rattle.std.specs.Prelude.{◌≡◌, ◌≢◌, ◌≤◌, ◌<◌, ◌+◌, ◌⊎◌, ℕ, true, false, List, [], ◌∷◌, ◌++◌, None, Some, IfSome, slice_get}
use Rattle.aw_schema.specs.declared.definition.Def.{Def}
use Rattle.aw_body.specs.Owners.{owner_of}
use Rattle.aw_codec.specs.declared.record.Decoded.TheVariants as stored
use Rattle.mv_core.specs.Workspace.{Workspace}
use Rattle.mv_view.specs.Each.{names}
use Rattle.mv_view.specs.Rules.{changes}
use Rattle.mv_view.specs.ViewState.{ObjectView, ViewState, object_of}
use Rattle.ses_step.specs.declared.answer.Answer.{Answer}
use Rattle.ses_step.specs.declared.answer.Answer.TheVariants.{Done, Refused}
use Rattle.ses_step.specs.declared.command.Command.TheVariants as command
use Rattle.ses_step.specs.declared.session.Known.{Known as Session}
use Rattle.ses_report.specs.Refusals.{full, too_large, disk_fault}
use Rattle.ses_step.specs.Sessions.{name_of}
use Rattle.script_world.specs.Outcomes.{Outcome}
use Rattle.script_meaning.specs.Generations.{generations, latest_number, latest_body}
use Rattle.script_meaning.specs.Language.{HistoryDisk, HistoryWorld, bytes_of, by_history}
use Rattle.script_meaning.specs.Turns.{Turn, turn}

-- the session has the latest generation of the object
pub record HasLatest (w : Workspace) (object : ℕ) (found : ObjectView) : Type 0 where
  pub number : found.number ≡ latest_number w object
  pub body : found.base ≡ latest_body w object

-- the session had the latest generation, and its staged body is the one behind that, with the next number
pub record IsExtended (before after : Workspace) (object : ℕ) (found : ObjectView) : Type 0 where
  pub had : HasLatest before object found
  pub added : generations after object ≡ generations before object ++ found.staged ∷ []
  pub number : latest_number after object ≡ found.number + 1
  pub body : latest_body after object ≡ found.staged

-- a commit adds one generation to an object of which the staged body isn't the base, and none to any other
pub record IsCommitted (before after : Workspace) (object : ℕ) (found : ObjectView) : Type 0 where
  pub changed : found.staged ≢ found.base → IsExtended before after object found
  pub kept : found.staged ≡ found.base → generations after object ≡ generations before object

-- what is marked as leaving nobody owns then, and any other object is whose it was
pub record Leaves (before after : Workspace) (object : ℕ) (found : ObjectView) : Type 0 where
  pub left : found.leaving ≡ true → owner_of after.owners object ≡ None
  pub stays : found.leaving ≡ false → owner_of after.owners object ≡ owner_of before.owners object

-- no number is left for an object with staged changes: the commit is refused with 22
pub record IsFull (definitions : List Def) (view : ViewState) (answer : Answer) : Type 0 where
  pub object : ℕ
  pub found : ObjectView
  pub seen : object_of view object ≡ Some found
  pub staged : found.staged ≢ found.base
  pub last : 18446744073709551615 ≤ found.number
  pub refused : answer ≡ Refused (full (name_of definitions object))

-- the record of the commit would have too many bytes: it is refused with 14
pub record IsTooLarge (view : ViewState) (answer : Answer) : Type 0 where
  pub many : 67108864 < bytes_of (stored.Commit (changes view))
  pub refused : answer ≡ Refused too_large

-- no number is left, or the record is too long, or the disk failed, which is refused with 30
abbrev pub IsRefusal : List Def → ViewState → Answer → Type 0
IsRefusal definitions view answer =
    IsFull definitions view answer ⊎ (IsTooLarge view answer ⊎ (answer ≡ Refused disk_fault))

-- a refusal leaves the session, and the commits and the owners
pub record RefusesCommit (definitions : List Def) (disk : HistoryDisk) (session : Session) (view : ViewState) (t : Turn HistoryDisk) : Type 0 where
  pub refusal : IsRefusal definitions view t.answer
  pub same_session : t.session ≡ session
  pub same_state : t.shared.state ≡ disk.state

-- what a COMMIT is answered, and what it adds and gives up
pub record Commits (definitions : List Def) (disk : HistoryDisk) (session : Session) (view : ViewState) (t : Turn HistoryDisk) : Type 0 where
  pub answers : (t.answer ≡ Done) ⊎ RefusesCommit definitions disk session view t
  pub extends : t.answer ≡ Done → (object : ℕ) → IfSome (object_of view object) (IsCommitted disk.state t.shared.state object)
  pub leaves : t.answer ≡ Done → (object : ℕ) → IfSome (object_of view object) (Leaves disk.state t.shared.state object)

-- the session has the latest generation of an object that it sees
pub record SeesLatest (w : Workspace) (view : ViewState) (object : ℕ) : Type 0 where
  pub found : ObjectView
  pub seen : object_of view object ≡ Some found
  pub has : HasLatest w object found

-- An ACQUIRE that was granted: of the objects of the first and of the third list the session had the latest generation. From then on it
-- has that of all three lists, and owns the objects of the first two. No generation is added.
pub record IsGranted (keep fresh same : List ℕ) (before after : Workspace) (session : Session) (view : ViewState) (moved : Session) : Type 0 where
  pub view_after : ViewState
  pub attached : moved.view ≡ Some view_after
  pub had : (object : ℕ) → (names keep object ≡ true) ⊎ (names same object ≡ true) → SeesLatest before view object
  pub has : (object : ℕ) → (names keep object ≡ true) ⊎ ((names fresh object ≡ true) ⊎ (names same object ≡ true)) → SeesLatest after view_after object
  pub owned : (object : ℕ) → (names keep object ≡ true) ⊎ (names fresh object ≡ true) → owner_of after.owners object ≡ Some session.who
  pub history : after.history ≡ before.history

-- of each attached session of a world
abbrev pub ForAttached : HistoryWorld → (HistoryDisk → Session → ViewState → Type 0) → Type 0
ForAttached w P =
    (disk : HistoryDisk) (who : ℕ) (session : Session) (view : ViewState) → w.shared ≡ Some disk → slice_get w.sessions who ≡ Some session → session.view ≡ Some view → P disk session view

abbrev pub CommitsExtend : List Outcome → HistoryWorld → Type 0
CommitsExtend coming w =
    ForAttached w (λ disk session view. Commits w.definitions disk session view (turn (by_history coming) w.definitions w.names disk session command.Commit))

abbrev pub GrantsHaveLatest : List Outcome → HistoryWorld → Type 0
GrantsHaveLatest coming w =
    ForAttached w (λ disk session view. (keep fresh same : List ℕ) → let t = turn (by_history coming) w.definitions w.names disk session (command.Acquire keep fresh same) in t.answer ≡ Done → IsGranted keep fresh same disk.state t.shared.state session view t.session)
