-- How an ACQUIRE is answered: it is granted as a whole, or refused by the first of its objects that blocks.
use Rattle.std.specs.Prelude.{◌≡◌, ◌≢◌, ◌<◌, ◌≤◌, ◌⊎◌, ◌++◌, ℕ, Bool, true, false, List, [], ◌∷◌, map, cond, Some, None}
use Rattle.aw_schema.specs.declared.definition.Def.{Def}
use Rattle.aw_body.specs.Owners.{owner_of}
use Rattle.mv_core.specs.Workspace.{Workspace}
use Rattle.mv_view.specs.Each.{names as is_named}
use Rattle.mv_view.specs.ViewState.{ObjectView, ViewState, object_of}
use Rattle.ses_step.specs.declared.answer.Answer.TheVariants.{Done, Refused}
use Rattle.ses_step.specs.declared.command.Command.TheVariants as command
use Rattle.ses_step.specs.declared.session.Known.{Known as Session}
use Rattle.ses_report.specs.declared.refusal.Refusal.{Refusal}
use Rattle.ses_report.specs.Refusals.{owned_by, newer}
use Rattle.ses_step.specs.Sessions.{name_of, name_at}
use Rattle.script_world.specs.Outcomes.{Outcome}
use Rattle.script_meaning.specs.Generations.{latest_number}
use Rattle.script_meaning.specs.Language.{HistoryDisk, HistoryWorld, by_history}
use Rattle.script_meaning.specs.Turns.{Turn, turn}
use Rattle.script_meaning.specs.LineAnswers.{AreSeenIn}
use Rattle.script_meaning.specs.Extending.{ForAttached}

-- ---- the objects in the order written

-- an object, and whether it stands in the list behind RESYNC
pub record Listed : Type 0 where
  pub object : ℕ
  pub renewed : Bool

abbrev pub as_it_is : ℕ → Listed
as_it_is object = record { object = object; renewed = false }

abbrev pub as_renewed : ℕ → Listed
as_renewed object = record { object = object; renewed = true }

-- those that keep their bodies, those of the list behind RESYNC, and those of the list behind CONSISTENT WITH
abbrev pub in_order : List ℕ → List ℕ → List ℕ → List Listed
in_order keep fresh same = map as_it_is keep ++ (map as_renewed fresh ++ map as_it_is same)

-- ---- one object

-- another session owns it: 17, with its name and the owner's
pub record IsForeign (definitions : List Def) (names : List (List ℕ)) (shared : Workspace) (who object : ℕ) (refusal : Refusal) : Type 0 where
  pub by : ℕ
  pub owned : owner_of shared.owners object ≡ Some by
  pub other : by ≢ who
  pub is : refusal ≡ owned_by (name_of definitions object) (name_at names by)

-- nobody owns it, and its latest number is above the session's: 18, with its name and that number
pub record IsBehind (definitions : List Def) (shared : Workspace) (view : ViewState) (object : ℕ) (refusal : Refusal) : Type 0 where
  pub free : owner_of shared.owners object ≡ None
  pub found : ObjectView
  pub seen : object_of view object ≡ Some found
  pub below : found.number < latest_number shared object
  pub is : refusal ≡ newer (name_of definitions object) (latest_number shared object)

-- an object that is renewed doesn't block by its number
abbrev pub Blocks : List Def → List (List ℕ) → Workspace → ℕ → ViewState → Listed → Refusal → Type 0
Blocks definitions names shared who view listed refusal =
    IsForeign definitions names shared who listed.object refusal ⊎ ((listed.renewed ≡ false) × IsBehind definitions shared view listed.object refusal)

-- the session has its latest generation
pub record IsUpToDate (shared : Workspace) (view : ViewState) (object : ℕ) : Type 0 where
  pub found : ObjectView
  pub seen : object_of view object ≡ Some found
  pub least : latest_number shared object ≤ found.number

-- nothing blocks: the session owns it, or nobody does and the session has its latest generation or gets it
abbrev pub Passes : Workspace → ℕ → ViewState → Listed → Type 0
Passes shared who view listed =
    (owner_of shared.owners listed.object ≡ Some who) ⊎ ((owner_of shared.owners listed.object ≡ None) × (listed.renewed ≡ false → IsUpToDate shared view listed.object))

abbrev pub AllPass : Workspace → ℕ → ViewState → List Listed → Type 0
AllPass shared who view [] = Unit {0}
AllPass shared who view (one ∷ others) = Passes shared who view one × AllPass shared who view others

-- ---- the answer

-- the first that blocks decides, and nothing changes
pub record IsRefusedFor (definitions : List Def) (names : List (List ℕ)) (disk : HistoryDisk) (session : Session) (view : ViewState) (asked : List Listed) (t : Turn HistoryDisk) : Type 0 where
  pub before : List Listed
  pub one : Listed
  pub behind : List Listed
  pub split : asked ≡ before ++ one ∷ behind
  pub passed : AllPass disk.state session.who view before
  pub refusal : Refusal
  pub blocks : Blocks definitions names disk.state session.who view one refusal
  pub answer : t.answer ≡ Refused refusal
  pub same_session : t.session ≡ session
  pub same_shared : t.shared ≡ disk

-- All is granted: the session owns the objects of the first two lists, every other object has the owner that it had, and no
-- generation is made. What the session has of each object then is said by OwnCommandsMove.
pub record IsGrantedAll (disk : HistoryDisk) (session : Session) (view : ViewState) (keep fresh same : List ℕ) (t : Turn HistoryDisk) : Type 0 where
  pub passed : AllPass disk.state session.who view (in_order keep fresh same)
  pub answer : t.answer ≡ Done
  pub owners : (object : ℕ) → owner_of t.shared.state.owners object ≡ cond (is_named (keep ++ fresh) object) (Some session.who) (owner_of disk.state.owners object)
  pub history : t.shared.state.history ≡ disk.state.history

abbrev pub AnswersAcquire : List Def → List (List ℕ) → HistoryDisk → Session → ViewState → List ℕ → List ℕ → List ℕ → Turn HistoryDisk → Type 0
AnswersAcquire definitions names disk session view keep fresh same t =
    IsGrantedAll disk session view keep fresh same t ⊎ IsRefusedFor definitions names disk session view (in_order keep fresh same) t

-- of objects that an attached session sees
abbrev pub AcquiresAreAnswered : List Outcome → HistoryWorld → Type 0
AcquiresAreAnswered coming w =
    ForAttached w (λ disk session view. (keep fresh same : List ℕ) → AreSeenIn view (keep ++ (fresh ++ same)) → AnswersAcquire w.definitions w.names disk session view keep fresh same (turn (by_history coming) w.definitions w.names disk session (command.Acquire keep fresh same)))
