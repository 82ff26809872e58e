-- What the sessions see fits what is committed and owned.
use Rattle.std.specs.Prelude.{◌≡◌, ◌≢◌, ℕ, min, true, List, [], length, Some, None, All, IfSome, IsSome, slice_get}
use Rattle.std.specs.Option.{ForSome}
use Rattle.aw_lists.specs.Coord.{AreSlots}
use Rattle.aw_schema.specs.declared.definition.Def.{Def}
use Rattle.aw_schema.specs.declared.definition.DefKind.{DefKind}
use Rattle.aw_body.specs.declared.body.Body.{Body}
use Rattle.aw_body.specs.declared.body.Body.TheVariants.{Dim, Rel, Set, Var}
use Rattle.aw_body.specs.Fitting.{are_distinct}
use Rattle.aw_body.specs.KeptBodies.{bodies_of}
use Rattle.aw_body.specs.Owners.{owner_of}
use Rattle.aw_codec.specs.declared.record.Decoded.TheVariants.{Definitions}
use Rattle.aw_codec.specs.Records.{IsKeyedCell}
use Rattle.dml_tree.specs.declared.statement.Mode.TheVariants.{ReadOnly}
use Rattle.mv_core.specs.Workspace.{Workspace}
use Rattle.aw_store.specs.StoredRecords.{IsStored, are_replayed, are_accepted_after}
use Rattle.mv_view.specs.Each.{object_in}
use Rattle.mv_view.specs.Fit as seen
use Rattle.mv_view.specs.Recording.{CanBeRecorded}
use Rattle.mv_view.specs.ViewState.{ObjectView, ViewState, IsOf, AreSeen, object_of, kept_kinds}
use Rattle.ses_step.specs.declared.session.Known.{Known as Session}
use Rattle.script_world.specs.Worlds.{first_sessions}
use Rattle.script_meaning.specs.Generations.{latest_body}
use Rattle.script_meaning.specs.Language.{language, HistoryWorld}

-- definitions that a record can hold, and that can be replayed
pub record AreDefinable (definitions : List Def) : Type 0 where
  pub stored : IsStored (Definitions definitions)
  pub replayed : are_replayed definitions ≡ true
  pub accepted : are_accepted_after [] definitions ≡ true

-- A record can hold each part of a body: distinct slots of 16 bits, and cells other than the INTEGER -2147483648. Values are
-- those of a dimension by their type.
abbrev pub CanBeWritten : Body → Type 0
CanBeWritten (Dim values) = Unit {0}
CanBeWritten (Set slots) = (are_distinct slots ≡ true) × AreSlots slots
CanBeWritten (Rel contents) = All IsKeyedCell contents.cells
CanBeWritten (Var contents) = All IsKeyedCell contents.cells

-- what is staged or private of an object can be committed
pub record CanBeCommitted (found : ObjectView) : Type 0 where
  pub base : CanBeWritten found.base
  pub staged : CanBeWritten found.staged × CanBeRecorded found.base found.staged
  pub private : CanBeWritten found.private × CanBeRecorded found.base found.private

-- the view of a session has the three bodies of each kept object: its base is one generation, the session owns what is marked so
-- and has the latest one of that, nothing is staged of any other and it isn't leaving, and what is staged or private can be committed
pub record ViewFits (shared : Workspace) (who : ℕ) (view : ViewState) : Type 0 where
  pub number : view.who ≡ who
  pub fits : seen.Fits shared.definitions (bodies_of shared.definitions) shared.history shared.owners view
  pub forms : AreSeen view.objects
  pub each : (object : ℕ) → IfSome (object_of view object) CanBeCommitted

-- a session that attached for reading alone owns nothing
pub record SessionFits (shared : Workspace) (who : ℕ) (session : Session) : Type 0 where
  pub number : session.who ≡ who
  pub reads : session.mode ≡ ReadOnly → (object : ℕ) → owner_of shared.owners object ≢ Some who
  pub view : ForSome session.view (ViewFits shared who)

abbrev pub IsAttached : List Session → ℕ → Type 0
IsAttached sessions who = (session : Session) × (slice_get sessions who ≡ Some session) × IsSome session.view

-- a body of the form of a definition, which can be written
pub record IsKeptOf (kind : DefKind) (body : Body) : Type 0 where
  pub form : IsOf kind body
  pub written : CanBeWritten body

-- each session fits, each latest body has its form and can be written, and only kept objects are owned, by attached sessions
pub record SharedFits (definitions : List Def) (sessions : List Session) (shared : Workspace) : Type 0 where
  pub definitions_are : shared.definitions ≡ definitions
  pub each : (who : ℕ) → ForSome (slice_get sessions who) (SessionFits shared who)
  pub bodies : (object : ℕ) → IfSome (object_in (kept_kinds definitions) object) (λ kind. IsKeptOf kind (latest_body shared object))
  pub owners : (object : ℕ) → ForSome (owner_of shared.owners object) (λ who. IsSome (object_in (kept_kinds definitions) object) × IsAttached sessions who)

-- the definitions can be written; there is a session for each of the first 64 names, and none of them has done anything
-- before the definitions are closed
pub record WorldFits (w : HistoryWorld) : Type 0 where
  pub defined : AreDefinable w.definitions
  pub paired : length w.sessions ≡ min (length w.names) 64
  pub unopened : w.shared ≡ None → w.sessions ≡ first_sessions language 0 w.names
  pub shared : ForSome w.shared (λ disk. SharedFits w.definitions w.sessions disk.state)
