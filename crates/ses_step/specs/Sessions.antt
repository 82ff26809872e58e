-- What a command means for one session: what it is answered, or what it asks of the shared state and what it makes of the reply.
--
-- An attached session has a view of the objects that are kept (mv_view). The definitions are those of all objects, in order.
use Rattle.std.specs.Prelude.{◌≡◌, ◌≤◌, ℕ, List, [], ◌∷◌, length, map, filter, cond, nat_le, Option, Some, None, IfSome, Bool, true, IsTrue, slice_get, slice_index_or, ⊤}
use Rattle.std.specs.Option.{option_map, IsSomeAnd}
use Rattle.std.specs.List.{list_all}
use Rattle.aw_cell.specs.declared.cell.Kind.TheVariants.{Slot}
use Rattle.aw_dim.specs.DimensionState.{DimensionState, IsDimension}
use Rattle.aw_schema.specs.declared.definition.Def.{Def}
use Rattle.aw_schema.specs.declared.definition.DefKind.{DefKind}
use Rattle.aw_schema.specs.declared.definition.DefKind.TheVariants.{Dimension, Relation, Variable}
use Rattle.aw_var.specs.CellMap.{Cells}
use Rattle.aw_body.specs.declared.body.Body.{Body}
use Rattle.aw_body.specs.declared.body.Body.TheVariants.{Dim}
use Rattle.aw_body.specs.declared.change.Change.{Change}
use Rattle.aw_body.specs.declared.change.Seen.{Seen}
use Rattle.dml_tree.specs.declared.statement.Mode.{Mode}
use Rattle.dml_tree.specs.declared.statement.Mode.TheVariants.{Multi}
use Rattle.mv_core.specs.declared.entry.Entry.TheVariants as entry
use Rattle.mv_core.specs.declared.entry.Reply.{Reply}
use Rattle.mv_core.specs.declared.entry.Reply.TheVariants.{Attached, Acquired, Resynced, Committed, Released, Detached, Owned, Newer, Stranger, Worn, TooLarge, Fault, NoMemory}
use Rattle.mv_view.specs.Each.{numbers_from, passes}
use Rattle.mv_view.specs.Laws.{unstaged_in}
use Rattle.mv_view.specs.ViewState.{ObjectView, ViewState, object_of, owned_objects, kinds_of, kept_kinds, kept_objects, HaveForms, AreOwned}
use Rattle.mv_view.specs.Rules as rule
use Rattle.ses_step.specs.declared.command.Command.{Command}
use Rattle.ses_step.specs.declared.command.Command.TheVariants as command
use Rattle.ses_step.specs.declared.answer.Answer.{Answer}
use Rattle.ses_step.specs.declared.answer.Answer.TheVariants.{Done, Shown, Refused}
use Rattle.ses_value.specs.Held.{is_held}
use Rattle.ses_step.specs.declared.session.Begun.{Begun}
use Rattle.ses_step.specs.declared.session.Begun.TheVariants.{Said, Ask}
use Rattle.ses_step.specs.declared.session.Known.{Known}
use Rattle.ses_step.specs.declared.session.Session.{Session}
use Rattle.ses_report.specs.Refusals.{not_attached, already_attached, owned_by, newer, not_acquired, full, too_large, disk_fault}

-- a session that isn't attached
abbrev pub new_session : ℕ → Known
new_session who = record { who = who; mode = Multi; view = None }

-- a session that knows this, and waits for the reply to what a command asked where there is one
abbrev pub holding : Known → Option Command → Session
holding known asked = record { known = known; asked = asked }

-- a session that doesn't wait
abbrev pub resting : Known → Session
resting known = holding known None

abbrev pub waiting : Known → Command → Session
waiting known own = holding known (Some own)

-- the view of a session is of these definitions
abbrev pub Sees : List Def → Known → Type 0
Sees definitions s = IfSome s.view (λ view. kinds_of view ≡ kept_kinds definitions)

-- the name of an object, and the empty one past the last
abbrev pub name_of : List Def → ℕ → List ℕ
name_of definitions object = elim (slice_get definitions object) [ None ↦ [] | Some def ↦ def.name ]

-- ---- an object that a session sees

abbrev pub seen_in : Known → ℕ → Option ObjectView
seen_in s object = elim s.view [ None ↦ None | Some view ↦ object_of view object ]

-- the number of its generation
abbrev pub number_in : Known → ℕ → ℕ
number_in s object = elim (seen_in s object) [ None ↦ 0 | Some found ↦ found.number ]

-- the generation that the session has of it
abbrev pub generation_in : Known → ℕ → Seen
generation_in s object = record { object = object; number = number_in s object }

-- ---- sharing

abbrev pub is_leaving : ObjectView → Bool
is_leaving object = object.leaving

-- the objects of which the session has something, in order of definition
abbrev pub seen_objects : ViewState → List ℕ
seen_objects view = numbers_from (λ (found : ObjectView). true) 0 view.objects

-- a list that isn't written stands for all
abbrev pub or_all : List ℕ → List ℕ → List ℕ
or_all all [] = all
or_all all (object ∷ objects) = object ∷ objects

-- the owned objects that are marked as leaving
abbrev pub leaving : ViewState → List ℕ
leaving view = filter (λ object. passes is_leaving (object_of view object)) (owned_objects view)

-- where nothing is changed and nothing leaves there is nothing to ask
abbrev pub commit_asked : Known → List Change → List ℕ → Begun × Known
commit_asked s [] [] = (Said Done, s)
commit_asked s changes leave = (Ask (entry.Commit s.who changes leave), s)

-- Objects of which something is staged are marked as leaving. Where all are such, there is nothing to ask.
abbrev pub release_asked : Known → ViewState → List ℕ → List ℕ → Begun × Known
release_asked s view objects [] = (Said Done, record s { view = Some (rule.released view objects) })
release_asked s view objects (object ∷ unstaged) = (Ask (entry.Release s.who (object ∷ unstaged)), s)

-- cells that are written lie on at most 65,536 pages, or the object is full
abbrev pub write_asked : List Def → Known → ViewState → ℕ → Cells → Begun × Known
write_asked definitions s view object cells =
    cond (nat_le (rule.private_pages (rule.written view object cells) object) 65536)
    (Said Done, record s { view = Some (rule.written view object cells) })
    (Said (Refused (full (name_of definitions object))), s)

-- what a command comes to that a session gives which is attached
abbrev pub sharing : Known → ViewState → Command → Begun × Known
sharing s view command.Detach = (Ask (entry.Detach s.who), s)
sharing s view (command.Acquire keep fresh same) =
    (Ask (entry.Acquire s.who (map (generation_in s) keep) fresh (map (generation_in s) same)), s)
sharing s view (command.Resync objects) = (Ask (entry.Resync s.who objects), s)
sharing s view (command.Release objects) = release_asked s view objects (unstaged_in view objects)
sharing s view (command.Revert objects) = (Said Done, record s { view = Some (rule.reverted view (or_all (seen_objects view) objects)) })
sharing s view (command.Update objects) = (Said Done, record s { view = Some (rule.updated view (or_all (owned_objects view) objects)) })
sharing s view command.Commit = commit_asked s (rule.changes view) (leaving view)
sharing s view (command.Show cell) = (Said (Shown cell), s)
sharing s view (command.Maintain object values) = (Said Done, record s { view = Some (rule.maintained view object values) })
sharing s view _ = (Said Done, s)

-- a refusal leaves the session as it was
abbrev pub begun : List Def → Known → Command → Begun × Known
begun definitions s (command.Attach mode) = elim s.view [
  | None ↦ (Ask (entry.Attach s.who), s)
  | Some view ↦ (Said (Refused already_attached), s)
]
begun definitions s (command.Write object cells) = elim s.view [
  | None ↦ (Said (Refused not_attached), s)
  | Some view ↦ write_asked definitions s view object cells
]
begun definitions s own = elim s.view [
  | None ↦ (Said (Refused not_attached), s)
  | Some view ↦ sharing s view own
]

-- a session that asks keeps the command until the reply
abbrev pub kept_waiting : Command → Begun × Known → Begun × Session
kept_waiting own (Said answer, s) = (Said answer, resting s)
kept_waiting own (Ask entry, s) = (Ask entry, waiting s own)

-- an object of this definition can hold these cells
abbrev pub AreHeldBy : DefKind → Cells → Type 0
AreHeldBy (Relation target base) cells = IsTrue (list_all (is_held 1 Slot) cells)
AreHeldBy (Variable kind dimensions) cells = IsTrue (list_all (is_held (length dimensions) kind) cells)
AreHeldBy _ cells = ⊥

-- the next slot of a body that is a dimension
abbrev pub next_of : Body → ℕ
next_of (Dim values) = values.next
next_of body = 0

-- an owned dimension, which gets these values and gives no slot again
pub record CanMaintain (values : DimensionState) (found : ObjectView) : Type 0 where
  pub kind : found.kind ≡ Dimension
  pub owned : found.owned ≡ true
  pub valid : IsDimension values
  pub next : next_of found.private ≤ values.next

-- what a command stages, gives up or maintains the session owns, and what it writes its object can hold
abbrev pub IsReady : Known → Command → Type 0
IsReady s (command.Release objects) = IfSome s.view (λ view. AreOwned view objects)
IsReady s (command.Update objects) = IfSome s.view (λ view. AreOwned view objects)
IsReady s (command.Write object cells) = IfSome s.view (λ view. IsSomeAnd (object_of view object) (λ found. AreHeldBy found.kind cells))
IsReady s (command.Maintain object values) = IfSome s.view (λ view. IsSomeAnd (object_of view object) (CanMaintain values))
IsReady s _ = Unit {0}

-- the commands at whose beginning there may be too little memory
abbrev pub TakesMemory : Command → Type 0
TakesMemory (command.Attach mode) = ⊥
TakesMemory command.Detach = ⊥
TakesMemory (command.Show cell) = ⊥
TakesMemory _ = ⊤

-- ---- the reply

-- a name in a list, and the empty one past its end
abbrev pub name_at : List (List ℕ) → ℕ → List ℕ
name_at names at = slice_index_or names at []

-- the mode in which a session asked to attach
abbrev pub mode_asked : Option Command → Mode
mode_asked (Some (command.Attach mode)) = mode
mode_asked _ = Multi

-- the objects that it asked to own with the bodies that it has
abbrev pub kept_asked : Option Command → List ℕ
kept_asked (Some (command.Acquire keep fresh same)) = keep
kept_asked _ = []

-- the objects that it is giving up
abbrev pub given_asked : Option Command → List ℕ
given_asked (Some (command.Release objects)) = objects
given_asked _ = []

-- the names are those of the sessions by their numbers; a refusal leaves the session as it was, and want of memory is no answer
abbrev pub finished_by : List Def → List (List ℕ) → Known → Option Command → Reply → Answer × Known
finished_by definitions names s asked (Attached fresh) = (Done, record s { mode = mode_asked asked; view = Some (rule.attached s.who definitions fresh) })
finished_by definitions names s asked (Acquired fresh) = (Done, record s { view = option_map (λ view. rule.acquired view (kept_asked asked) fresh) s.view })
finished_by definitions names s asked (Resynced fresh) = (Done, record s { view = option_map (λ view. rule.resynced view fresh) s.view })
finished_by definitions names s asked Committed = (Done, record s { view = option_map rule.committed s.view })
finished_by definitions names s asked Released = (Done, record s { view = option_map (λ view. rule.released view (given_asked asked)) s.view })
finished_by definitions names s asked Detached = (Done, record s { view = None })
finished_by definitions names s asked (Owned object by) = (Refused (owned_by (name_of definitions object) (name_at names by)), s)
finished_by definitions names s asked (Newer object number) = (Refused (newer (name_of definitions object) number), s)
finished_by definitions names s asked (Stranger object) = (Refused (not_acquired (name_of definitions object)), s)
finished_by definitions names s asked (Worn object) = (Refused (full (name_of definitions object)), s)
finished_by definitions names s asked (TooLarge bytes) = (Refused too_large, s)
finished_by definitions names s asked Fault = (Refused disk_fault, s)
finished_by definitions names s asked NoMemory = (Done, s)

-- the reply to what a session asked
abbrev pub finished : List Def → List (List ℕ) → Session → Reply → Answer × Known
finished definitions names s reply = finished_by definitions names s.known s.asked reply

-- what a reply hands over has the form of its definition, and to a session that attaches it is one generation of each kept object;
-- what is released the session owns
abbrev pub Allows : List Def → Session → Reply → Type 0
Allows definitions s (Attached fresh) = (rule.objects_of fresh ≡ kept_objects (kept_kinds definitions)) × HaveForms (kept_kinds definitions) fresh
Allows definitions s (Acquired fresh) = IfSome s.known.view (λ view. HaveForms (kinds_of view) fresh)
Allows definitions s (Resynced fresh) = IfSome s.known.view (λ view. HaveForms (kinds_of view) fresh)
Allows definitions s Released = IfSome s.known.view (λ view. AreOwned view (given_asked s.asked))
Allows definitions s _ = Unit {0}

-- the replies after which `finish` may want memory: one of which it makes the view, and want of memory itself
abbrev pub MayWantMemory : Reply → Type 0
MayWantMemory (Attached fresh) = ⊤
MayWantMemory NoMemory = ⊤
MayWantMemory _ = ⊥
