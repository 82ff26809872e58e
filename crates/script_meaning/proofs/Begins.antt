-- What a command of a session begins with: a refusal of the session's own, an entry, `ok` with what it makes of the view, or a cell.
use Rattle.std.specs.Prelude.{◌≡◌, ◌⊎◌, ℕ, Bool, true, false, cond, nat_le, map, List, [], ◌∷◌, Option, None, Some, refl}
use Rattle.std.proofs.Common.{◌∙◌, ap, sym, subst, inl, inr}
use Rattle.aw_cell.specs.declared.cell.Cell.{Cell}
use Rattle.aw_dim.specs.DimensionState.{DimensionState}
use Rattle.aw_schema.specs.declared.definition.Def.{Def}
use Rattle.aw_var.specs.CellMap.{Cells}
use Rattle.aw_body.specs.declared.change.Change.{Change}
use Rattle.aw_body.specs.declared.change.Seen.{Seen}
use Rattle.mv_core.specs.declared.entry.Entry.{Entry}
use Rattle.mv_core.specs.declared.entry.Entry.TheVariants as entry
use Rattle.mv_view.specs.Rules as rule
use Rattle.mv_view.specs.Laws.{unstaged_in}
use Rattle.mv_view.specs.ViewState.{ObjectView, ViewState, object_of, owned_objects}
use Rattle.ses_report.specs.declared.refusal.Refusal.{Refusal}
use Rattle.ses_report.specs.Refusals.{not_attached, already_attached, full}
use Rattle.ses_step.specs.declared.answer.Answer.TheVariants.{Done, Shown, Refused}
use Rattle.ses_step.specs.declared.command.Command.{Command}
use Rattle.ses_step.specs.declared.command.Command.TheVariants as command
use Rattle.ses_step.specs.declared.session.Begun.{Begun}
use Rattle.ses_step.specs.declared.session.Begun.TheVariants.{Said, Ask}
use Rattle.ses_step.specs.declared.session.Known.{Known as Session}
use Rattle.ses_step.specs.Sessions.{begun, sharing, number_in, generation_in, name_of, seen_objects, or_all, leaving, commit_asked, release_asked, write_asked}

-- a refusal that needs no reply
abbrev pub IsOwn : Refusal → Type 0
IsOwn refusal = (refusal ≡ not_attached) ⊎ ((refusal ≡ already_attached) ⊎ ((name : List ℕ) × (refusal ≡ full name)))

-- ---- what a session asks

-- an object that an attached session sees
pub record Sees (s : Session) (object : ℕ) : Type 0 where
  pub view : ViewState
  pub found : ObjectView
  pub attached : s.view ≡ Some view
  pub seen : object_of view object ≡ Some found

-- the generations that a session has of these objects
abbrev pub generations_in : Session → List ℕ → List Seen
generations_in s objects = map (generation_in s) objects

-- an attached session asks this, which depends on its view
pub record AsksBy (s : Session) (entry_of : ViewState → Entry) (asked : Entry) : Type 0 where
  pub view : ViewState
  pub attached : s.view ≡ Some view
  pub is : asked ≡ entry_of view

pub record AsksRelease (s : Session) (objects : List ℕ) (asked : Entry) : Type 0 where
  pub view : ViewState
  pub object : ℕ
  pub unstaged : List ℕ
  pub attached : s.view ≡ Some view
  pub left : unstaged_in view objects ≡ object ∷ unstaged
  pub is : asked ≡ entry.Release s.who (object ∷ unstaged)

pub record AsksAttach (s : Session) (asked : Entry) : Type 0 where
  pub unattached : s.view ≡ None
  pub is : asked ≡ entry.Attach s.who

-- what a session asks by a command
abbrev pub AskedOf : Session → Command → Entry → Type 0
AskedOf s (command.Attach mode) asked = AsksAttach s asked
AskedOf s command.Detach asked = AsksBy s (λ view. entry.Detach s.who) asked
AskedOf s (command.Acquire keep fresh same) asked = AsksBy s (λ view. entry.Acquire s.who (generations_in s keep) fresh (generations_in s same)) asked
AskedOf s (command.Resync objects) asked = AsksBy s (λ view. entry.Resync s.who objects) asked
AskedOf s (command.Release objects) asked = AsksRelease s objects asked
AskedOf s command.Commit asked = AsksBy s (λ view. entry.Commit s.who (rule.changes view) (leaving view)) asked
AskedOf s (command.Revert objects) asked = ⊥
AskedOf s (command.Update objects) asked = ⊥
AskedOf s (command.Write object cells) asked = ⊥
AskedOf s (command.Maintain object values) asked = ⊥
AskedOf s (command.Show cell) asked = ⊥

-- the number of the generation that a session has of an object that it sees
pub number-seen : (s : Session) (object : ℕ) (it : Sees s object) → number_in s object ≡ it.found.number
number-seen s object it =
    ap (λ (view : Option ViewState). number_in (record s { view = view }) object) it.attached ∙ ap (λ (found : Option ObjectView). elim found as (λ _. ℕ) [ None ↦ 0 | Some one ↦ one.number ]) it.seen

-- ---- the command

module _ (definitions : List Def) (s : Session) where
  -- what is to be shown of each kind of beginning
  pub record Begins (own : Command) (P : Begun × Session → Type 0) : Type 0 where
    pub refused : (refusal : Refusal) → IsOwn refusal → P (Said (Refused refusal), s)
    pub asks : (asked : Entry) → AskedOf s own asked → P (Ask asked, s)
    -- a COMMIT of nothing
    pub nothing : (view : ViewState) → own ≡ command.Commit → s.view ≡ Some view → rule.changes view ≡ [] → leaving view ≡ [] → P (Said Done, s)
    -- cells that don't fill their object
    pub written : (view : ViewState) (object : ℕ) (cells : Cells) → own ≡ command.Write object cells → s.view ≡ Some view → P (Said Done, record s { view = Some (rule.written view object cells) })
    pub maintained : (view : ViewState) (object : ℕ) (values : DimensionState) → own ≡ command.Maintain object values → s.view ≡ Some view → P (Said Done, record s { view = Some (rule.maintained view object values) })
    pub shown : (view : ViewState) (cell : Cell) → own ≡ command.Show cell → s.view ≡ Some view → P (Said (Shown cell), s)
    -- a RELEASE of objects of which something is staged
    pub released : (view : ViewState) (objects : List ℕ) → own ≡ command.Release objects → s.view ≡ Some view → unstaged_in view objects ≡ [] → P (Said Done, record s { view = Some (rule.released view objects) })
    pub reverted : (view : ViewState) (objects : List ℕ) → own ≡ command.Revert objects → s.view ≡ Some view → P (Said Done, record s { view = Some (rule.reverted view (or_all (seen_objects view) objects)) })
    pub updated : (view : ViewState) (objects : List ℕ) → own ≡ command.Update objects → s.view ≡ Some view → P (Said Done, record s { view = Some (rule.updated view (or_all (owned_objects view) objects)) })

  commits : (P : Begun × Session → Type 0) (view : ViewState) → s.view ≡ Some view → Begins command.Commit P → (changes : List Change) (leave : List ℕ) → rule.changes view ≡ changes → leaving view ≡ leave → P (commit_asked s changes leave)
  commits P view attached each [] [] made left = each.nothing view refl attached made left
  commits P view attached each [] (object ∷ leave) made left =
      each.asks (entry.Commit s.who [] (object ∷ leave)) (record { view = view; attached = attached; is = ap (λ those. entry.Commit s.who those (object ∷ leave)) (sym made) ∙ ap (entry.Commit s.who (rule.changes view)) (sym left) })
  commits P view attached each (change ∷ changes) leave made left =
      each.asks (entry.Commit s.who (change ∷ changes) leave) (record { view = view; attached = attached; is = ap (λ those. entry.Commit s.who those leave) (sym made) ∙ ap (entry.Commit s.who (rule.changes view)) (sym left) })

  releases : (P : Begun × Session → Type 0) (view : ViewState) (objects : List ℕ) → s.view ≡ Some view → Begins (command.Release objects) P → (unstaged : List ℕ) → unstaged_in view objects ≡ unstaged → P (release_asked s view objects unstaged)
  releases P view objects attached each [] left = each.released view objects refl attached left
  releases P view objects attached each (object ∷ unstaged) left =
      each.asks (entry.Release s.who (object ∷ unstaged)) (record { view = view; object = object; unstaged = unstaged; attached = attached; left = left; is = refl })

  writes : (P : Begun × Session → Type 0) (view : ViewState) (object : ℕ) (cells : Cells) → s.view ≡ Some view → Begins (command.Write object cells) P → (few : Bool) → P (cond few (Said Done, record s { view = Some (rule.written view object cells) }) (Said (Refused (full (name_of definitions object))), s))
  writes P view object cells attached each true = each.written view object cells refl attached
  writes P view object cells attached each false = each.refused (full (name_of definitions object)) (inr (inr (name_of definitions object, refl)))

  -- one that wants an attached session
  if_attached : (P : Begun × Session → Type 0) (own : Command) → ((refusal : Refusal) → IsOwn refusal → P (Said (Refused refusal), s)) → ((view : ViewState) → s.view ≡ Some view → P (sharing s view own)) → (view : Option ViewState) → s.view ≡ view → P (elim view [ None ↦ (Said (Refused not_attached), s) | Some view ↦ sharing s view own ])
  if_attached P own refused shares None none = refused not_attached (inl refl)
  if_attached P own refused shares (Some view) attached = shares view attached

  pub begins : (own : Command) (P : Begun × Session → Type 0) → Begins own P → P (begun definitions s own)
  begins (command.Attach mode) P each = by_view s.view refl
    where
      by_view : (view : Option ViewState) → s.view ≡ view → P (elim view [ None ↦ (Ask (entry.Attach s.who), s) | Some view ↦ (Said (Refused already_attached), s) ])
      by_view None none = each.asks (entry.Attach s.who) (record { unattached = none; is = refl })
      by_view (Some view) attached = each.refused already_attached (inr (inl refl))
  begins (command.Write object cells) P each = by_view s.view refl
    where
      by_view : (view : Option ViewState) → s.view ≡ view → P (elim view [ None ↦ (Said (Refused not_attached), s) | Some view ↦ write_asked definitions s view object cells ])
      by_view None none = each.refused not_attached (inl refl)
      by_view (Some view) attached = writes P view object cells attached each (nat_le (rule.private_pages (rule.written view object cells) object) 65536)
  begins (command.Maintain object values) P each = if_attached P (command.Maintain object values) each.refused (λ view attached. each.maintained view object values refl attached) s.view refl
  begins (command.Show cell) P each = if_attached P (command.Show cell) each.refused (λ view attached. each.shown view cell refl attached) s.view refl
  begins command.Detach P each = if_attached P command.Detach each.refused (λ view attached. each.asks (entry.Detach s.who) (record { view = view; attached = attached; is = refl })) s.view refl
  begins (command.Acquire keep fresh same) P each =
      if_attached P (command.Acquire keep fresh same) each.refused (λ view attached. each.asks (entry.Acquire s.who (generations_in s keep) fresh (generations_in s same)) (record { view = view; attached = attached; is = refl })) s.view refl
  begins (command.Resync objects) P each =
      if_attached P (command.Resync objects) each.refused (λ view attached. each.asks (entry.Resync s.who objects) (record { view = view; attached = attached; is = refl })) s.view refl
  begins (command.Release objects) P each = if_attached P (command.Release objects) each.refused (λ view attached. releases P view objects attached each (unstaged_in view objects) refl) s.view refl
  begins (command.Revert objects) P each = if_attached P (command.Revert objects) each.refused (λ view attached. each.reverted view objects refl attached) s.view refl
  begins (command.Update objects) P each = if_attached P (command.Update objects) each.refused (λ view attached. each.updated view objects refl attached) s.view refl
  begins command.Commit P each = if_attached P command.Commit each.refused (λ view attached. commits P view attached each (rule.changes view) (leaving view) refl refl) s.view refl

  -- a session that asks is as it was
  pub asked_by : (own : Command) (asked : Entry) → (begun definitions s own).0 ≡ Ask asked → ((begun definitions s own).1 ≡ s) × AskedOf s own asked
  asked_by own =
      begins own (λ b. (asked : Entry) → b.0 ≡ Ask asked → (b.1 ≡ s) × AskedOf s own asked) (record {
        refused = λ refusal is asked never. cc;
        asks = λ it known asked is. (refl, subst (AskedOf s own) (same-asked it asked is) known);
        nothing = λ view is attached none left asked never. cc;
        written = λ view object cells is attached asked never. cc;
        maintained = λ view object values is attached asked never. cc;
        shown = λ view cell is attached asked never. cc;
        released = λ view objects is attached none asked never. cc;
        reverted = λ view objects is attached asked never. cc;
        updated = λ view objects is attached asked never. cc;
      })
    where
      same-asked : (one other : Entry) → Ask one ≡ Ask other → one ≡ other
      same-asked one other is = cc

-- a command of an attached session that asks for nothing by name
pub begun-shared : (definitions : List Def) (s : Session) (own : Command) (view : ViewState) → s.view ≡ Some view → (begun definitions s own ≡ elim s.view [ None ↦ (Said (Refused not_attached), s) | Some one ↦ sharing s one own ]) → begun definitions s own ≡ sharing s view own
begun-shared definitions s own view attached is =
    is ∙ ap (λ (seen : Option ViewState). elim seen as (λ _. Begun × Session) [ None ↦ (Said (Refused not_attached), s) | Some one ↦ sharing s one own ]) attached
