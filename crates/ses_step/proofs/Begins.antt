-- What a command begins with, taken apart once for all laws.
use Rattle.std.specs.Prelude.{ℕ, ◌≡◌, Bool, true, false, cond, nat_le, List, [], ◌∷◌, Option, Some, None}
use Rattle.std.proofs.Common.{refl}
use Rattle.aw_dim.specs.DimensionState.{DimensionState}
use Rattle.aw_schema.specs.declared.definition.Def.{Def}
use Rattle.aw_var.specs.CellMap.{Cells}
use Rattle.aw_body.specs.declared.change.Change.{Change}
use Rattle.mv_core.specs.declared.entry.Entry.TheVariants as entry
use Rattle.mv_view.specs.Laws.{unstaged_in}
use Rattle.mv_view.specs.ViewState.{ViewState, owned_objects}
use Rattle.mv_view.specs.Rules as rule
use Rattle.ses_report.specs.Refusals.{not_attached, already_attached, full}
use Rattle.ses_step.specs.declared.command.Command.{Command}
use Rattle.ses_step.specs.declared.command.Command.TheVariants as command
use Rattle.ses_step.specs.declared.answer.Answer.TheVariants.{Done, Shown, Refused}
use Rattle.ses_step.specs.declared.session.Begun.{Begun}
use Rattle.ses_step.specs.declared.session.Begun.TheVariants.{Said, Ask}
use Rattle.ses_step.specs.declared.session.Known.{Known}
use Rattle.ses_step.specs.Sessions.{begun, sharing, name_of, commit_asked, release_asked, write_asked, or_all, leaving, seen_objects}

-- What a session that is attached comes to by a command: it says or asks something and stays as it was, or its view changes.
module _ (P : Begun × Known → Type 0) (s : Known) (view : ViewState) (stays : (b : Begun) → P (b, s)) where
  commit-cases : (changes : List Change) (leave : List ℕ) → P (commit_asked s changes leave)
  commit-cases [] [] = stays (Said Done)
  commit-cases [] (object ∷ leave) = stays (Ask (entry.Commit s.who [] (object ∷ leave)))
  commit-cases (change ∷ changes) leave = stays (Ask (entry.Commit s.who (change ∷ changes) leave))

  release-cases : (objects unstaged : List ℕ) → P (Said Done, record s { view = Some (rule.released view objects) }) → P (release_asked s view objects unstaged)
  release-cases objects [] at_once = at_once
  release-cases objects (object ∷ unstaged) at_once = stays (Ask (entry.Release s.who (object ∷ unstaged)))

  pub sharing-cases : ((objects : List ℕ) → P (Said Done, record s { view = Some (rule.released view objects) }))
      → ((objects : List ℕ) → P (Said Done, record s { view = Some (rule.reverted view objects) }))
      → ((objects : List ℕ) → P (Said Done, record s { view = Some (rule.updated view objects) }))
      → ((object : ℕ) (values : DimensionState) → P (Said Done, record s { view = Some (rule.maintained view object values) }))
      → (own : Command) → P (sharing s view own)
  sharing-cases releases reverts updates maintains command.Detach = stays (Ask (entry.Detach s.who))
  sharing-cases releases reverts updates maintains (command.Acquire keep fresh same) = stays _
  sharing-cases releases reverts updates maintains (command.Resync objects) = stays (Ask (entry.Resync s.who objects))
  sharing-cases releases reverts updates maintains (command.Release objects) = release-cases objects (unstaged_in view objects) (releases objects)
  sharing-cases releases reverts updates maintains (command.Revert objects) = reverts (or_all (seen_objects view) objects)
  sharing-cases releases reverts updates maintains (command.Update objects) = updates (or_all (owned_objects view) objects)
  sharing-cases releases reverts updates maintains command.Commit = commit-cases (rule.changes view) (leaving view)
  sharing-cases releases reverts updates maintains (command.Attach mode) = stays (Said Done)
  sharing-cases releases reverts updates maintains (command.Write object cells) = stays (Said Done)
  sharing-cases releases reverts updates maintains (command.Show cell) = stays (Said (Shown cell))
  sharing-cases releases reverts updates maintains (command.Maintain object values) = maintains object values

module _ (P : Begun × Known → Type 0) (definitions : List Def) (s : Known) (stays : (b : Begun) → P (b, s)) where
  attached-cases : ((view : ViewState) → s.view ≡ Some view → (own : Command) → P (sharing s view own)) → (own : Command) (view : Option ViewState) → s.view ≡ view
      → P (elim view [ None ↦ (Said (Refused not_attached), s) | Some v ↦ sharing s v own ])
  attached-cases shares own None is = stays (Said (Refused not_attached))
  attached-cases shares own (Some view) is = shares view is own

  -- what cells lie on is at most the pages that there may be, or the object is full
  pub begun-cases : ((view : ViewState) → s.view ≡ Some view → (object : ℕ) (cells : Cells) → nat_le (rule.private_pages (rule.written view object cells) object) 65536 ≡ true
      → P (Said Done, record s { view = Some (rule.written view object cells) }))
      → ((view : ViewState) → s.view ≡ Some view → (own : Command) → P (sharing s view own))
      → (own : Command) → P (begun definitions s own)
  begun-cases writes shares (command.Attach mode) = by_view s.view
    where
      by_view : (view : Option ViewState) → P (elim view [ None ↦ (Ask (entry.Attach s.who), s) | Some v ↦ (Said (Refused already_attached), s) ])
      by_view None = stays (Ask (entry.Attach s.who))
      by_view (Some view) = stays (Said (Refused already_attached))
  begun-cases writes shares (command.Write object cells) = by_view s.view refl
    where
      by_room : (view : ViewState) → s.view ≡ Some view → (b : Bool) → nat_le (rule.private_pages (rule.written view object cells) object) 65536 ≡ b
          → P (cond b (Said Done, record s { view = Some (rule.written view object cells) }) (Said (Refused (full (name_of definitions object))), s))
      by_room view is true fits = writes view is object cells fits
      by_room view is false fits = stays (Said (Refused (full (name_of definitions object))))

      by_view : (view : Option ViewState) → s.view ≡ view → P (elim view [ None ↦ (Said (Refused not_attached), s) | Some v ↦ write_asked definitions s v object cells ])
      by_view None is = stays (Said (Refused not_attached))
      by_view (Some view) is = by_room view is (nat_le (rule.private_pages (rule.written view object cells) object) 65536) refl
  begun-cases writes shares command.Detach = attached-cases shares command.Detach s.view refl
  begun-cases writes shares (command.Acquire keep fresh same) = attached-cases shares (command.Acquire keep fresh same) s.view refl
  begun-cases writes shares (command.Resync objects) = attached-cases shares (command.Resync objects) s.view refl
  begun-cases writes shares (command.Release objects) = attached-cases shares (command.Release objects) s.view refl
  begun-cases writes shares (command.Revert objects) = attached-cases shares (command.Revert objects) s.view refl
  begun-cases writes shares (command.Update objects) = attached-cases shares (command.Update objects) s.view refl
  begun-cases writes shares command.Commit = attached-cases shares command.Commit s.view refl
  begun-cases writes shares (command.Show cell) = attached-cases shares (command.Show cell) s.view refl
  begun-cases writes shares (command.Maintain object values) = attached-cases shares (command.Maintain object values) s.view refl
