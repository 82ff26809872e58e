-- Cells are written that don't fill their object, SHOW shows what its expression comes to, and what an attached session asks of
-- objects that it sees or owns goes.
use Rattle.std.specs.Prelude.{◌≡◌, ◌≤◌, ◌==◌, ◌&&◌, ℕ, Bool, true, false, not, cond, nat_le, nat_lt, length, List, [], ◌∷◌, Option, Some, None, IsSome, Result, Ok, Err, slice_get, refl}
use Rattle.std.specs.List.{list_all}
use Rattle.std.specs.Option.{is_none, option_map}
use Rattle.std.proofs.Common.{◌∙◌, ap, sym, subst, arith}
use Rattle.std.proofs.lemmas.Bool.{and_parts, eqb-true, eq-eqb, le-leb}
use Rattle.aw_cell.specs.declared.cell.Cell.{Cell}
use Rattle.aw_cell.specs.declared.cell.Kind.{Kind}
use Rattle.aw_page.specs.Fitting.{is_of_kind}
use Rattle.aw_schema.specs.declared.definition.Def.{Def}
use Rattle.aw_schema.specs.declared.definition.DefKind.{DefKind}
use Rattle.aw_schema.specs.declared.definition.DefKind.TheVariants.{Variable}
use Rattle.aw_var.specs.CellMap.{Cells}
use Rattle.aw_var.specs.Pages.{page_count}
use Rattle.aw_var.specs.Variable.{is_pair_of}
use Rattle.aw_body.specs.declared.body.Body.{Body}
use Rattle.aw_body.specs.declared.body.Body.TheVariants.{Dim, Rel, Set, Var}
use Rattle.aw_body.specs.declared.change.Change.{Change}
use Rattle.aw_body.specs.declared.patch.BodyPatch.TheVariants.{Cells as CellPatch}
use Rattle.aw_body.specs.BodyPatches.{applied}
use Rattle.aw_body.specs.Generations.{Bodies}
use Rattle.aw_body.specs.KeptBodies.{bodies_of}
use Rattle.aw_codec.specs.declared.record.Decoded.{Decoded}
use Rattle.dml_tree.specs.declared.statement.Statement.TheVariants as statement
use Rattle.dml_loop.specs.declared.fault.LoopFault.{LoopFault}
use Rattle.mv_core.specs.declared.entry.Reply.{Reply}
use Rattle.mv_core.specs.declared.entry.Reply.TheVariants.{Stranger, Resynced, Released}
use Rattle.mv_core.specs.declared.object.Object.{Object}
use Rattle.mv_core.specs.Lookups.{latest_of}
use Rattle.mv_core.specs.Replies.{first_unkept}
use Rattle.mv_core.specs.Workspace.{standing}
use Rattle.mv_view.specs.Laws.{unstaged_in}
use Rattle.mv_view.specs.Each.{only, passes}
use Rattle.mv_view.specs.Rules as rule
use Rattle.mv_view.specs.ViewState.{ObjectView, ViewState, IsOf, object_of, AreOwned}
use Rattle.mv_view.proofs.callers.Each.{object_in-each}
use Rattle.ses_report.specs.Refusals.{not_attached, full}
use Rattle.ses_value.specs.Evaluating.{shown_in}
use Rattle.ses_step.specs.declared.answer.Answer.{Answer}
use Rattle.ses_step.specs.declared.answer.Answer.TheVariants.{Done, Refused}
use Rattle.ses_step.specs.declared.command.Asked.{Asked}
use Rattle.ses_step.specs.declared.command.Command.{Command}
use Rattle.ses_step.specs.declared.command.Command.TheVariants as command
use Rattle.ses_step.specs.declared.session.Begun.{Begun}
use Rattle.ses_step.specs.declared.session.Begun.TheVariants.{Said}
use Rattle.ses_step.specs.declared.session.Known.{Known as Session}
use Rattle.ses_step.specs.Meant.{given, typed_expression}
use Rattle.ses_step.specs.SessionLines.{begun_as}
use Rattle.ses_step.specs.Sessions.{sharing, release_asked, waiting, kept_waiting, name_of}
use Rattle.script_world.specs.Worlds.{Event}
use Rattle.script_world.specs.Outcomes.{Outcome}
use Rattle.script_meaning.specs.LineAnswers.{pages_written, AssignmentsAreDone, SinglesAreDone, AreSeenIn, GoAhead, SharingGoesAhead}
use Rattle.script_meaning.specs.Fit.{SharedFits}
use Rattle.script_meaning.specs.Language.{history_machine, by_history, HistoryDisk}
use Rattle.script_meaning.specs.SnapshotReads.{shown_answer, IsShown, ShowsWhatIsRead}
use Rattle.aw_store.specs.StoredRecords.{CanBeOpened}
use Rattle.script_meaning.specs.Transcript.{world_at}
use Rattle.script_meaning.specs.Turns.{turn_from, turn, replied}
use Rattle.script_meaning.proofs.Fitting.{IsGood, goods}
use Rattle.script_meaning.proofs.KeptKinds.{if-some}
use Rattle.script_meaning.proofs.LineOrder.{meant-shown, begun-shown, begun-written, meant-asked}
use Rattle.script_meaning.proofs.ReachableWorlds.{fits_at, found_at_number}
use Rattle.script_meaning.proofs.Replies.{kept-stands}
use Rattle.script_meaning.proofs.TurnCases.{fitting, kept-kind, owned-own, owned-filter}
use Rattle.script_meaning.proofs.WrittenCells.{held-kept}

-- ---- cells that are written

-- what a command that begins so is answered
abbrev said : List Outcome → List Def → List (List ℕ) → HistoryDisk → Command → Begun × Session → Answer
said coming definitions names disk own b = (turn_from (by_history coming) definitions names disk (kept_waiting own b)).answer

pub assignments_done : (coming : List Outcome) → AssignmentsAreDone coming
assignments_done coming definitions names disk s view attached object cells = by (nat_le (pages_written view object cells) 65536) refl
  where
    by : (few : Bool) → nat_le (pages_written view object cells) 65536 ≡ few → (turn (by_history coming) definitions names disk s (command.Write object cells)).answer ≡ cond (nat_le (pages_written view object cells) 65536) Done (Refused (full (name_of definitions object)))
    by true is = ap (said coming definitions names disk (command.Write object cells)) (begun-written definitions s view attached object cells true is) ∙ sym (ap (λ (b : Bool). cond b Done (Refused (full (name_of definitions object)))) is)
    by false is = ap (said coming definitions names disk (command.Write object cells)) (begun-written definitions s view attached object cells false is) ∙ sym (ap (λ (b : Bool). cond b Done (Refused (full (name_of definitions object)))) is)

-- ---- the one cell of a variable without dimensions

no-key : {A : Type 0} (kind : Kind) (slot : ℕ) (slots : List ℕ) (cell : Cell) (rest : Cells) → list_all (is_pair_of 0 kind) ((slot ∷ slots, cell) ∷ rest) ≡ true → A
no-key kind slot slots cell rest pairs =
    let first = (and_parts (is_pair_of 0 kind (slot ∷ slots, cell)) (list_all (is_pair_of 0 kind) rest) pairs).0 in
    let key = (and_parts ((length (slot ∷ slots) == 0) && list_all (λ one. nat_lt one 65536) (slot ∷ slots)) (is_of_kind kind cell) first).0 in
    let none : length (slot ∷ slots) ≡ 0 = eqb-true (length (slot ∷ slots)) 0 (and_parts (length (slot ∷ slots) == 0) (list_all (λ one. nat_lt one 65536) (slot ∷ slots)) key).0 in
    absurd (omega (arith, none))

one-page : (kind : Kind) (cells : Cells) → list_all (is_pair_of 0 kind) cells ≡ true → page_count cells ≤ 1
one-page kind [] pairs = omega arith
one-page kind ((slot ∷ slots, cell) ∷ rest) pairs = no-key kind slot slots cell rest pairs
one-page kind (([], cell) ∷ []) pairs = omega arith
one-page kind (([], cell) ∷ (slot ∷ slots, other) ∷ rest) pairs =
    no-key kind slot slots other rest (and_parts (is_pair_of 0 kind ([], cell)) (list_all (is_pair_of 0 kind) ((slot ∷ slots, other) ∷ rest)) pairs).1
one-page kind (([], cell) ∷ ([], other) ∷ rest) pairs =
    omega (arith, one-page kind (([], other) ∷ rest) (and_parts (is_pair_of 0 kind ([], cell)) (list_all (is_pair_of 0 kind) (([], other) ∷ rest)) pairs).1)

few-pages : (kind : Kind) (body : Body) → IsOf (Variable kind []) body → rule.pages_of body ≤ 1
few-pages kind (Dim values) it = absurd it.form
few-pages kind (Rel contents) it = absurd it.form
few-pages kind (Set slots) it = absurd it.form
few-pages kind (Var contents) it =
    one-page contents.kind contents.cells (subst (λ (slots : ℕ). list_all (is_pair_of slots contents.kind) contents.cells ≡ true) it.form.0 it.valid.pairs)

pages-of-written : (view : ViewState) (object : ℕ) (found : ObjectView) (cells : Cells) → object_of view object ≡ Some found → pages_written view object cells ≡ rule.pages_of (applied found.private (CellPatch cells))
pages-of-written view object found cells there =
    let pages : Option ObjectView → ℕ = λ seen. elim seen as (λ _. ℕ) [ None ↦ 0 | Some one ↦ rule.pages_of one.private ] in
    ap pages (object_in-each 0 (only object (rule.with_cells cells)) view.objects object object (omega arith) ∙ ap (option_map (only object (rule.with_cells cells) object)) there)
    ∙ ap (λ (b : Bool). rule.pages_of (cond b (rule.with_cells cells found) found).private) (eq-eqb object object refl)

pub singles_done : (names : List (List ℕ)) (records : List Decoded) (coming : List Outcome) (events : List Event) → CanBeOpened records → SinglesAreDone coming (world_at names records coming events)
singles_done names records coming events can disk who s view is found attached object one kind there single cells held =
    let w = world_at names records coming events in
    let fits = fitting w.definitions w.names w.sessions disk.state s (fits_at names records coming events can disk is) (found_at_number names records coming events can disk who s is found) view attached in
    let good = if-some IsGood (object_of view object) one there (goods disk.state s.who view fits object) in
    let new = held-kept one.kind one.private cells held (record { form = good.forms.private; written = good.commits.private.0 }) in
    let few = few-pages kind (applied one.private (CellPatch cells)) (subst (λ (of : DefKind). IsOf of (applied one.private (CellPatch cells))) single new.form) in
    assignments_done coming w.definitions w.names disk s view attached object cells
    ∙ ap (λ (b : Bool). cond b Done (Refused (full (name_of w.definitions object)))) (le-leb (pages_written view object cells) 65536 (omega (arith, pages-of-written view object one cells there, few)))

-- ---- SHOW

pub shows_what_is_read : (coming : List Outcome) → ShowsWhatIsRead coming
shows_what_is_read coming definitions names disk s view attached written e read passed =
    subst Shows (sym (meant-asked definitions s written (statement.Show e) read passed ∙ meant-shown definitions s view attached e)) (by (shown_in view (typed_expression definitions e)) refl)
  where
    Shows : Asked → Type 0
    Shows a = IsShown definitions disk s view e (turn_from (by_history coming) definitions names disk (begun_as definitions s a))

    by : (r : Result Cell LoopFault) → shown_in view (typed_expression definitions e) ≡ r → Shows (given definitions command.Show r)
    by (Ok cell) is =
        subst (λ (b : Begun × Session). IsShown definitions disk s view e (turn_from (by_history coming) definitions names disk (kept_waiting (command.Show cell) b))) (sym (begun-shown definitions s view attached cell))
        (record { answer = sym (ap (shown_answer definitions) is); same_session = refl; same_shared = refl })
    by (Err fault) is = record { answer = sym (ap (shown_answer definitions) is); same_session = refl; same_shared = refl }

-- ---- sharing

module _ (coming : List Outcome) (definitions : List Def) (names : List (List ℕ)) (sessions : List Session) (disk : HistoryDisk) (s : Session) (fits : SharedFits definitions sessions disk.state) (own_place : slice_get sessions s.who ≡ Some s) (view : ViewState) (attached : s.view ≡ Some view) where
  abbrev bodies : Bodies Body Change
  bodies = bodies_of disk.state.definitions

  abbrev objects_there : List (Option (Object Body))
  objects_there = standing bodies disk.state

  -- what is seen is kept
  all-kept : (objects : List ℕ) → AreSeenIn view objects → first_unkept objects_there objects ≡ None
  all-kept [] seen = refl
  all-kept (object ∷ objects) seen = by_seen (object_of view object) refl seen.0 (all-kept objects seen.1)
    where
      by_seen : (found : Option ObjectView) → object_of view object ≡ found → IsSome found → first_unkept objects_there objects ≡ None → first_unkept objects_there (object ∷ objects) ≡ None
      by_seen None is some rest = cc
      by_seen (Some found) is some rest =
          ap (λ (kept : Option (Object Body)). cond (is_none kept) (Some object) (first_unkept objects_there objects)) (kept-stands bodies disk.state object found.kind (kept-kind definitions names sessions disk.state s fits own_place view attached object found is)) ∙ rest

  -- a command of an attached session
  abbrev answered_as : (own : Command) → Answer
  answered_as own = said coming definitions names disk own (sharing s view own)

  abbrev answer_of_attached : Command → Option ViewState → Answer
  answer_of_attached own those = said coming definitions names disk own (elim those [ None ↦ (Said (Refused not_attached), s) | Some one ↦ sharing s one own ])

  abbrev reply_to : Command → Reply → Answer
  reply_to own reply = (replied history_machine definitions names (waiting s own) (reply, disk.state)).answer

  resync_done : (objects : List ℕ) → AreSeenIn view objects → answered_as (command.Resync objects) ≡ Done
  resync_done objects seen =
      ap (λ (found : Option ℕ). reply_to (command.Resync objects) (elim found [ Some object ↦ Stranger object | None ↦ Resynced (latest_of objects_there objects) ])) (all-kept objects seen)

  release_so : (objects unstaged : List ℕ) → AreOwned view unstaged → said coming definitions names disk (command.Release objects) (release_asked s view objects unstaged) ≡ Done
  release_so objects [] owned = refl
  release_so objects (object ∷ unstaged) owned =
      ap (λ (found : Option ℕ). reply_to (command.Release objects) (elim found [ Some one ↦ Stranger one | None ↦ Released ])) (owned-own definitions names sessions disk.state s fits own_place view attached (object ∷ unstaged) owned)

  goes_ahead : GoAhead view (λ own. (turn (by_history coming) definitions names disk s own).answer)
  goes_ahead = record {
    update = λ objects. ap (answer_of_attached (command.Update objects)) attached;
    revert = λ objects. ap (answer_of_attached (command.Revert objects)) attached;
    detach = ap (answer_of_attached command.Detach) attached;
    resync = λ objects seen. ap (answer_of_attached (command.Resync objects)) attached ∙ resync_done objects seen;
    release = λ objects owned. ap (answer_of_attached (command.Release objects)) attached ∙ release_so objects (unstaged_in view objects) (owned-filter (λ object. not (passes rule.is_staged (object_of view object))) view objects owned);
  }

pub sharing_goes_ahead : (names : List (List ℕ)) (records : List Decoded) (coming : List Outcome) (events : List Event) → CanBeOpened records → SharingGoesAhead coming (world_at names records coming events)
sharing_goes_ahead names records coming events can disk who session view is found attached =
    let w = world_at names records coming events in
    goes_ahead coming w.definitions w.names w.sessions disk session (fits_at names records coming events can disk is) (found_at_number names records coming events can disk who session is found) view attached
