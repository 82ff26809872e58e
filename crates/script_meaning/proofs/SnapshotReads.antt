-- What a session sees of an object is the latest generation when it attaches, and what its own commands make of that.
use Rattle.std.specs.Prelude.{◌≡◌, ◌≢◌, ◌⊎◌, ◌+◌, ◌==◌, ◌&&◌, ◌||◌, ℕ, min, Bool, true, false, not, cond, List, [], ◌∷◌, Option, Some, None, is_some, nat_le, slice_get, refl}
use Rattle.std.specs.List.{cons_option}
use Rattle.std.specs.Option.{option_map}
use Rattle.std.proofs.Common.{◌∙◌, ap, sym, subst, inl, inr, ⊎_elim, arith}
use Rattle.std.proofs.lemmas.Bool.{eqb-true}
use Rattle.std.proofs.lemmas.Option.{none-some}
use Rattle.aw_cell.specs.declared.cell.Cell.{Cell}
use Rattle.aw_dim.specs.DimensionState.{DimensionState}
use Rattle.aw_schema.specs.declared.definition.Def.{Def}
use Rattle.aw_schema.specs.declared.definition.DefKind.{DefKind}
use Rattle.aw_var.specs.CellMap.{Cells}
use Rattle.aw_body.specs.declared.body.Body.{Body}
use Rattle.aw_body.specs.declared.change.Change.{Change}
use Rattle.aw_body.specs.declared.change.Fresh.{Fresh}
use Rattle.aw_body.specs.BodyPatches.{difference}
use Rattle.aw_body.specs.Generations.{Bodies, change_of}
use Rattle.aw_body.specs.KeptBodies.{bodies_of}
use Rattle.aw_body.specs.Owners.{owner_of, given_up, taken}
use Rattle.aw_body.specs.OwnerLaws.{owner_of-all_given_up}
use Rattle.aw_codec.specs.declared.record.Decoded.{Decoded}
use Rattle.dml_tree.specs.declared.statement.Mode.{Mode}
use Rattle.mv_core.specs.declared.entry.Entry.TheVariants as entry
use Rattle.mv_core.specs.declared.object.Object.{Object}
use Rattle.mv_core.specs.Effects.{taken_of}
use Rattle.mv_core.specs.Lookups.{kept_at, fresh_of, latest_of as handed}
use Rattle.mv_core.specs.Replies.{first_worn}
use Rattle.mv_core.specs.Workspace.{Workspace, object_of as object_kept, standing}
use Rattle.mv_view.specs.Each.{object_in, only, listed, names as is_named, passes}
use Rattle.mv_view.specs.Laws.{unstaged_in}
use Rattle.mv_view.specs.Rules as rule
use Rattle.mv_view.specs.ViewState.{ObjectView, ViewState, object_of, each, is_owned, owned_objects, kept_kinds, AreOwned}
use Rattle.mv_view.proofs.callers.Each.{object_in-each, names-numbers}
use Rattle.mv_view.proofs.callers.Fitting.{kinds-each, kind-cond, some-and, owned-named, named-latest}
use Rattle.mv_view.proofs.callers.Forms.{alike, difference-itself, difference-other}
use Rattle.ses_report.specs.declared.refusal.Refusal.{Refusal}
use Rattle.ses_report.specs.Refusals.{not_attached, already_attached, not_acquired, owned_by, newer, full, too_large}
use Rattle.ses_step.specs.declared.answer.Answer.{Answer}
use Rattle.ses_step.specs.declared.answer.Answer.TheVariants.{Done, Shown, Refused}
use Rattle.ses_step.specs.declared.command.Command.{Command}
use Rattle.ses_step.specs.declared.command.Command.TheVariants as command
use Rattle.ses_step.specs.declared.session.Begun.{Begun}
use Rattle.ses_step.specs.declared.session.Begun.TheVariants.{Said, Ask}
use Rattle.ses_step.specs.declared.session.Known.{Known as Session}
use Rattle.ses_step.specs.Sessions.{sharing, seen_objects, or_all, leaving, release_asked, write_asked, kept_waiting, name_of, name_at, IsReady}
use Rattle.script_world.specs.Worlds.{Event}
use Rattle.script_world.specs.Outcomes.{Outcome, among}
use Rattle.script_meaning.specs.Extending.{HasLatest, IsCommitted}
use Rattle.script_meaning.specs.Fit.{SharedFits}
use Rattle.script_meaning.specs.Language.{history_machine, by_history, HistoryDisk, HistoryWorld}
use Rattle.aw_store.specs.StoredRecords.{CanBeOpened}
use Rattle.script_meaning.specs.SnapshotReads.{is_at, covers, latest, seen_after, Attaches, AttachGivesLatest, first_seen, KeepsGeneration, AddsGeneration, MovesBy, Moves, moves_view, OwnCommandsMove, is_refusal}
use Rattle.script_meaning.specs.Transcript.{world_at}
use Rattle.script_meaning.specs.Turns.{Turn, turn_from, turn}
use Rattle.script_meaning.proofs.Begins.{generations_in}
use Rattle.script_meaning.proofs.DiskTurns.{unwritten_turn, done_turn, turn-cases}
use Rattle.script_meaning.proofs.Fitting.{IsGood, goods}
use Rattle.script_meaning.proofs.Differences.{gives_newer}
use Rattle.script_meaning.proofs.Extending.{told, committed_so}
use Rattle.script_meaning.proofs.FittingViews.{given, seen-latest, attached-kinds, leaving-are}
use Rattle.script_meaning.proofs.KeptKinds.{if-some, kept-seen, seen-kept}
use Rattle.script_meaning.proofs.ReachableWorlds.{fits_at, found_at_number}
use Rattle.script_meaning.proofs.Recording.{staged-changed}
use Rattle.script_meaning.proofs.Replies.{kept-stands, number-small}
use Rattle.script_meaning.proofs.TurnCases.{fitting, kept-kind, acquire_turn, resync_turn, release_turn, committed, commit_turn}

-- ---- what is handed over

-- the latest generation of each object of the list that stands
handed-at : (bodies : Bodies Body Change) (w : Workspace) (objects : List ℕ) (at : ℕ) → kept_at (standing bodies w) at ≡ Some (object_kept bodies w at) → rule.latest_of (handed (standing bodies w) objects) at ≡ cond (is_named objects at) (Some (fresh_of at (object_kept bodies w at))) None
handed-at bodies w [] at stands = refl
handed-at bodies w (object ∷ objects) at stands = by_test (object == at) refl (handed-at bodies w objects at stands)
  where
    rest : List Fresh
    rest = handed (standing bodies w) objects

    wanted : Bool → Option Fresh
    wanted named = cond named (Some (fresh_of at (object_kept bodies w at))) None

    Finds : Option (Object Body) → Type 0
    Finds found = rule.latest_of (cons_option (option_map (fresh_of object) found) rest) at ≡ wanted ((object == at) || is_named objects at)

    by_found : (object == at) ≡ false → (found : Option (Object Body)) → rule.latest_of rest at ≡ wanted (is_named objects at) → Finds found
    by_found differs None later = later ∙ sym (ap (λ (b : Bool). wanted (b || is_named objects at)) differs)
    by_found differs (Some it) later =
        ap (λ (b : Bool). cond b (Some (fresh_of object it)) (rule.latest_of rest at)) differs ∙ later ∙ sym (ap (λ (b : Bool). wanted (b || is_named objects at)) differs)

    by_test : (b : Bool) → (object == at) ≡ b → rule.latest_of rest at ≡ wanted (is_named objects at) → Finds (kept_at (standing bodies w) object)
    by_test false differs later = by_found differs (kept_at (standing bodies w) object) later
    by_test true same later =
        let place : object ≡ at = eqb-true object at same in
        ap (λ (found : Option (Object Body)). rule.latest_of (cons_option (option_map (fresh_of object) found) rest) at) (ap (kept_at (standing bodies w)) place ∙ stands)
        ∙ ap (λ (b : Bool). cond b (Some (fresh_of object (object_kept bodies w at))) (rule.latest_of rest at)) same
        ∙ ap (λ (o : ℕ). Some (fresh_of o (object_kept bodies w at))) place
        ∙ sym (ap (λ (b : Bool). wanted (b || is_named objects at)) same)

-- ---- small steps

given-up : (owner : Option ℕ) (who : ℕ) → cond (not (elim owner as (λ _. Bool) [ None ↦ false | Some by ↦ by == who ])) owner None ≡ cond (is_at owner who) None owner
given-up None who = refl
given-up (Some by) who = by_test (by == who)
  where
    by_test : (b : Bool) → cond (not b) (Some by) None ≡ cond b None (Some by)
    by_test true = refl
    by_test false = refl

and-true : (b : Bool) → (b && true) ≡ b
and-true true = refl
and-true false = refl

and-false : (b : Bool) → (b && false) ≡ false
and-false true = refl
and-false false = refl

-- ---- the commands but COMMIT

module _ (coming : List Outcome) (definitions : List Def) (names : List (List ℕ)) (sessions : List Session) (disk : HistoryDisk) (s : Session) (fits : SharedFits definitions sessions disk.state) (own_place : slice_get sessions s.who ≡ Some s) (view : ViewState) (attached : s.view ≡ Some view) where
  abbrev shared : Workspace
  shared = disk.state

  abbrev bodies : Bodies Body Change
  bodies = bodies_of shared.definitions

  abbrev pub MovesTo : Command → Turn HistoryDisk → Type 0
  MovesTo own t = Moves own disk s view t

  abbrev pub MovesTurn : Command → Turn Workspace → Type 0
  MovesTurn own t = MovesTo own (unwritten_turn disk t)

  abbrev MovesOne : Command → Workspace → ℕ → ObjectView → ObjectView → Type 0
  MovesOne own after object old new = MovesBy own shared after object old new

  good : (object : ℕ) (found : ObjectView) → object_of view object ≡ Some found → IsGood found
  good object found there = if-some IsGood (object_of view object) found there (goods shared s.who view (fitting definitions names sessions shared s fits own_place view attached) object)

  stands : (object : ℕ) (found : ObjectView) → object_of view object ≡ Some found → kept_at (standing bodies shared) object ≡ Some (object_kept bodies shared object)
  stands object found there = kept-stands bodies shared object found.kind (kept-kind definitions names sessions shared s fits own_place view attached object found there)

  pub quiet : (own : Command) (refusal : Refusal) → MovesTurn own (record { answer = Refused refusal; session = s; shared = shared })
  quiet own refusal = inl (record { refused = refl; same_session = refl; same_state = refl })

  -- each object that is seen moves
  pub each_moves : (own : Command) (answer : Answer) (after : Workspace) (change : ℕ → ObjectView → ObjectView) (moved : Session) → is_refusal answer ≡ false → moves_view own ≡ true → moved.view ≡ Some (each change view) → moved.mode ≡ s.mode → ((at : ℕ) (found : ObjectView) → (change at found).kind ≡ found.kind) → ((at : ℕ) (found : ObjectView) → object_of view at ≡ Some found → MovesOne own after at found (change at found)) → MovesTurn own (record { answer = answer; session = moved; shared = after })
  each_moves own answer after change moved done other is mode same one = inr (inr (record {
    done = done;
    other = other;
    view_after = each change view;
    attached = is;
    mode_is = mode;
    kinds = kinds-each 0 change view.objects same;
    each = λ object found there. (change object found, object_in-each 0 change view.objects object object (omega arith) ∙ ap (option_map (change object)) there, one object found there);
  }))

  -- the session stays as it is
  pub stays : (own : Command) (answer : Answer) → is_refusal answer ≡ false → moves_view own ≡ true → ((object : ℕ) (found : ObjectView) → object_of view object ≡ Some found → found ≡ seen_after shared object own found) → MovesTurn own (record { answer = answer; session = s; shared = shared })
  stays own answer done other same = inr (inr (record {
    done = done;
    other = other;
    view_after = view;
    attached = attached;
    mode_is = refl;
    kinds = refl;
    each = λ object found there. (found, there, record { sees = same object found there; generation = inl (record { none_added = refl; number = refl; body = refl }) });
  }))

  -- ---- a command of a session that is attached

  abbrev pub Begun_as : Command → Begun × Session → Type 0
  Begun_as own b = MovesTo own (turn_from (by_history coming) definitions names disk (kept_waiting own b))

  abbrev pub ByView : Command → Option ViewState → Type 0
  ByView own those = Begun_as own (elim those [ None ↦ (Said (Refused not_attached), s) | Some one ↦ sharing s one own ])

  -- ---- an assignment, MAINTAIN, SHOW

  -- an object's private or staged bodies alone change
  keeps_one : (own : Command) (change : ObjectView → ObjectView) → ((found : ObjectView) → (change found).number ≡ found.number) → ((found : ObjectView) → (change found).base ≡ found.base) → (at : ℕ) (found : ObjectView) (test : Bool) → KeepsGeneration shared shared at found (cond test (change found) found)
  keeps_one own change number base at found true = record { none_added = refl; number = number found; body = base found }
  keeps_one own change number base at found false = record { none_added = refl; number = refl; body = refl }

  abbrev Write_as : ℕ → Cells → Option ViewState → Type 0
  Write_as object cells those = Begun_as (command.Write object cells) (elim those [ None ↦ (Said (Refused not_attached), s) | Some one ↦ write_asked definitions s one object cells ])

  write_moves : (object : ℕ) (cells : Cells) → Write_as object cells (Some view)
  write_moves object cells = by (nat_le (rule.private_pages (rule.written view object cells) object) 65536)
    where
      own : Command
      own = command.Write object cells

      by : (few : Bool) → Begun_as own (cond few (Said Done, record s { view = Some (rule.written view object cells) }) (Said (Refused (full (name_of definitions object))), s))
      by false = quiet own (full (name_of definitions object))
      by true =
          each_moves own Done shared (only object (rule.with_cells cells)) (record s { view = Some (rule.written view object cells) }) refl refl refl refl (λ at found. kind-cond (object == at) (rule.with_cells cells found) found refl)
          (λ at found there. record { sees = refl; generation = inl (keeps_one own (rule.with_cells cells) (λ one. refl) (λ one. refl) at found (object == at)) })

  maintain_moves : (object : ℕ) (values : DimensionState) → ByView (command.Maintain object values) (Some view)
  maintain_moves object values =
      let own : Command = command.Maintain object values in
      each_moves own Done shared (only object (rule.with_values values)) (record s { view = Some (rule.maintained view object values) }) refl refl refl refl (λ at found. kind-cond (object == at) (rule.with_values values found) found refl)
      (λ at found there. record { sees = refl; generation = inl (keeps_one own (rule.with_values values) (λ one. refl) (λ one. refl) at found (object == at)) })

  show_moves : (cell : Cell) → ByView (command.Show cell) (Some view)
  show_moves cell = stays (command.Show cell) (Shown cell) refl refl (λ object found there. refl)

  -- ---- ACQUIRE, RESYNC

  kind-renewed : (one : Option Fresh) (found : ObjectView) → (rule.renewed one found).kind ≡ found.kind
  kind-renewed None found = refl
  kind-renewed (Some one) found = refl

  module _ (keep fresh same : List ℕ) where
    abbrev acquiring : Command
    acquiring = command.Acquire keep fresh same

    abbrev owners_after : Workspace
    owners_after = record shared { owners = taken shared.owners s.who (taken_of (generations_in s keep) fresh) }

    abbrev granted : List Fresh
    granted = handed (standing bodies shared) fresh

    abbrev kept_one : Bool → ObjectView → ObjectView
    kept_one kept found = cond kept (rule.owning found) found

    abbrev acquired_by : Option Fresh → Bool → Bool → ObjectView → ObjectView
    acquired_by one named kept found = rule.renewed one (cond named (rule.owning (kept_one kept found)) (kept_one kept found))

    acquires_one : (at : ℕ) (found : ObjectView) → object_of view at ≡ Some found → MovesOne acquiring owners_after at found (acquired_by (rule.latest_of granted at) (is_named (rule.objects_of granted) at) (is_named keep at) found)
    acquires_one at found there =
        subst (λ (named : Bool). MovesOne acquiring owners_after at found (acquired_by (rule.latest_of granted at) named (is_named keep at) found)) (sym (named-latest granted at))
        (subst (λ (one : Option Fresh). MovesOne acquiring owners_after at found (acquired_by one (is_some one) (is_named keep at) found)) (sym (handed-at bodies shared fresh at (stands at found there))) (by_fresh (is_named fresh at) (is_named keep at) refl refl))
      where
        by_fresh : (named kept : Bool) → is_named fresh at ≡ named → is_named keep at ≡ kept → MovesOne acquiring owners_after at found (acquired_by (cond named (Some (latest shared at)) None) (is_some (cond named (Some (latest shared at)) None)) kept found)
        by_fresh true true is keeps = record {
          sees = sym (ap (λ (b : Bool). cond b (rule.with_latest (latest shared at) (rule.owning found)) (cond (is_named keep at) (rule.owning found) found)) is);
          generation = inr (inl (record { asked = is; none_added = refl; has = record { number = refl; body = refl } }));
        }
        by_fresh true false is keeps = record {
          sees = sym (ap (λ (b : Bool). cond b (rule.with_latest (latest shared at) (rule.owning found)) (cond (is_named keep at) (rule.owning found) found)) is);
          generation = inr (inl (record { asked = is; none_added = refl; has = record { number = refl; body = refl } }));
        }
        by_fresh false true is keeps = record {
          sees = sym (ap (λ (b : Bool). cond b (rule.with_latest (latest shared at) (rule.owning found)) (cond (is_named keep at) (rule.owning found) found)) is ∙ ap (λ (b : Bool). cond b (rule.owning found) found) keeps);
          generation = inl (record { none_added = refl; number = refl; body = refl });
        }
        by_fresh false false is keeps = record {
          sees = sym (ap (λ (b : Bool). cond b (rule.with_latest (latest shared at) (rule.owning found)) (cond (is_named keep at) (rule.owning found) found)) is ∙ ap (λ (b : Bool). cond b (rule.owning found) found) keeps);
          generation = inl (record { none_added = refl; number = refl; body = refl });
        }

    acquire_moves : ByView acquiring (Some view)
    acquire_moves =
        acquire_turn definitions names sessions shared s fits own_place view attached (MovesTurn acquiring) keep fresh same
        (λ object is. quiet acquiring (not_acquired (name_of definitions object)))
        (λ object by is. quiet acquiring (owned_by (name_of definitions object) (name_at names by)))
        (λ object number is. quiet acquiring (newer (name_of definitions object) number))
        (λ none. each_moves acquiring Done owners_after (λ at found. acquired_by (rule.latest_of granted at) (is_named (rule.objects_of granted) at) (is_named keep at) found) (record s { view = option_map (λ (one : ViewState). rule.acquired one keep granted) s.view }) refl refl
        (ap (option_map (λ (one : ViewState). rule.acquired one keep granted)) attached) refl
        (λ at found. kind-renewed (rule.latest_of granted at) (cond (is_named (rule.objects_of granted) at) (rule.owning (kept_one (is_named keep at) found)) (kept_one (is_named keep at) found)) ∙ kind-cond (is_named (rule.objects_of granted) at) (rule.owning (kept_one (is_named keep at) found)) (kept_one (is_named keep at) found) refl ∙ kind-cond (is_named keep at) (rule.owning found) found refl)
        acquires_one)

  module _ (objects : List ℕ) where
    abbrev resyncing : Command
    resyncing = command.Resync objects

    abbrev renewals : List Fresh
    renewals = handed (standing bodies shared) objects

    resyncs_one : (at : ℕ) (found : ObjectView) → object_of view at ≡ Some found → MovesOne resyncing shared at found (rule.renewed (rule.latest_of renewals at) found)
    resyncs_one at found there =
        subst (λ (one : Option Fresh). MovesOne resyncing shared at found (rule.renewed one found)) (sym (handed-at bodies shared objects at (stands at found there))) (by_named (is_named objects at) refl)
      where
        by_named : (named : Bool) → is_named objects at ≡ named → MovesOne resyncing shared at found (rule.renewed (cond named (Some (latest shared at)) None) found)
        by_named true is = record {
          sees = sym (ap (λ (b : Bool). cond b (rule.with_latest (latest shared at) found) found) is);
          generation = inr (inl (record { asked = is; none_added = refl; has = record { number = refl; body = refl } }));
        }
        by_named false is = record {
          sees = sym (ap (λ (b : Bool). cond b (rule.with_latest (latest shared at) found) found) is);
          generation = inl (record { none_added = refl; number = refl; body = refl });
        }

    resync_moves : ByView resyncing (Some view)
    resync_moves =
        resync_turn definitions names sessions shared s fits own_place view attached (MovesTurn resyncing) objects (λ object. quiet resyncing (not_acquired (name_of definitions object)))
        (λ none. each_moves resyncing Done shared (λ at found. rule.renewed (rule.latest_of renewals at) found) (record s { view = option_map (λ (one : ViewState). rule.resynced one renewals) s.view }) refl refl
        (ap (option_map (λ (one : ViewState). rule.resynced one renewals)) attached) refl (λ at found. kind-renewed (rule.latest_of renewals at) found) resyncs_one)

    -- ---- RELEASE

    abbrev releasing : Command
    releasing = command.Release objects

    abbrev released_by : Bool → Bool → ObjectView → ObjectView
    released_by named staged found = cond named (cond staged (record found { leaving = true }) (rule.giving_up found)) found

    keeps-releasing : (after : Workspace) → ((at : ℕ) (found : ObjectView) → KeepsGeneration shared after at found found) → (at : ℕ) (found : ObjectView) (named staged : Bool) → KeepsGeneration shared after at found (released_by named staged found)
    keeps-releasing after keeps at found true true = record { none_added = (keeps at found).none_added; number = refl; body = refl }
    keeps-releasing after keeps at found true false = record { none_added = (keeps at found).none_added; number = refl; body = refl }
    keeps-releasing after keeps at found false staged = keeps at found

    releases_so : (after : Workspace) (moved : Session) → ((at : ℕ) (found : ObjectView) → KeepsGeneration shared after at found found) → moved.view ≡ Some (rule.released view objects) → moved.mode ≡ s.mode → MovesTurn releasing (record { answer = Done; session = moved; shared = after })
    releases_so after moved keeps is mode =
        each_moves releasing Done after (listed objects rule.releasing) moved refl refl is mode
        (λ at found. kind-cond (is_named objects at) (rule.releasing found) found (kind-cond (rule.is_staged found) (record found { leaving = true }) (rule.giving_up found) refl))
        (λ at found there. record { sees = refl; generation = inl (keeps-releasing after keeps at found (is_named objects at) (rule.is_staged found)) })

    release_by : (unstaged : List ℕ) → Begun_as releasing (release_asked s view objects unstaged)
    release_by [] = releases_so shared (record s { view = Some (rule.released view objects) }) (λ at found. record { none_added = refl; number = refl; body = refl }) refl refl
    release_by (object ∷ unstaged) =
        release_turn definitions names sessions shared s fits own_place view attached (MovesTurn releasing) objects (λ at. quiet releasing (not_acquired (name_of definitions at))) (object ∷ unstaged)
        (λ none. releases_so (record shared { owners = given_up shared.owners s.who (object ∷ unstaged) }) (record s { view = option_map (λ (one : ViewState). rule.released one objects) s.view }) (λ at found. record { none_added = refl; number = refl; body = refl }) (ap (option_map (λ (one : ViewState). rule.released one objects)) attached) refl)

    release_moves : ByView releasing (Some view)
    release_moves = release_by (unstaged_in view objects)

    -- ---- REVERT, UPDATE

    abbrev reverting : Command
    reverting = command.Revert objects

    keeps-cond : (b : Bool) (at : ℕ) (found changed : ObjectView) → changed.number ≡ found.number → changed.base ≡ found.base → KeepsGeneration shared shared at found (cond b changed found)
    keeps-cond true at found changed number body = record { none_added = refl; number = number; body = body }
    keeps-cond false at found changed number body = record { none_added = refl; number = refl; body = refl }

    revert_moves : ByView reverting (Some view)
    revert_moves =
        each_moves reverting Done shared (listed (or_all (seen_objects view) objects) rule.reverting) (record s { view = Some (rule.reverted view (or_all (seen_objects view) objects)) }) refl refl refl refl
        (λ at found. kind-cond (is_named (or_all (seen_objects view) objects) at) (rule.reverting found) found refl)
        (λ at found there. record { sees = ap (λ (b : Bool). cond b (rule.reverting found) found) (covered objects at found there); generation = inl (keeps-cond (is_named (or_all (seen_objects view) objects) at) at found (rule.reverting found) refl refl) })
      where
        covered : (those : List ℕ) (at : ℕ) (found : ObjectView) → object_of view at ≡ Some found → is_named (or_all (seen_objects view) those) at ≡ covers those at
        covered [] at found there = names-numbers (λ (one : ObjectView). true) 0 view.objects at at (omega arith) ∙ ap (passes (λ (one : ObjectView). true)) there
        covered (first ∷ those) at found there = refl

    abbrev updating : Command
    updating = command.Update objects

    update_moves : AreOwned view objects → ByView updating (Some view)
    update_moves owned =
        each_moves updating Done shared (listed (or_all (owned_objects view) objects) rule.staging) (record s { view = Some (rule.updated view (or_all (owned_objects view) objects)) }) refl refl refl refl
        (λ at found. kind-cond (is_named (or_all (owned_objects view) objects) at) (rule.staging found) found refl)
        (λ at found there. record { sees = ap (λ (b : Bool). cond b (rule.staging found) found) (covered objects owned at found there); generation = inl (keeps-cond (is_named (or_all (owned_objects view) objects) at) at found (rule.staging found) refl refl) })
      where
        named-owned : (those : List ℕ) → AreOwned view those → (at : ℕ) (found : ObjectView) → object_of view at ≡ Some found → (named : Bool) → is_named those at ≡ named → named ≡ (found.owned && named)
        named-owned those owned at found there true is = sym (ap (λ (b : Bool). b && true) (some-and (λ (one : ObjectView). one.owned ≡ true) (object_of view at) found there (owned-named view those at owned is)))
        named-owned those owned at found there false is = sym (and-false found.owned)

        covered : (those : List ℕ) → AreOwned view those → (at : ℕ) (found : ObjectView) → object_of view at ≡ Some found → is_named (or_all (owned_objects view) those) at ≡ (found.owned && covers those at)
        covered [] owned at found there = names-numbers is_owned 0 view.objects at at (omega arith) ∙ ap (passes is_owned) there ∙ sym (and-true found.owned)
        covered (first ∷ those) owned at found there = named-owned (first ∷ those) owned at found there (is_named (first ∷ those) at) refl

  -- ---- AW DETACH

  detach_moves : ByView command.Detach (Some view)
  detach_moves = inr (inl (record {
    by_detach = refl;
    done = refl;
    detached = refl;
    owners = λ object. owner_of-all_given_up shared.owners s.who object ∙ given-up (owner_of shared.owners object) s.who;
    history = refl;
  }))

  -- ---- all but COMMIT

  attach_moves : (mode : Mode) → MovesTo (command.Attach mode) (turn (by_history coming) definitions names disk s (command.Attach mode))
  attach_moves mode =
      subst (λ (those : Option ViewState). Begun_as (command.Attach mode) (elim those [ None ↦ (Ask (entry.Attach s.who), s) | Some one ↦ (Said (Refused already_attached), s) ])) (sym attached) (quiet (command.Attach mode) already_attached)

  -- ---- COMMIT

  -- what is staged is the base from now on
  abbrev moved_on : ObjectView → ObjectView
  moved_on found = record found { number = min (found.number + 1) 18446744073709551615; base = found.staged }

  unstaged : (found : ObjectView) → IsGood found → found.staged ≡ found.base → rule.is_staged found ≡ false
  unstaged found its same = ap (λ (body : Body). is_some (difference found.base body)) same ∙ difference-itself gives_newer found.kind found.base its.forms.base

  -- where nothing is staged
  as-unstaged : (found : ObjectView) → rule.is_staged found ≡ false → rule.after_commit found ≡ cond found.owned (rule.leaving_now found) found
  as-unstaged found none = ap (λ (b : Bool). cond found.owned (rule.leaving_now (cond b (moved_on found) found)) found) none

  as-staged : (found : ObjectView) → found.owned ≡ true → rule.is_staged found ≡ true → rule.after_commit found ≡ rule.leaving_now (moved_on found)
  as-staged found own staged =
      ap (λ (b : Bool). cond b (rule.leaving_now (rule.committing found)) found) own ∙ ap (λ (b : Bool). rule.leaving_now (cond b (moved_on found) found)) staged

  nothing-moves : (found : ObjectView) → rule.is_staged found ≡ false → found.leaving ≡ false → found ≡ rule.after_commit found
  nothing-moves found none staying =
      sym (as-unstaged found none ∙ ap (λ (b : Bool). cond found.owned (cond b (rule.giving_up found) found) found) staying ∙ either found.owned)
    where
      either : (b : Bool) → cond b found found ≡ found
      either true = refl
      either false = refl

  abbrev committed_state : Workspace
  committed_state = committed definitions names sessions shared s fits own_place view attached

  uncommitted : rule.changes view ≡ [] → leaving view ≡ [] → (object : ℕ) (found : ObjectView) → object_of view object ≡ Some found → found ≡ rule.after_commit found
  uncommitted none_made none_leaves object found there =
      let its = good object found there in
      let same : found.staged ≡ found.base = ⊎_elim (λ none. none.1) (λ tells. never tells.0 (ap (change_of bodies object) (sym none_made) ∙ tells.1)) (told definitions names sessions shared s fits own_place view attached object found there) in
      nothing-moves found (unstaged found its same)
      (sym (names-numbers (λ (one : ObjectView). one.leaving) 0 view.objects object object (omega arith) ∙ ap (passes (λ (one : ObjectView). one.leaving)) there)
      ∙ ap (λ (those : List ℕ). is_named those object) (sym (leaving-are shared s.who view (fitting definitions names sessions shared s fits own_place view attached)) ∙ none_leaves))
    where
      never : {A : Type 0} (c : Change) → None ≡ Some c → A
      never c is = cc

  committed_one : first_worn (standing bodies shared) (rule.changes view) ≡ None → (object : ℕ) (found : ObjectView) → object_of view object ≡ Some found → MovesOne command.Commit committed_state object found (rule.after_commit found)
  committed_one unworn object found there = record {
    sees = refl;
    generation = ⊎_elim (λ none. inl (still none.1)) (λ tells. inr (inr (moves tells.2.0 tells.2.1))) (told definitions names sessions shared s fits own_place view attached object found there);
  }
    where
      its : IsGood found
      its = good object found there

      is_committed : IsCommitted shared committed_state object found
      is_committed = committed_so definitions names sessions shared s fits own_place view attached object found there committed_state.owners (rule.changes view) refl

      number-as : (own leaves : Bool) → (cond own (cond leaves (rule.giving_up found) found) found).number ≡ found.number
      number-as true true = refl
      number-as true false = refl
      number-as false leaves = refl

      base-as : (own leaves : Bool) → (cond own (cond leaves (rule.giving_up found) found) found).base ≡ found.base
      base-as true true = refl
      base-as true false = refl
      base-as false leaves = refl

      still : found.staged ≡ found.base → KeepsGeneration shared committed_state object found (rule.after_commit found)
      still same =
          subst (KeepsGeneration shared committed_state object found) (sym (as-unstaged found (unstaged found its same)))
          (record { none_added = is_committed.kept same; number = number-as found.owned found.leaving; body = base-as found.owned found.leaving })

      moves : found.owned ≡ true → found.staged ≢ found.base → AddsGeneration command.Commit shared committed_state object found (rule.after_commit found)
      moves own differs =
          let staged : rule.is_staged found ≡ true = difference-other gives_newer found.base found.staged its.forms.base.valid its.forms.staged.valid (alike found.kind found.base found.staged its.forms.base.form its.forms.staged.form) (λ same. differs (sym same)) in
          let c = staged-changed shared s.who view (fitting definitions names sessions shared s fits own_place view attached) object found there own staged in
          let small = number-small bodies shared (rule.changes view) object found.kind c.0 (kept-kind definitions names sessions shared s fits own_place view attached object found there) unworn c.1 in
          let extended = is_committed.changed differs in
          let has : HasLatest committed_state object (moved_on found) = record { number = omega (arith, extended.number, extended.had.number, small); body = sym extended.body } in
          subst (AddsGeneration command.Commit shared committed_state object found) (sym (as-staged found own staged)) (record { by_commit = refl; extended = extended; has = whether found.leaving has })
        where
          whether : (leaves : Bool) → HasLatest committed_state object (moved_on found) → HasLatest committed_state object (cond leaves (rule.giving_up (moved_on found)) (moved_on found))
          whether true has = record { number = has.number; body = has.body }
          whether false has = has

  kind-after : (found : ObjectView) → (rule.after_commit found).kind ≡ found.kind
  kind-after found =
      kind-cond found.owned (rule.leaving_now (rule.committing found)) found (kind-cond (rule.committing found).leaving (rule.giving_up (rule.committing found)) (rule.committing found) refl ∙ kind-cond (rule.is_staged found) (moved_on found) found refl)

  commit_plain : MovesTurn command.Commit (turn history_machine definitions names shared s command.Commit)
  commit_plain =
      subst (λ (those : Option ViewState). MovesTurn command.Commit (turn_from history_machine definitions names shared (kept_waiting command.Commit (elim those [ None ↦ (Said (Refused not_attached), s) | Some one ↦ sharing s one command.Commit ])))) (sym attached)
      (commit_turn definitions names sessions shared s fits own_place view attached (MovesTurn command.Commit)
      (λ none_made none_leaves. stays command.Commit Done refl refl (uncommitted none_made none_leaves))
      (λ many. quiet command.Commit too_large)
      (λ object worn. quiet command.Commit (full (name_of definitions object)))
      (λ unworn. each_moves command.Commit Done committed_state (λ at found. rule.after_commit found) (record s { view = option_map rule.committed s.view }) refl refl (ap (option_map rule.committed) attached) refl (λ at found. kind-after found) (committed_one unworn)))

  -- what holds of a turn holds of one with the same answer, session and state
  same-moves : (own : Command) (one other : Turn HistoryDisk) → one.answer ≡ other.answer → one.session ≡ other.session → one.shared.state ≡ other.shared.state → MovesTo own one → MovesTo own other
  same-moves own one other answer session state moves =
      let P : Answer → Session → Workspace → Type 0 = λ a its w. MovesTo own (record { answer = a; session = its; shared = record other.shared { state = w } }) in
      subst (λ (a : Answer). P a other.session other.shared.state) answer (subst (λ (its : Session). P one.answer its other.shared.state) session (subst (λ (w : Workspace). P one.answer one.session w) state (again moves)))
    where
      again : MovesTo own one → MovesTo own (record { answer = one.answer; session = one.session; shared = record other.shared { state = one.shared.state } })
      again moves =
          ⊎_elim (λ it. inl (record { refused = it.refused; same_session = it.same_session; same_state = it.same_state })) (λ rest. ⊎_elim (λ it. inr (inl (record { by_detach = it.by_detach; done = it.done; detached = it.detached; owners = it.owners; history = it.history })))
          (λ it. inr (inr (record { done = it.done; other = it.other; view_after = it.view_after; attached = it.attached; mode_is = it.mode_is; kinds = it.kinds; each = it.each }))) rest) moves

  commit_moves : MovesTo command.Commit (turn (by_history coming) definitions names disk s command.Commit)
  commit_moves =
      turn-cases history_machine (among coming) definitions names disk s command.Commit (MovesTo command.Commit) (λ none. commit_plain) (λ asked writing. same-moves command.Commit (unwritten_turn disk (turn history_machine definitions names disk.state s command.Commit)) (done_turn disk (turn history_machine definitions names disk.state s command.Commit) asked) refl refl refl commit_plain)
      (λ asked writing. inl (record { refused = refl; same_session = refl; same_state = refl }))

  -- ---- all commands

  of_view : (own : Command) → ByView own (Some view) → ByView own s.view
  of_view own moves = subst (ByView own) (sym attached) moves

  pub moves_on_disk : (own : Command) → IsReady s own → MovesTo own (turn (by_history coming) definitions names disk s own)
  moves_on_disk (command.Attach mode) ready = attach_moves mode
  moves_on_disk command.Detach ready = of_view command.Detach detach_moves
  moves_on_disk (command.Acquire keep fresh same) ready = of_view (command.Acquire keep fresh same) (acquire_moves keep fresh same)
  moves_on_disk (command.Resync objects) ready = of_view (command.Resync objects) (resync_moves objects)
  moves_on_disk (command.Release objects) ready = of_view (command.Release objects) (release_moves objects)
  moves_on_disk (command.Revert objects) ready = of_view (command.Revert objects) (revert_moves objects)
  moves_on_disk (command.Update objects) ready = of_view (command.Update objects) (update_moves objects (if-some (λ (one : ViewState). AreOwned one objects) s.view view attached ready))
  moves_on_disk command.Commit ready = commit_moves
  moves_on_disk (command.Write object cells) ready = subst (Write_as object cells) (sym attached) (write_moves object cells)
  moves_on_disk (command.Maintain object values) ready = of_view (command.Maintain object values) (maintain_moves object values)
  moves_on_disk (command.Show cell) ready = of_view (command.Show cell) (show_moves cell)

-- ---- AW ATTACH

-- a session that attaches sees each kept object so
attached-each : (w : Workspace) (who object : ℕ) → object_of (rule.attached who w.definitions (given w)) object ≡ first_seen w object
attached-each w who object = by_found (object_of those object) refl
  where
    those : ViewState
    those = rule.attached who w.definitions (given w)

    by_kind : object_of those object ≡ None → (kind : Option DefKind) → object_in (kept_kinds w.definitions) object ≡ kind → None ≡ first_seen w object
    by_kind none None is = sym (ap (option_map (λ (kind : DefKind). rule.seen kind (latest w object))) is)
    by_kind none (Some kind) is =
        let it = kept-seen w.definitions those object kind (attached-kinds w who) is in
        absurd (none-some it.0 (sym none ∙ it.1))

    by_found : (found : Option ObjectView) → object_of those object ≡ found → found ≡ first_seen w object
    by_found None none = by_kind none (object_in (kept_kinds w.definitions) object) refl
    by_found (Some found) there =
        let it = seen-latest w who object found there in
        let kind : found.kind ≡ it.0 = ap (λ (one : ObjectView). one.kind) it.1 in
        ap Some it.1 ∙ sym (ap (option_map (λ (kind : DefKind). rule.seen kind (latest w object))) (seen-kept w.definitions those object found (attached-kinds w who) there ∙ ap Some kind))

pub attach_gives_latest : (coming : List Outcome) → AttachGivesLatest coming
attach_gives_latest coming names disk s mode unattached =
    let definitions = disk.state.definitions in
    let own : Command = command.Attach mode in
    subst (λ (those : Option ViewState). Attaches disk mode (turn_from (by_history coming) definitions names disk (kept_waiting own (elim those [ None ↦ (Ask (entry.Attach s.who), s) | Some view ↦ (Said (Refused already_attached), s) ])))) (sym unattached) (record {
      answer = refl;
      shared = refl;
      mode_is = refl;
      view = rule.attached s.who definitions (given disk.state);
      attached = refl;
      kinds = attached-kinds disk.state s.who;
      each = attached-each disk.state s.who;
    })

-- ---- a session that isn't attached

-- it is refused and stays as it was, but for an AW ATTACH
module _ (coming : List Outcome) (definitions : List Def) (names : List (List ℕ)) (disk : HistoryDisk) (s : Session) (detached : s.view ≡ None) where
  abbrev IsRefusedTurn : Turn HistoryDisk → Type 0
  IsRefusedTurn t = (is_refusal t.answer ≡ true) × (t.session ≡ s)

  abbrev Stays : Command → Begun × Session → Type 0
  Stays own b = IsRefusedTurn (turn_from (by_history coming) definitions names disk (kept_waiting own b))

  stays-shared : (own : Command) → Stays own (elim s.view [ None ↦ (Said (Refused not_attached), s) | Some one ↦ sharing s one own ])
  stays-shared own = subst (λ (those : Option ViewState). Stays own (elim those [ None ↦ (Said (Refused not_attached), s) | Some one ↦ sharing s one own ])) (sym detached) (refl, refl)

  pub stays_detached : (own : Command) → ((mode : Mode) × (own ≡ command.Attach mode)) ⊎ IsRefusedTurn (turn (by_history coming) definitions names disk s own)
  stays_detached (command.Attach mode) = inl (mode, refl)
  stays_detached command.Detach = inr (stays-shared command.Detach)
  stays_detached (command.Acquire keep fresh same) = inr (stays-shared (command.Acquire keep fresh same))
  stays_detached (command.Resync objects) = inr (stays-shared (command.Resync objects))
  stays_detached (command.Release objects) = inr (stays-shared (command.Release objects))
  stays_detached (command.Revert objects) = inr (stays-shared (command.Revert objects))
  stays_detached (command.Update objects) = inr (stays-shared (command.Update objects))
  stays_detached command.Commit = inr (stays-shared command.Commit)
  stays_detached (command.Write object cells) =
      inr (subst (λ (those : Option ViewState). Stays (command.Write object cells) (elim those [ None ↦ (Said (Refused not_attached), s) | Some one ↦ write_asked definitions s one object cells ])) (sym detached) (refl, refl))
  stays_detached (command.Maintain object values) = inr (stays-shared (command.Maintain object values))
  stays_detached (command.Show cell) = inr (stays-shared (command.Show cell))

-- ---- after any lines

module _ (names : List (List ℕ)) (records : List Decoded) (coming : List Outcome) (events : List Event) (can : CanBeOpened records) where
  abbrev reached : HistoryWorld
  reached = world_at names records coming events

  pub own_commands_move : OwnCommandsMove coming (world_at names records coming events)
  own_commands_move disk who session view is found attached =
      moves_on_disk coming reached.definitions reached.names reached.sessions disk session (fits_at names records coming events can disk is) (found_at_number names records coming events can disk who session is found) view attached
