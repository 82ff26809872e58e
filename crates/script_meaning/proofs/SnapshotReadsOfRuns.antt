-- What a session sees of an object is what its own lines gave it, and one that attached for reading alone owns nothing.
use Rattle.std.specs.Prelude.{◌≡◌, ◌≢◌, ◌<◌, ◌++◌, ◌&&◌, ◌==◌, ℕ, zero, suc, Bool, true, false, not, cond, List, [], ◌∷◌, ◌+◌, length, Option, Some, None, IsSome, slice_get, slice_index_or, slice_set, refl}
use Rattle.std.specs.Option.{ForSome, option_map, option_and_then}
use Rattle.std.proofs.Common.{◌∙◌, ap, ap₂, length-append, sym, subst, subst₂, ⊎_elim, arith, append-nil, append_assoc}
use Rattle.std.proofs.lemmas.Bool.{eq-eqb, ne_eqb, cases_eq, true≢false}
use Rattle.std.proofs.lemmas.Option.{none-some, same_Some, slice_get-get_or}
use Rattle.aw_schema.specs.declared.definition.Def.{Def}
use Rattle.aw_body.specs.Owners.{owner_of}
use Rattle.aw_body.specs.KeptBodies.{bodies_of}
use Rattle.aw_codec.specs.declared.record.Decoded.{Decoded}
use Rattle.dml_tree.specs.declared.statement.Mode.{Mode}
use Rattle.mv_core.specs.Workspace.{Workspace}
use Rattle.mv_view.specs.Each.{object_in}
use Rattle.mv_view.specs.Fit as fit
use Rattle.mv_view.specs.ViewState.{ObjectView, ViewState, object_of, kept_kinds}
use Rattle.ses_step.specs.declared.answer.Answer.{Answer}
use Rattle.ses_step.specs.declared.answer.Answer.TheVariants as answer
use Rattle.ses_step.specs.declared.command.Asked.{Asked}
use Rattle.ses_step.specs.declared.command.Asked.TheVariants.{Runs, Refused}
use Rattle.ses_step.specs.declared.command.Command.{Command}
use Rattle.ses_step.specs.declared.command.Command.TheVariants as command
use Rattle.ses_step.specs.declared.session.Known.{Known as Session}
use Rattle.ses_step.specs.Answers.{answer_of}
use Rattle.ses_step.specs.SessionLines.{asked}
use Rattle.ses_step.specs.Sessions.{new_session, seen_in, IsReady}
use Rattle.script_world.specs.Worlds.{Event, Answered, session_of, silent, with_definitions, with_session, own_session, begun_so, commanded, shared_of, closed, settled, answered, world_after, is_refused}
use Rattle.script_world.specs.Outcomes.{Outcome, among}
use Rattle.script_world.proofs.callers.Appending.{world_after-append}
use Rattle.script_world.proofs.callers.Moves.{MayTurn}
use Rattle.script_world.proofs.callers.Walk.{Rests, walk}
use Rattle.script_meaning.specs.Fit.{SharedFits, ViewFits}
use Rattle.script_meaning.specs.Language.{language, Written, begin_asked, HistoryDisk, HistoryWorld, by_history}
use Rattle.aw_store.specs.StoredRecords.{CanBeOpened}
use Rattle.script_meaning.specs.SnapshotReads.{first_seen, Attaches, seen_after, is_refusal, moves_view, HasDetached, HasMoved, seen_now, seen_by, seen_on, seen_at, SeesItsOwn, KeepsOwned}
use Rattle.script_meaning.specs.Transcript.{opening, world_at}
use Rattle.script_meaning.specs.Turns.{with_turn, Turn, turn, asked_under, asked_of}
use Rattle.script_world.proofs.callers.Elements.{slice_get-set_other}
use Rattle.script_meaning.proofs.KeptKinds.{if-some, kept-seen, seen-before}
use Rattle.script_meaning.proofs.ReachableWorlds.{WorldStands, taken_up-stands, opening_sessions, world_fits, always_stands, always_fits, fits_at}
use Rattle.script_meaning.proofs.ReadyLines.{IsReadyFor, asked-ready}
use Rattle.script_meaning.proofs.SnapshotReads.{attach_gives_latest, stays_detached, moves_on_disk}
use Rattle.script_meaning.proofs.TurnCases.{some-kind}
use Rattle.script_meaning.proofs.callers.TakingTurns.{commanded-turn}

slice_get-set_same : {X : Type 0} (xs : List X) (i : ℕ) (x y : X) → slice_get xs i ≡ Some x → slice_get (slice_set xs i y) i ≡ Some y
slice_get-set_same [] i x y is = absurd (none-some x is)
slice_get-set_same (z ∷ xs) zero x y is = refl
slice_get-set_same (z ∷ xs) (suc i) x y is = slice_get-set_same xs i x y is

-- what holds of no events, and of one event more, holds of all
by_events : (P : List Event → Type 0) → P [] → ((events : List Event) (event : Event) → P events → P (events ++ event ∷ [])) → (events : List Event) → P events
by_events P none more events = from [] none events
  where
    from : (passed : List Event) → P passed → (events : List Event) → P (passed ++ events)
    from passed it [] = subst P (sym (append-nil passed)) it
    from passed it (event ∷ events) = subst P (append_assoc passed (event ∷ []) events) (from (passed ++ event ∷ []) (more passed event it) events)

seen_on-push : (coming : List Outcome) (who object : ℕ) (w : HistoryWorld) (events : List Event) (event : Event) (seen : Option ObjectView) →
    let last = world_after (by_history coming) w events in
    let a = answered (by_history coming) last event in
    seen_on coming who object w (events ++ event ∷ []) seen ≡ seen_by a.world.shared who object (asked_of last event) (is_refused a.answer) (seen_on coming who object w events seen)
seen_on-push coming who object w [] event seen = refl
seen_on-push coming who object w (one ∷ events) event seen =
    let a = answered (by_history coming) w one in
    seen_on-push coming who object a.world events event (seen_by a.world.shared who object (asked_of w one) (is_refused a.answer) seen)

and-false : (b : Bool) → (b && false) ≡ false
and-false true = refl
and-false false = refl

-- an event of another session, or of none
seen_by-other : (shared : Option HistoryDisk) (who object : ℕ) (own : Option (ℕ × Asked)) (refused : Bool) → ForSome own (λ it. it.0 ≢ who) → (seen : Option ObjectView) → seen_by shared who object own refused seen ≡ seen
seen_by-other shared who object None refused differs seen = refl
seen_by-other shared who object (Some (place, Refused refusal)) refused differs seen = refl
seen_by-other shared who object (Some (place, Runs own)) refused differs seen =
    ap (λ (same : Bool). cond (same && not refused) (seen_now shared object own seen) seen) (ne_eqb place who (differs (place, Runs own) refl))

-- one that is refused
seen_by-refused : (shared : Option HistoryDisk) (who object : ℕ) (own : Option (ℕ × Asked)) (seen : Option ObjectView) → seen_by shared who object own true seen ≡ seen
seen_by-refused shared who object None seen = refl
seen_by-refused shared who object (Some (place, Refused refusal)) seen = refl
seen_by-refused shared who object (Some (place, Runs own)) seen =
    ap (λ (b : Bool). cond b (seen_now shared object own seen) seen) (and-false (place == who))

-- what is asked is asked of the session of the event
under-holds : (w : HistoryWorld) (P : ℕ → Type 0) (own : Option (ℕ × Written)) → ForSome own (λ it. P it.0) → ForSome (asked_under w own) (λ it. P it.0)
under-holds w P None holds found is = absurd (none-some found is)
under-holds w P (Some (place, written)) holds found is =
    subst P (ap (λ (it : ℕ × Asked). it.0) (same_Some (place, asked w.definitions (own_session w place) written.line written.from) found is)) (holds (place, written) refl)

-- one element more at the end, which is the default there
index-push : {X : Type 0} (xs : List X) (x d : X) (i : ℕ) → (i ≡ length xs → x ≡ d) → i < length xs + 1 → slice_index_or (xs ++ x ∷ []) i d ≡ slice_index_or xs i d
index-push [] x d zero same within = same refl
index-push [] x d (suc i) same within = absurd (omega arith)
index-push (y ∷ xs) x d zero same within = refl
index-push (y ∷ xs) x d (suc i) same within = index-push xs x d i (λ at. same (omega arith)) (omega arith)

-- ---- what a session sees

abbrev seen_with : ℕ → Option ViewState → Option ObjectView
seen_with object view = elim view [ None ↦ None | Some one ↦ object_of one object ]

abbrev seen_of : ℕ → List Session → ℕ → Option ObjectView
seen_of object sessions who = option_and_then (λ (session : Session). seen_in session object) (slice_get sessions who)

-- a new session sees nothing
push-seen : (object : ℕ) (sessions : List Session) (x : Session) → x.view ≡ None → (who : ℕ) → seen_of object (sessions ++ x ∷ []) who ≡ seen_of object sessions who
push-seen object [] x detached zero = ap (seen_with object) detached
push-seen object [] x detached (suc who) = refl
push-seen object (y ∷ sessions) x detached zero = refl
push-seen object (y ∷ sessions) x detached (suc who) = push-seen object sessions x detached who

-- by a command that moves what is seen
moved-now : (disk : HistoryDisk) (object : ℕ) (own : Command) (seen : Option ObjectView) → moves_view own ≡ true → seen_now (Some disk) object own seen ≡ option_map (seen_after disk.state object own) seen
moved-now disk object (command.Attach mode) seen is = absurd (true≢false (sym is))
moved-now disk object command.Detach seen is = absurd (true≢false (sym is))
moved-now disk object (command.Acquire keep fresh same) seen is = refl
moved-now disk object (command.Resync objects) seen is = refl
moved-now disk object (command.Release objects) seen is = refl
moved-now disk object (command.Revert objects) seen is = refl
moved-now disk object (command.Update objects) seen is = refl
moved-now disk object command.Commit seen is = refl
moved-now disk object (command.Write at cells) seen is = refl
moved-now disk object (command.Maintain at values) seen is = refl
moved-now disk object (command.Show cell) seen is = refl

answer-refused : (given : Answer) → is_refused (Some (answer_of given)) ≡ is_refusal given
answer-refused answer.Done = refl
answer-refused (answer.Shown cell) = refl
answer-refused (answer.Refused refusal) = refl

-- ---- a session's turn

module _ (coming : List Outcome) (definitions : List Def) (names : List (List ℕ)) (sessions : List Session) (disk : HistoryDisk) (s : Session) (fits : SharedFits definitions sessions disk.state) (own_place : slice_get sessions s.who ≡ Some s) (own : Command) (ready : IsReady s own) (object : ℕ) where
  abbrev t : Turn HistoryDisk
  t = turn (by_history coming) definitions names disk s own

  abbrev Sees : Type 0
  Sees = seen_in t.session object ≡ cond (not (is_refusal t.answer)) (seen_now (Some t.shared) object own (seen_in s object)) (seen_in s object)

  -- where it isn't refused
  accepted : is_refusal t.answer ≡ false → cond (not (is_refusal t.answer)) (seen_now (Some t.shared) object own (seen_in s object)) (seen_in s object) ≡ seen_now (Some t.shared) object own (seen_in s object)
  accepted done = ap (λ (b : Bool). cond (not b) (seen_now (Some t.shared) object own (seen_in s object)) (seen_in s object)) done

  still-sees : is_refusal t.answer ≡ true → t.session ≡ s → Sees
  still-sees refused same =
      ap (λ (it : Session). seen_in it object) same ∙ sym (ap (λ (b : Bool). cond (not b) (seen_now (Some t.shared) object own (seen_in s object)) (seen_in s object)) refused)

  module _ (view : ViewState) (attached : s.view ≡ Some view) where
    detached-sees : HasDetached own disk s t → Sees
    detached-sees it =
        ap (seen_with object) it.detached ∙ sym (accepted (ap is_refusal it.done) ∙ ap (λ (c : Command). seen_now (Some t.shared) object c (seen_in s object)) it.by_detach)

    moved-sees : HasMoved own disk s view t → Sees
    moved-sees it =
        ap (seen_with object) it.attached ∙ by_seen (object_of view object) refl
        ∙ sym (accepted it.done ∙ moved-now t.shared object own (seen_in s object) it.other ∙ ap (λ (those : Option ViewState). option_map (seen_after t.shared.state object own) (seen_with object those)) attached)
      where
        none-after : (after : Option ObjectView) → object_of it.view_after object ≡ after → object_of view object ≡ None → after ≡ None
        none-after None is none = refl
        none-after (Some one) is none =
            let old = seen-before it.view_after view object one it.kinds is in
            absurd (none-some old.0 (sym none ∙ old.1))

        by_seen : (found : Option ObjectView) → object_of view object ≡ found → object_of it.view_after object ≡ option_map (seen_after t.shared.state object own) (object_of view object)
        by_seen None none = none-after (object_of it.view_after object) refl none ∙ sym (ap (option_map (seen_after t.shared.state object own)) none)
        by_seen (Some old) there =
            let new = it.each object old there in
            new.1 ∙ ap Some new.2.sees ∙ sym (ap (option_map (seen_after t.shared.state object own)) there)

  attached-sees : s.view ≡ None → (mode : Mode) → own ≡ command.Attach mode → Attaches disk mode t → Sees
  attached-sees detached mode is it =
      ap (seen_with object) it.attached ∙ it.each object
      ∙ sym (accepted (ap is_refusal it.answer) ∙ ap (λ (c : Command). seen_now (Some t.shared) object c (seen_in s object)) is ∙ ap (λ (those : HistoryDisk). first_seen those.state object) it.shared)

  attaches : s.view ≡ None → (mode : Mode) → own ≡ command.Attach mode → Attaches disk mode t
  attaches detached mode is =
      subst₂ (λ (d : List Def) (asked : Command). Attaches disk mode (turn (by_history coming) d names disk s asked)) fits.definitions_are (sym is) (attach_gives_latest coming names disk s mode detached)

  turn_sees : Sees
  turn_sees = by_view s.view refl
    where
      by_view : (view : Option ViewState) → s.view ≡ view → Sees
      by_view (Some view) attached =
          ⊎_elim (λ it. still-sees it.refused it.same_session) (λ rest. ⊎_elim (detached-sees view attached) (moved-sees view attached) rest) (moves_on_disk coming definitions names sessions disk s fits own_place view attached own ready)
      by_view None detached =
          ⊎_elim (λ it. attached-sees detached it.0 it.1 (attaches detached it.0 it.1)) (λ it. still-sees it.0 it.1) (stays_detached coming definitions names disk s detached own)

-- ---- an event

module _ (coming : List Outcome) (w : HistoryWorld) (event : Event) (who object : ℕ) where
  abbrev Step : Answered language HistoryDisk → Type 0
  Step a =
      seen_at a.world who object ≡ seen_by a.world.shared who object (asked_of w event) (is_refused a.answer) (seen_at w who object)

  rests-seen : (after : HistoryWorld) → Rests (by_history coming) w after → seen_at after who object ≡ seen_at w who object
  rests-seen after rests =
      ⊎_elim (λ same. ap (λ (those : List Session). seen_of object those who) same) (λ longer. ap (λ (those : List Session). seen_of object those who) longer ∙ push-seen object w.sessions (new_session (length w.names)) refl who) rests.sessions

  -- of none of the session's own lines
  still : ForSome (session_of w event) (λ it. it.0 ≢ who) → (a : Answered language HistoryDisk) → seen_at a.world who object ≡ seen_at w who object → Step a
  still differs a same =
      same ∙ sym (seen_by-other a.world.shared who object (asked_of w event) (is_refused a.answer) (under-holds w (λ place. place ≢ who) (session_of w event) differs) (seen_at w who object))

module _ (names : List (List ℕ)) (records : List Decoded) (coming : List Outcome) (events : List Event) (event : Event) (can : CanBeOpened records) (who object : ℕ) where
  abbrev w : HistoryWorld
  w = world_at names records coming events

  abbrev Now : Answered language HistoryDisk → Type 0
  Now a = Step coming w event who object a

  of_none : session_of w event ≡ None → ForSome (session_of w event) (λ own. own.0 ≢ who)
  of_none none own is = absurd (none-some own (sym none ∙ is))

  module _ (after : HistoryWorld) (rests : Rests (by_history coming) w after) (disk : HistoryDisk) (is_open : after.shared ≡ Some disk) (fits : SharedFits after.definitions after.sessions disk.state) (here : who < length after.sessions) (own : Command) (is : asked_of w event ≡ Some (who, Runs own)) where
    abbrev s : Session
    s = own_session after who

    found_here : slice_get after.sessions who ≡ Some s
    found_here = slice_get-get_or after.sessions who (new_session who) here

    by_number : slice_get after.sessions s.who ≡ Some s
    by_number = ap (slice_get after.sessions) (fits.each who s found_here).number ∙ found_here

    abbrev mine : Turn HistoryDisk
    mine = turn (by_history coming) after.definitions after.names disk s own

    abbrev seen_so : Bool → Bool → Option ObjectView → Option ObjectView
    seen_so same refused seen = cond (same && not refused) (seen_now (Some mine.shared) object own seen) seen

    own_turn : IsReady s own → Now (with_turn after who mine)
    own_turn ready =
        ap (option_and_then (λ (session : Session). seen_in session object)) (slice_get-set_same after.sessions who s mine.session found_here)
        ∙ turn_sees coming after.definitions after.names after.sessions disk s fits by_number own ready object
        ∙ sym (
        ap (λ (it : Option (ℕ × Asked)). seen_by (Some mine.shared) who object it (is_refused (Some (answer_of mine.answer))) (seen_at w who object)) is
        ∙ ap (λ (same : Bool). seen_so same (is_refused (Some (answer_of mine.answer))) (seen_at w who object)) (eq-eqb who who refl)
        ∙ ap (λ (refused : Bool). seen_so true refused (seen_at w who object)) (answer-refused mine.answer)
        ∙ ap (seen_so true (is_refusal mine.answer)) (sym (rests-seen coming w event who object after rests) ∙ ap (option_and_then (λ (session : Session). seen_in session object)) found_here))

  module _ (after : HistoryWorld) (name : List ℕ) (place : ℕ) (taken_up : after ≡ with_session (closed (by_history coming).opens w) name) (rests : Rests (by_history coming) w after) (may : MayTurn (by_history coming) after place (shared_of (by_history coming).opens w)) where
    abbrev disk : HistoryDisk
    disk = shared_of (by_history coming).opens w

    stands : WorldStands records (among coming) after
    stands =
        subst (WorldStands records (among coming)) (sym taken_up) (taken_up-stands records (among coming) w name (always_stands names records coming events can))

    here : place < length after.sessions
    here = omega (arith, stands.paired, may.room, may.named)

    fits : SharedFits after.definitions after.sessions disk.state
    fits = (world_fits records (among coming) after stands).shared disk may.open_so

    -- the session is the one that the world had, or a new one
    own-same : own_session after place ≡ own_session w place
    own-same = ⊎_elim (λ same. ap (λ (those : List Session). slice_index_or those place (new_session place)) same) by_longer rests.sessions
      where
        by_longer : after.sessions ≡ w.sessions ++ new_session (length w.names) ∷ [] → own_session after place ≡ own_session w place
        by_longer longer =
            let size : length after.sessions ≡ length w.sessions + 1 = ap length longer ∙ length-append w.sessions (new_session (length w.names) ∷ []) in
            let paired = (always_fits names records coming events can).paired in
            let inside = here in
            let few_names = may.room in
            ap (λ (those : List Session). slice_index_or those place (new_session place)) longer
            ∙ index-push w.sessions (new_session (length w.names)) (new_session place) place (λ at. ap new_session (omega arith)) (omega arith)

    asked-is : (written : Written) → session_of w event ≡ Some (place, written) → asked_of w event ≡ Some (place, asked after.definitions (own_session after place) written.line written.from)
    asked-is written is =
        ap (asked_under w) is ∙ ap₂ (λ (d : List Def) (s : Session). Some (place, asked d s written.line written.from)) (sym rests.definitions) (sym own-same)

    -- a session that is put where it was
    put-back : seen_of object (slice_set after.sessions place (own_session after place)) who ≡ seen_of object after.sessions who
    put-back = ⊎_elim same other (cases_eq place who)
      where
        same : place ≡ who → seen_of object (slice_set after.sessions place (own_session after place)) who ≡ seen_of object after.sessions who
        same at =
            subst (λ (one : ℕ). seen_of object (slice_set after.sessions place (own_session after place)) one ≡ seen_of object after.sessions one) at
            (let there = slice_get-get_or after.sessions place (new_session place) here in
            ap (option_and_then (λ (session : Session). seen_in session object)) (slice_get-set_same after.sessions place (own_session after place) (own_session after place) there ∙ sym there))

        other : place ≢ who → seen_of object (slice_set after.sessions place (own_session after place)) who ≡ seen_of object after.sessions who
        other differs = ap (option_and_then (λ (session : Session). seen_in session object)) (slice_get-set_other after.sessions place who (own_session after place) (λ same. differs (sym same)))

    by_asked : (written : Written) → session_of w event ≡ Some (place, written) → (a : Asked) → asked_of w event ≡ Some (place, a) → IsReadyFor after.definitions (own_session after place) a → Now (settled (by_history coming) (begun_so after disk place (begin_asked after.definitions (own_session after place) a)))
    by_asked written of_session (Refused refusal) is ready =
        put-back ∙ rests-seen coming w event who object after rests
        ∙ sym (ap (λ (it : Option (ℕ × Asked)). seen_by after.shared who object it true (seen_at w who object)) is)
    by_asked written of_session (Runs own) is ready = subst Now (sym (commanded-turn (by_history coming) after place disk may.open_so own)) (⊎_elim mine_so other (cases_eq place who))
      where
        mine_so : place ≡ who → Now (with_turn after place (turn (by_history coming) after.definitions after.names disk (own_session after place) own))
        mine_so same =
            subst (λ (at : ℕ). Now (with_turn after at (turn (by_history coming) after.definitions after.names disk (own_session after at) own))) (sym same) (own_turn after rests disk may.open_so fits (omega (arith, here, same)) own (is ∙ ap (λ (at : ℕ). Some (at, Runs own)) same) (subst (λ (at : ℕ). IsReady (own_session after at) own) same ready.0))

        other : place ≢ who → Now (with_turn after place (turn (by_history coming) after.definitions after.names disk (own_session after place) own))
        other differs =
            let t = turn (by_history coming) after.definitions after.names disk (own_session after place) own in
            still coming w event who object (λ those at. λ same. differs (ap (λ (it : ℕ × Written). it.0) (same_Some (place, written) those (sym of_session ∙ at)) ∙ same)) (with_turn after place t)
            (ap (option_and_then (λ (session : Session). seen_in session object)) (slice_get-set_other after.sessions place who t.session (λ same. differs (sym same))) ∙ rests-seen coming w event who object after rests)

    by_statement : (written : Written) → session_of w event ≡ Some (place, written) → Now (settled (by_history coming) (commanded after disk place written))
    by_statement written is =
        by_asked written is (asked after.definitions (own_session after place) written.line written.from) (asked-is written is) (asked-ready after.definitions (own_session after place) written.line written.from)

  pub sees_event : Now (answered (by_history coming) w event)
  sees_event = walk (by_history coming) w event Now (record {
    passes = λ after none rests. still coming w event who object (of_none none) (silent after) (rests-seen coming w event who object after rests);
    defines = λ lines definitions of_no none is. still coming w event who object (of_none of_no) (silent (with_definitions w definitions)) refl;
    refuses = λ after prefix refusal far why rests.
        rests-seen coming w event who object after rests ∙ sym (seen_by-refused after.shared who object (asked_of w event) (seen_at w who object));
    turns = λ after name place statement taken_up own rests may. by_statement after name place taken_up rests may statement own;
  })

-- ---- all events

module _ (names : List (List ℕ)) (records : List Decoded) (coming : List Outcome) (can : CanBeOpened records) where
  abbrev at : List Event → HistoryWorld
  at events = world_at names records coming events

  at-push : (events : List Event) (event : Event) → at (events ++ event ∷ []) ≡ (answered (by_history coming) (at events) event).world
  at-push events event = world_after-append (by_history coming) (opening names records) events (event ∷ [])

  sees_none : SeesItsOwn names records coming []
  sees_none who object = by_session (slice_get (at []).sessions who) refl
    where
      by_session : (found : Option Session) → slice_get (at []).sessions who ≡ found → option_and_then (λ (session : Session). seen_in session object) found ≡ None
      by_session None is = refl
      by_session (Some session) is = ap (λ (it : Session). seen_in it object) (opening_sessions names records who session is)

  pub sees_its_own : (events : List Event) → SeesItsOwn names records coming events
  sees_its_own = by_events (λ events. SeesItsOwn names records coming events) sees_none (λ events event sees who object.
      let a = answered (by_history coming) (at events) event in
      ap (λ (those : HistoryWorld). seen_at those who object) (at-push events event) ∙ sees_event names records coming events event can who object
      ∙ ap (seen_by a.world.shared who object (asked_of (at events) event) (is_refused a.answer)) (sees who object) ∙ sym (seen_on-push coming who object (opening names records) events event None))

-- ---- who owns what

abbrev pub owned_in : Option ObjectView → Bool
owned_in None = false
owned_in (Some found) = found.owned

-- a session owns what it sees as owned, and nothing else
module _ (definitions : List Def) (sessions : List Session) (shared : Workspace) (fits : SharedFits definitions sessions shared) (who object : ℕ) where
  view-of : (session : Session) → slice_get sessions who ≡ Some session → (view : ViewState) → session.view ≡ Some view → ViewFits shared who view
  view-of session found view attached = (fits.each who session found).view view attached

  some-view : (found : Option ViewState) → IsSome found → (view : ViewState) × (found ≡ Some view)
  some-view None is = cc
  some-view (Some view) is = (view, refl)

  pub owner-sees : owner_of shared.owners object ≡ Some who → owned_in (seen_of object sessions who) ≡ true
  owner-sees own =
      let its = fits.owners object who own in
      let session = its.1.0 in
      let view = some-view session.view its.1.2 in
      let fitting = view-of session its.1.1 view.0 view.1 in
      let kind = some-kind (object_in (kept_kinds definitions) object) its.0 in
      let found = kept-seen definitions view.0 object kind.0 (fitting.fits.kinds ∙ ap kept_kinds fits.definitions_are) kind.1 in
      let of_object = if-some (fit.ObjectFits (bodies_of shared.definitions) shared.history shared.owners view.0.who object) (object_of view.0 object) found.0 found.1 (fitting.fits.each object) in
      ap (λ (one : Option Session). owned_in (option_and_then (λ (session : Session). seen_in session object) one)) its.1.1
      ∙ ap (λ (one : Option ViewState). owned_in (seen_with object one)) view.1 ∙ ap owned_in found.1 ∙ of_object.owned.1 (own ∙ ap Some (sym fitting.number))

  pub sees-owner : owned_in (seen_of object sessions who) ≡ true → owner_of shared.owners object ≡ Some who
  sees-owner = by_session (slice_get sessions who) refl
    where
      by_found : (view : ViewState) → ViewFits shared who view → (found : Option ObjectView) → object_of view object ≡ found → owned_in found ≡ true → owner_of shared.owners object ≡ Some who
      by_found view fitting None is own = absurd (true≢false (sym own))
      by_found view fitting (Some found) is own =
          let of_object = if-some (fit.ObjectFits (bodies_of shared.definitions) shared.history shared.owners view.who object) (object_of view object) found is (fitting.fits.each object) in
          of_object.owned.0 own ∙ ap Some fitting.number

      by_view : (session : Session) → slice_get sessions who ≡ Some session → (view : Option ViewState) → session.view ≡ view → owned_in (seen_with object view) ≡ true → owner_of shared.owners object ≡ Some who
      by_view session found None is own = absurd (true≢false (sym own))
      by_view session found (Some view) is own = by_found view (view-of session found view is) (object_of view object) refl own

      by_session : (found : Option Session) → slice_get sessions who ≡ found → owned_in (option_and_then (λ (session : Session). seen_in session object) found) ≡ true → owner_of shared.owners object ≡ Some who
      by_session None is own = absurd (true≢false (sym own))
      by_session (Some session) is own = by_view session is session.view refl own

module _ (names : List (List ℕ)) (records : List Decoded) (coming : List Outcome) (events : List Event) (can : CanBeOpened records) where
  pub keeps_owned : (event : Event) → KeepsOwned coming (world_at names records coming events) event
  keeps_owned event who object before after differs before_is after_is =
      let w = world_at names records coming events in
      let last = world_at names records coming (events ++ event ∷ []) in
      let pushed : last ≡ (answered (by_history coming) w event).world = world_after-append (by_history coming) (opening names records) events (event ∷ []) in
      let then_fits = fits_at names records coming events can before before_is in
      let now_fits = fits_at names records coming (events ++ event ∷ []) can after (ap (λ (those : HistoryWorld). those.shared) pushed ∙ after_is) in
      let a = answered (by_history coming) w event in
      let same : seen_at last who object ≡ seen_at w who object =
      ap (λ (those : HistoryWorld). seen_at those who object) pushed ∙ sees_event names records coming events event can who object
      ∙ seen_by-other a.world.shared who object (asked_of w event) (is_refused a.answer) (under-holds w (λ place. place ≢ who) (session_of w event) differs) (seen_at w who object) in (
        λ own. sees-owner w.definitions w.sessions before.state then_fits who object (ap owned_in (sym same) ∙ owner-sees last.definitions last.sessions after.state now_fits who object own),
        λ own. sees-owner last.definitions last.sessions after.state now_fits who object (ap owned_in same ∙ owner-sees w.definitions w.sessions before.state then_fits who object own),
      )
