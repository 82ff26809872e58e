-- The views of each session fit what is committed and owned, by the laws of one session.
use Rattle.std.specs.Prelude.{◌≡◌, ◌≢◌, ◌<◌, ◌≤◌, ◌==◌, ◌⊎◌, ◌↔◌, ℕ, Bool, true, false, cond, List, [], ◌∷◌, All, Option, Some, None, IsSome, Result, Ok, Err, refl}
use Rattle.std.specs.Option.{ForSome, option_map, IsSomeAnd}
use Rattle.std.specs.List.{list_all}
use Rattle.std.proofs.Common.{◌∙◌, ap, sym, subst, inl, inr, ⊎_elim, arith}
use Rattle.std.proofs.lemmas.Bool.{eqb-true, ltb-false, true≢false}
use Rattle.std.proofs.lemmas.Option.{none-some, same_Some}
use Rattle.aw_schema.specs.declared.definition.Def.{Def}
use Rattle.aw_body.specs.declared.body.Body.{Body}
use Rattle.aw_body.specs.declared.change.Change.{Change}
use Rattle.aw_body.specs.Generations.{Bodies, change_of}
use Rattle.aw_body.specs.KeptBodies.{bodies_of}
use Rattle.aw_body.specs.Owners.{Owners, owner_of, taken, given_up, all_given_up}
use Rattle.aw_body.specs.OwnerLaws.{owner_of-taken}
use Rattle.aw_codec.specs.declared.record.Decoded.{Decoded}
use Rattle.aw_codec.specs.declared.record.Decoded.TheVariants.{Commit}
use Rattle.aw_codec.specs.Records.{IsChange}
use Rattle.dml_tree.specs.declared.statement.Mode.{Mode}
use Rattle.dml_tree.specs.declared.statement.Mode.TheVariants.{ReadOnly}
use Rattle.mv_core.specs.declared.entry.Entry.{Entry}
use Rattle.mv_core.specs.declared.entry.Entry.TheVariants as entry
use Rattle.mv_core.specs.declared.entry.Reply.{Reply}
use Rattle.mv_core.specs.declared.entry.Reply.TheVariants.{Acquired, Committed, Fault}
use Rattle.mv_core.specs.declared.object.Object.{Object}
use Rattle.mv_core.specs.Effects.{taken_of}
use Rattle.mv_core.specs.Lookups.{latest_of}
use Rattle.mv_core.specs.Replies.{first_worn}
use Rattle.mv_core.specs.SharedStep.{history_after, workspace_after, shared_step}
use Rattle.aw_store.specs.StoredRecords.{fits_latest}
use Rattle.mv_core.specs.Workspace.{Workspace, standing}
use Rattle.mv_view.specs.Each.{object_in, names as named}
use Rattle.mv_view.specs.Fit as seen
use Rattle.mv_view.specs.Laws.{CanRise, grown, unstaged_in}
use Rattle.mv_view.specs.Rules as rule
use Rattle.mv_view.specs.ViewState.{ObjectView, ViewState, object_of, owned_objects, AreOwned, kept_kinds}
use Rattle.mv_view.proofs.callers.OwnedObjects.{owned-listed}
use Rattle.ses_report.specs.declared.refusal.Refusal.{Refusal}
use Rattle.ses_step.specs.declared.command.Command.{Command}
use Rattle.ses_step.specs.declared.command.Command.TheVariants as command
use Rattle.ses_step.specs.declared.command.Asked.{Asked}
use Rattle.ses_step.specs.declared.command.Asked.TheVariants.{Runs, Refused}
use Rattle.ses_step.specs.declared.session.Known.{Known as Session}
use Rattle.ses_step.specs.declared.session.Session.{Session as Waiting}
use Rattle.ses_step.specs.SessionLines.{asked}
use Rattle.ses_step.proofs.callers.ReadyLines.{IsPermitted}
use Rattle.ses_step.specs.Sessions.{waiting, kept_waiting, finished, seen_objects, or_all, leaving, AreHeldBy, CanMaintain, IsReady}
use Rattle.script_world.specs.Meaning as world
use Rattle.script_world.specs.Outcomes.{Outcome}
use Rattle.script_world.proofs.callers.Fits.{Lawful}
use Rattle.script_world.proofs.callers.DiskFits.{FaultsKeep}
use Rattle.script_meaning.specs.Fit.{AreDefinable, ViewFits, SessionFits}
use Rattle.script_meaning.specs.DefinitionLines.{define}
use Rattle.script_meaning.specs.Language.{language, store_writing, Written, begun_of, begin_asked, begin, finish, bytes_of, is_cut_off, kept_step, history_machine}
use Rattle.script_meaning.proofs.Begins.{AskedOf, generations_in, begins}
use Rattle.script_meaning.proofs.CutOff.{cut_off-cases}
use Rattle.script_meaning.proofs.callers.Defining.{defined-definable}
use Rattle.script_meaning.proofs.FittingViews.{view-written, view-maintained, view-updated, view-reverted, view-acquired, view-resynced, view-released, view-committed, view-attached, view-stays, taken-other, given-other, all-given-other, given-owned, all-given-owned, none-left, given, owner_of-none_given}
use Rattle.script_meaning.proofs.Granting.{Free, names-all, free-all, taken-objects, may-be-kept}
use Rattle.script_meaning.proofs.KeptKinds.{if-some, each-some, seen-kept}
use Rattle.script_meaning.proofs.ReadyLines.{IsReadyFor, asked-ready}
use Rattle.script_meaning.proofs.Replies.{Granted, granted, acquire-cases, resync-cases, release-cases, commit-cases, latest-are, number-small}
use Rattle.script_meaning.proofs.StoredBodies.{KeptBodies, first-kept, committed-kept, found-all}
use Rattle.script_meaning.proofs.Recording.{are_changes, changes_fit, changed-own, staged-changed}

-- ---- the laws of one session

-- the definitions can be written; each latest body has its form; what is owned is kept, and owned by a session that there is
pub record Sound (d : List Def) (shared : Workspace) (count : ℕ) : Type 0 where
  pub definable : AreDefinable d
  pub definitions_are : shared.definitions ≡ d
  pub bodies : KeptBodies shared.definitions shared.history
  pub owners : (object : ℕ) → ForSome (owner_of shared.owners object) (λ by. IsSome (object_in (kept_kinds shared.definitions) object) × (by < count))

-- the session fits; one that isn't attached owns nothing
pub record Fits (d : List Def) (shared : Workspace) (who : ℕ) (s : Session) : Type 0 where
  pub session : SessionFits shared who s
  pub owns : s.view ≡ None → (object : ℕ) → owner_of shared.owners object ≢ Some who

-- each line of a session does
abbrev pub Spoken : Written → Type 0
Spoken written = Unit {0}

-- ---- what a session asks

-- what a session asks by a command, which it keeps until the reply; it is as it was
pub record AskedSo (d : List Def) (s : Session) (it : Entry) (asking : Waiting) : Type 0 where
  pub own : Command
  pub waits : asking ≡ waiting s own
  pub asked : AskedOf s own it
  pub ready : IsReady s own
  pub permitted : IsPermitted d s own

abbrev Asks : List Def → Session → world.Begun Entry Session Waiting → Type 0
Asks d s (world.said answer after) = Unit {0}
Asks d s (world.ask it asking) = AskedSo d s it asking

asks_as : (d : List Def) (s : Session) (a : Asked) → IsReadyFor d s a → Asks d s (begin_asked d s a)
asks_as d s (Refused refusal) ready = tt
asks_as d s (Runs own) ready =
    begins d s own (λ b. Asks d s (begun_of (kept_waiting own b))) (record {
      refused = λ refusal is. tt;
      asks = λ it asked. record { own = own; waits = refl; asked = asked; ready = ready.0; permitted = ready.1 };
      nothing = λ view is attached none left. tt;
      written = λ view object cells is attached. tt;
      maintained = λ view object values is attached. tt;
      shown = λ view cell is attached. tt;
      released = λ view objects is attached left. tt;
      reverted = λ view objects is attached. tt;
      updated = λ view objects is attached. tt;
    })

asks : (d : List Def) (s : Session) (written : Written) → Asks d s (begin d s written)
asks d s written = asks_as d s (asked d s written.line written.from) (asked-ready d s written.line written.from)

pub asked_so : (d : List Def) (s : Session) (statement : Written) (it : Entry) (asking : Waiting) → begin d s statement ≡ world.ask it asking → AskedSo d s it asking
asked_so d s statement it asking is = subst (Asks d s) is (asks d s statement)

-- a session that answers alone fits
abbrev FitsAfter : List Def → Workspace → ℕ → world.Begun Entry Session Waiting → Type 0
FitsAfter d shared who (world.said answer after) = Fits d shared who after
FitsAfter d shared who (world.ask it asking) = Unit {0}

-- ---- one session

module _ (d : List Def) (names : List (List ℕ)) (shared : Workspace) (count : ℕ) (s : Session) (few : s.who < count) (sound : Sound d shared count) (fits : Fits d shared s.who s) where
  abbrev bodies : Bodies Body Change
  bodies = bodies_of shared.definitions

  -- a reader owns nothing
  abbrev Reads : Workspace → Mode → Type 0
  Reads after mode = mode ≡ ReadOnly → (object : ℕ) → owner_of after.owners object ≢ Some s.who

  with_view : (after : Workspace) (mode : Mode) (view : ViewState) → Reads after mode → ViewFits after s.who view → Fits d after s.who (record s { mode = mode; view = Some view })
  with_view after mode view reads it = record {
    session = record { number = refl; reads = reads; view = λ those is. subst (ViewFits after s.who) (same_Some view those is) it };
    owns = λ none. absurd (none-some view (sym none));
  }

  -- by what the view is made of
  seen_so : (after : Workspace) (change : ViewState → ViewState) (view : ViewState) → s.view ≡ Some view → Reads after s.mode → ViewFits after s.who (change view) → Fits d after s.who (record s { view = option_map change s.view })
  seen_so after change view attached reads it =
      subst (λ (seen : Option ViewState). Fits d after s.who (record s { view = option_map change seen })) (sym attached) (with_view after s.mode (change view) reads it)

  fitting : (view : ViewState) → s.view ≡ Some view → ViewFits shared s.who view
  fitting view attached = fits.session.view view attached

  -- nothing that is given up is the same state
  none_given : (view : ViewState) → ViewFits (record shared { owners = given_up shared.owners s.who [] }) s.who view → ViewFits shared s.who view
  none_given view it =
      view-stays (record shared { owners = given_up shared.owners s.who [] }) shared s.who view it [] refl refl (λ object own. refl)
      (λ object. let same = owner_of-none_given shared.owners s.who object in ((λ owned. same ∙ owned), λ owned. sym same ∙ owned))

  begins_fit : (a : Asked) → IsReadyFor d s a → FitsAfter d shared s.who (begin_asked d s a)
  begins_fit (Refused refusal) ready = fits
  begins_fit (Runs own) ready =
      begins d s own (λ b. FitsAfter d shared s.who (begun_of (kept_waiting own b))) (record {
        refused = λ refusal its. fits;
        asks = λ it asked. tt;
        nothing = λ view is attached none left. fits;
        written = λ view object cells is attached. with_view shared s.mode (rule.written view object cells) fits.session.reads (view-written shared s.who view object cells (fitting view attached)
            (if-some (λ one. IsSomeAnd (object_of one object) (λ found. AreHeldBy found.kind cells)) s.view view attached (subst (IsReady s) is ready.0)));
        maintained = λ view object values is attached. with_view shared s.mode (rule.maintained view object values) fits.session.reads (view-maintained shared s.who view object values (fitting view attached)
            (if-some (λ one. IsSomeAnd (object_of one object) (CanMaintain values)) s.view view attached (subst (IsReady s) is ready.0)));
        shown = λ view cell is attached. fits;
        released = λ view objects is attached left. with_view shared s.mode (rule.released view objects) fits.session.reads (none_given (rule.released view objects)
            (subst (λ (those : List ℕ). ViewFits (record shared { owners = given_up shared.owners s.who those }) s.who (rule.released view objects)) left (view-released shared s.who view objects (fitting view attached) (ready_owned view objects attached (subst (IsReady s) is ready.0)))));
        reverted = λ view objects is attached. with_view shared s.mode (rule.reverted view (or_all (seen_objects view) objects)) fits.session.reads (view-reverted shared s.who view (or_all (seen_objects view) objects) (fitting view attached));
        updated = λ view objects is attached. with_view shared s.mode (rule.updated view (or_all (owned_objects view) objects)) fits.session.reads (view-updated shared s.who view (or_all (owned_objects view) objects) (fitting view attached) (all_owned view objects (if-some (λ one. AreOwned one objects) s.view view attached (subst (IsReady s) is ready.0))));
      })
    where
      ready_owned : (view : ViewState) (objects : List ℕ) → s.view ≡ Some view → IsReady s (command.Release objects) → AreOwned view objects
      ready_owned view objects attached owned = if-some (λ one. AreOwned one objects) s.view view attached owned

      all_owned : (view : ViewState) (objects : List ℕ) → AreOwned view objects → AreOwned view (or_all (owned_objects view) objects)
      all_owned view [] owned = owned-listed view
      all_owned view (object ∷ objects) owned = owned

  -- what a reply to what a command asked leaves: of the shared state, of the session, and of the others
  pub record Kept (own : Command) (r : Reply × Workspace) : Type 0 where
    pub all : Sound d r.1 count
    pub own_fits : Fits d r.1 s.who (finished d names (waiting s own) r.0).1
    pub others : (other : ℕ) (t : Session) → other ≢ s.who → Fits d shared other t → Fits d r.1 other t

  abbrev Answers : Command → Entry → Reply → Type 0
  Answers own asked reply = Kept own (reply, workspace_after shared asked reply)

  -- owners that are fewer, or the session's own
  sound_owners : (owners : Owners) → ((object by : ℕ) → owner_of owners object ≡ Some by → (owner_of shared.owners object ≡ Some by) ⊎ ((by ≡ s.who) × IsSome (object_in (kept_kinds shared.definitions) object))) → Sound d (record shared { owners = owners }) count
  sound_owners owners fewer = record {
    definable = sound.definable;
    definitions_are = sound.definitions_are;
    bodies = sound.bodies;
    owners = λ object by owned. ⊎_elim (λ old. sound.owners object by old) (λ new. (new.1, subst (λ (it : ℕ). it < count) (sym new.0) few)) (fewer object by owned);
  }

  -- another session, where the owners alone change, and not of what it owns
  others_stay : (owners : Owners) → ((other at : ℕ) → other ≢ s.who → (owner_of owners at ≡ Some other) ↔ (owner_of shared.owners at ≡ Some other)) → (other : ℕ) (t : Session) → other ≢ s.who → Fits d shared other t → Fits d (record shared { owners = owners }) other t
  others_stay owners same other t differs it = record {
    session = record {
      number = it.session.number;
      reads = λ is at owned. it.session.reads is at ((same other at differs).0 owned);
      view = λ those among. view-stays shared (record shared { owners = owners }) other those (it.session.view those among) [] refl refl (λ object own. refl) (λ at. same other at differs);
    };
    owns = λ none at owned. it.owns none at ((same other at differs).0 owned);
  }

  -- ---- AW ATTACH, AW DETACH

  attach_kept : (mode : Mode) → s.view ≡ None → Kept (command.Attach mode) (shared_step bodies shared (entry.Attach s.who))
  attach_kept mode none = record {
    all = sound;
    own_fits = with_view shared mode (rule.attached s.who d (given shared)) (λ is. fits.owns none) (subst (λ (those : List Def). ViewFits shared s.who (rule.attached s.who those (given shared))) sound.definitions_are (view-attached shared s.who sound.bodies (fits.owns none)));
    others = λ other t differs it. it;
  }

  detach_kept : Kept command.Detach (shared_step bodies shared (entry.Detach s.who))
  detach_kept = record {
    all = sound_owners (all_given_up shared.owners s.who) (λ object by owned. inl (all-given-owned shared.owners s.who object by owned));
    own_fits = record { session = record { number = refl; reads = λ is object. none-left shared.owners s.who object; view = λ those is. absurd (none-some those is) }; owns = λ none object. none-left shared.owners s.who object };
    others = others_stay (all_given_up shared.owners s.who) (λ other at differs. all-given-other shared.owners s.who other at differs);
  }

  -- ---- an attached session

  module _ (view : ViewState) (attached : s.view ≡ Some view) where
    fit : ViewFits shared s.who view
    fit = fitting view attached

    abbrev objects : List (Option (Object Body))
    objects = standing bodies shared

    -- ---- ACQUIRE

    module _ (keep fresh same : List ℕ) where
      abbrev acquiring : Entry
      acquiring = entry.Acquire s.who (generations_in s keep) fresh (generations_in s same)

      abbrev taken_now : List ℕ
      taken_now = taken_of (generations_in s keep) fresh

      grant_kept : IsPermitted d s (command.Acquire keep fresh same) → Granted objects s.who (generations_in s keep) fresh (generations_in s same) → Answers (command.Acquire keep fresh same) acquiring (Acquired (latest_of objects fresh))
      grant_kept permitted granted =
          let free = free-all shared s keep fresh granted.keep_may granted.fresh_may in
          record {
            all = sound_owners (taken shared.owners s.who taken_now) (λ object by owned. taken_owner free object by owned);
            own_fits = seen_so (record shared { owners = taken shared.owners s.who taken_now }) (λ (one : ViewState). rule.acquired one keep (latest_of objects fresh)) view attached (λ is. absurd (true≢false (permitted is)))
                (subst (λ (those : List ℕ). ViewFits (record shared { owners = taken shared.owners s.who those }) s.who (rule.acquired view keep (latest_of objects fresh))) (sym (taken-objects shared s keep fresh granted.fresh_may))
                (view-acquired shared s.who view fit sound.bodies (latest_of objects fresh) (latest-are bodies shared fresh) keep (may-be-kept shared s view attached fit keep granted.keep_may)));
            others = others_stay (taken shared.owners s.who taken_now) (λ other at differs. taken-other shared.owners s.who other taken_now at differs (λ named. (names-all (Free shared s) taken_now at free named).others other differs));
          }
        where
          taken_owner : All (Free shared s) taken_now → (object by : ℕ) → owner_of (taken shared.owners s.who taken_now) object ≡ Some by → (owner_of shared.owners object ≡ Some by) ⊎ ((by ≡ s.who) × IsSome (object_in (kept_kinds shared.definitions) object))
          taken_owner free object by owned = by_test (named taken_now object) refl
            where
              after : (test : Bool) → named taken_now object ≡ test → cond test (Some s.who) (owner_of shared.owners object) ≡ Some by
              after test is = sym (ap (λ (b : Bool). cond b (Some s.who) (owner_of shared.owners object)) is) ∙ sym (owner_of-taken shared.owners s.who taken_now object) ∙ owned

              by_test : (test : Bool) → named taken_now object ≡ test → (owner_of shared.owners object ≡ Some by) ⊎ ((by ≡ s.who) × IsSome (object_in (kept_kinds shared.definitions) object))
              by_test true is = inr (sym (same_Some s.who by (after true is)), (names-all (Free shared s) taken_now object free is).kept)
              by_test false is = inl (after false is)

      acquire_kept : IsPermitted d s (command.Acquire keep fresh same) → Kept (command.Acquire keep fresh same) (shared_step bodies shared acquiring)
      acquire_kept permitted =
          acquire-cases (Answers (command.Acquire keep fresh same) acquiring) shared.definitions objects s.who (generations_in s keep) fresh (generations_in s same)
          (λ object is. record { all = sound; own_fits = fits; others = λ other t differs it. it })
          (λ object by is. record { all = sound; own_fits = fits; others = λ other t differs it. it })
          (λ object number is. record { all = sound; own_fits = fits; others = λ other t differs it. it })
          (λ none. grant_kept permitted (granted objects s.who (generations_in s keep) fresh (generations_in s same) none))

    -- ---- RESYNC

    resync_kept : (listed : List ℕ) → Kept (command.Resync listed) (shared_step bodies shared (entry.Resync s.who listed))
    resync_kept listed =
        resync-cases (Answers (command.Resync listed) (entry.Resync s.who listed)) shared.definitions objects s.who listed
        (λ object. record { all = sound; own_fits = fits; others = λ other t differs it. it })
        (λ none. record {
          all = sound;
          own_fits = seen_so shared (λ (one : ViewState). rule.resynced one (latest_of objects listed)) view attached fits.session.reads (view-resynced shared s.who view fit sound.bodies (latest_of objects listed) (latest-are bodies shared listed));
          others = λ other t differs it. it;
        })

    -- ---- RELEASE

    release_kept : (listed : List ℕ) → AreOwned view listed → Kept (command.Release listed) (shared_step bodies shared (entry.Release s.who (unstaged_in view listed)))
    release_kept listed owned =
        let unstaged = unstaged_in view listed in
        release-cases (Answers (command.Release listed) (entry.Release s.who unstaged)) shared.definitions objects s.who unstaged
        (λ object. record { all = sound; own_fits = fits; others = λ other t differs it. it })
        (λ none. record {
          all = sound_owners (given_up shared.owners s.who unstaged) (λ object by left. inl (given-owned shared.owners s.who unstaged object by left));
          own_fits = seen_so (record shared { owners = given_up shared.owners s.who unstaged }) (λ (one : ViewState). rule.released one listed) view attached (λ is object left. fits.session.reads is object (given-owned shared.owners s.who unstaged object s.who left)) (view-released shared s.who view listed fit owned);
          others = others_stay (given_up shared.owners s.who unstaged) (λ other at differs. given-other shared.owners s.who other unstaged at differs);
        })

    -- ---- COMMIT

    abbrev committing : Entry
    committing = entry.Commit s.who (rule.changes view) (leaving view)

    abbrev committed : Workspace
    committed = workspace_after shared committing Committed

    grows : (changes : List Change) → history_after shared.history changes ≡ grown shared.history changes
    grows [] = refl
    grows (change ∷ changes) = refl

    rise : first_worn objects (rule.changes view) ≡ None → CanRise view
    rise unworn object =
        each-some (λ (found : ObjectView). found.owned ≡ true → rule.is_staged found ≡ true → found.number < 18446744073709551615) (object_of view object) (λ found there own staged.
        let kept = seen-kept shared.definitions view object found fit.fits.kinds there in
        let of_object = if-some (seen.ObjectFits bodies shared.history shared.owners view.who object) (object_of view object) found there (fit.fits.each object) in
        let its = staged-changed shared s.who view fit object found there own staged in
        let small = number-small bodies shared (rule.changes view) object found.kind its.0 kept unworn its.1 in
        subst (λ number. number < 18446744073709551615) (sym (of_object.latest own)) small)

    kept_bodies : (changes : List Change) → rule.changes view ≡ changes → is_cut_off (entry.Commit s.who changes (leaving view)) Committed ≡ false → KeptBodies shared.definitions (history_after shared.history changes)
    kept_bodies [] made uncut = sound.bodies
    kept_bodies (change ∷ changes) made uncut =
        let short = ltb-false 67108864 (bytes_of (Commit (change ∷ changes))) uncut in
        let definable = subst AreDefinable (sym sound.definitions_are) sound.definable in
        let fits_now = subst (λ (those : List Change). list_all (fits_latest shared.definitions shared.history) those ≡ true) made (changes_fit shared s.who view fit) in
        let can = subst (λ (those : List Change). All IsChange those) made (are_changes shared s.who view fit definable (subst (λ (those : List Change). bytes_of (Commit those) ≤ 67108864) (sym made) short)) in
        committed-kept shared.definitions shared.history (change ∷ changes) sound.bodies (λ object c is.
        let found = found-all (λ (one : Change). one.object == object) (fits_latest shared.definitions shared.history) IsChange (change ∷ changes) c is fits_now can in
        (eqb-true c.object object found.0, found.1, found.2.1))

    foreign : (other object : ℕ) → other ≢ s.who → owner_of shared.owners object ≡ Some other → change_of bodies object (rule.changes view) ≡ None
    foreign other object differs owned = by_change (change_of bodies object (rule.changes view)) refl
      where
        by_change : (found : Option Change) → change_of bodies object (rule.changes view) ≡ found → found ≡ None
        by_change None is = refl
        by_change (Some c) is = absurd (differs (same_Some other s.who (sym owned ∙ changed-own shared s.who view fit object c is)))

    commit_granted : is_cut_off committing Committed ≡ false → first_worn objects (rule.changes view) ≡ None → Answers command.Commit committing Committed
    commit_granted uncut unworn = record {
      all = record {
        definable = sound.definable;
        definitions_are = sound.definitions_are;
        bodies = kept_bodies (rule.changes view) refl uncut;
        owners = λ object by owned. sound.owners object by (given-owned shared.owners s.who (leaving view) object by owned);
      };
      own_fits = seen_so committed rule.committed view attached (λ is object left. fits.session.reads is object (given-owned shared.owners s.who (leaving view) object s.who left)) (view-committed shared committed s.who view refl (grows (rule.changes view)) refl fit (rise unworn));
      others = λ other t differs it. record {
        session = record {
          number = it.session.number;
          reads = λ is object owned. it.session.reads is object ((given-other shared.owners s.who other (leaving view) object differs).0 owned);
          view = λ those among. view-stays shared committed other those (it.session.view those among) (rule.changes view) refl (grows (rule.changes view)) (λ object owned. foreign other object differs owned) (λ at. given-other shared.owners s.who other (leaving view) at differs);
        };
        owns = λ none object owned. it.owns none object ((given-other shared.owners s.who other (leaving view) object differs).0 owned);
      };
    }

    commit_kept : is_cut_off committing (shared_step bodies shared committing).0 ≡ false → Kept command.Commit (shared_step bodies shared committing)
    commit_kept =
        commit-cases (λ reply. is_cut_off committing reply ≡ false → Answers command.Commit committing reply) shared.definitions objects s.who (rule.changes view) (leaving view)
        (λ object is uncut. record { all = sound; own_fits = fits; others = λ other t differs it. it })
        (λ object is uncut. record { all = sound; own_fits = fits; others = λ other t differs it. it })
        (λ unworn uncut. commit_granted uncut unworn)

  -- ---- each entry

  step_kept : (own : Command) (asked : Entry) → (is_cut_off asked (shared_step bodies shared asked).0 ≡ false → Kept own (shared_step bodies shared asked)) → Kept own (kept_step shared asked)
  step_kept own asked uncut =
      cut_off-cases shared asked (shared_step bodies shared asked) (Kept own) (λ bytes granted long. record { all = sound; own_fits = fits; others = λ other t differs it. it }) uncut

  -- an entry that is given
  as_given : (own : Command) (asked is : Entry) → asked ≡ is → (is_cut_off is (shared_step bodies shared is).0 ≡ false → Kept own (shared_step bodies shared is)) → Kept own (kept_step shared asked)
  as_given own asked is same kept = subst (λ (those : Entry). Kept own (kept_step shared those)) (sym same) (step_kept own is kept)

  pub kept_so : (own : Command) (asked : Entry) → IsReady s own → IsPermitted d s own → AskedOf s own asked → Kept own (kept_step shared asked)
  kept_so (command.Attach mode) asked ready permitted it = as_given (command.Attach mode) asked (entry.Attach s.who) it.is (λ uncut. attach_kept mode it.unattached)
  kept_so command.Detach asked ready permitted it = as_given command.Detach asked (entry.Detach s.who) it.is (λ uncut. detach_kept)
  kept_so (command.Acquire keep fresh same) asked ready permitted it =
      as_given (command.Acquire keep fresh same) asked (entry.Acquire s.who (generations_in s keep) fresh (generations_in s same)) it.is (λ uncut. acquire_kept it.view it.attached keep fresh same permitted)
  kept_so (command.Resync listed) asked ready permitted it = as_given (command.Resync listed) asked (entry.Resync s.who listed) it.is (λ uncut. resync_kept it.view it.attached listed)
  kept_so (command.Release listed) asked ready permitted it =
      as_given (command.Release listed) asked (entry.Release s.who (unstaged_in it.view listed)) (it.is ∙ ap (entry.Release s.who) (sym it.left))
      (λ uncut. release_kept it.view it.attached listed (if-some (λ one. AreOwned one listed) s.view it.view it.attached ready))
  kept_so command.Commit asked ready permitted it = as_given command.Commit asked (entry.Commit s.who (rule.changes it.view) (leaving it.view)) it.is (commit_kept it.view it.attached)
  kept_so (command.Revert listed) asked ready permitted it = absurd it
  kept_so (command.Update listed) asked ready permitted it = absurd it
  kept_so (command.Write object cells) asked ready permitted it = absurd it
  kept_so (command.Maintain object values) asked ready permitted it = absurd it
  kept_so (command.Show cell) asked ready permitted it = absurd it

-- ---- the laws of one session

opens_sound : (d : List Def) → AreDefinable d → Sound d (history_machine.opens d) 0
opens_sound d definable = record { definable = definable; definitions_are = refl; bodies = first-kept d definable.stored; owners = λ object by is. absurd (none-some by is) }

-- while nothing is open: the definitions can be written, and there were no records
abbrev pub Defined : List Decoded → List Def → Type 0
Defined records d = AreDefinable d × (records ≡ [])

abbrev ResultDefined : List Decoded → Result (List Def) Refusal → Type 0
ResultDefined records (Ok d) = Defined records d
ResultDefined records (Err refusal) = Unit {0}

define_defined : (records : List Decoded) (d : List Def) (lines : List (List ℕ)) → Defined records d → ResultDefined records (define d lines)
define_defined records d lines it = by (define d lines) refl
  where
    by : (result : Result (List Def) Refusal) → define d lines ≡ result → ResultDefined records result
    by (Ok after) is = (defined-definable d lines after is it.0, it.1)
    by (Err refusal) is = tt

-- by the session's own number
at_number : (d : List Def) (shared : Workspace) (who : ℕ) (s : Session) → Fits d shared who s → Fits d shared s.who s
at_number d shared who s fits = subst (λ (at : ℕ). Fits d shared at s) (sym fits.session.number) fits

module _ (d : List Def) (names : List (List ℕ)) (shared : Workspace) (count who : ℕ) (s : Session) (few : who < count) (sound : Sound d shared count) (fits : Fits d shared who s) where
  few_own : s.who < count
  few_own = subst (λ (at : ℕ). at < count) (sym fits.session.number) few

  begun_fits : (written : Written) → FitsAfter d shared who (begin d s written)
  begun_fits written =
      subst (λ (at : ℕ). FitsAfter d shared at (begin d s written)) fits.session.number (begins_fit d names shared count s few_own sound (at_number d shared who s fits) (asked d s written.line written.from) (asked-ready d s written.line written.from))

  after_kept : (own : Command) (asked : Entry) → IsReady s own → IsPermitted d s own → AskedOf s own asked → Kept d names shared count s few_own sound (at_number d shared who s fits) own (kept_step shared asked)
  after_kept own asked ready permitted known = kept_so d names shared count s few_own sound (at_number d shared who s fits) own asked ready permitted known

pub language_lawful : (records : List Decoded) → Lawful history_machine Spoken (Defined records) Sound Fits
language_lawful records = record {
  defines = λ d lines e it is. subst (ResultDefined records) is (define_defined records d lines it);
  opens = λ d it. opens_sound d it.0;
  grows = λ d shared count sound. record { definable = sound.definable; definitions_are = sound.definitions_are; bodies = sound.bodies; owners = λ object by is. let it = sound.owners object by is in (it.0, omega (arith, it.1)) };
  fresh = λ d shared count sound. record {
    session = record { number = refl; reads = λ is object owned. let it = sound.owners object count owned in omega (arith, it.1); view = λ view is. absurd (none-some view is) };
    owns = λ none object owned. let it = sound.owners object count owned in omega (arith, it.1);
  };
  begins = λ d shared count who s statement answer after spoken few sound fits is. subst (FitsAfter d shared who) is (begun_fits d [] shared count who s few sound fits statement);
  steps = λ d shared count who s statement it asking spoken few sound fits is.
      let asked = asked_so d s statement it asking is in
      (after_kept d [] shared count who s few sound fits asked.own it asked.ready asked.permitted asked.asked).all;
  own = λ d names shared count who s statement it asking spoken few sound fits is.
      let asked = asked_so d s statement it asking is in
      let after = kept_step shared it in
      subst (λ (new : Waiting). Fits d after.1 who (finish d names new after.0).1) (sym asked.waits) (subst (λ (at : ℕ). Fits d after.1 at (finished d names (waiting s asked.own) after.0).1) fits.session.number (after_kept d names shared count who s few sound fits asked.own it asked.ready asked.permitted asked.asked).own_fits);
  others = λ d shared count who s statement it asking spoken few sound fits is other t differs its.
      let asked = asked_so d s statement it asking is in
      (after_kept d [] shared count who s few sound fits asked.own it asked.ready asked.permitted asked.asked).others other t (λ same. differs (same ∙ fits.session.number)) its;
}

-- ---- on a disk

pub faults_keep : (next : ℕ → Outcome) (records : List Decoded) → FaultsKeep store_writing history_machine next Spoken (Defined records) Sound Fits
faults_keep next records d names shared who s statement it asking spoken fits is =
    subst (λ (new : Waiting). Fits d shared who (finish d names new Fault).1) (sym (asked_so d s statement it asking is).waits) fits

-- ---- statements that a line can have

pub lines_spoken : (lines : List (List ℕ)) (text name : List ℕ) (statement : Written) → language.form lines text ≡ world.under name statement → Spoken statement
lines_spoken lines text name statement is = tt
