-- What the turns of an attached session come to, where it fits what is committed and owned.
use Rattle.std.specs.Prelude.{◌≡◌, ◌<◌, ◌==◌, ◌+◌, ℕ, Bool, true, false, not, cond, List, [], ◌∷◌, filter, Option, Some, None, IsSome, nat_le, slice_get, if◌then◌else◌, refl}
use Rattle.std.specs.Option.{option_map, option_or, IsSomeAnd}
use Rattle.std.proofs.Common.{◌∙◌, ap, sym, subst}
use Rattle.std.proofs.lemmas.Bool.{and_from, eq-eqb, le-leb}
use Rattle.std.proofs.lemmas.Option.{same_Some}
use Rattle.aw_schema.specs.declared.definition.Def.{Def}
use Rattle.aw_schema.specs.declared.definition.DefKind.{DefKind}
use Rattle.aw_body.specs.declared.body.Body.{Body}
use Rattle.aw_body.specs.declared.change.Change.{Change}
use Rattle.aw_body.specs.Generations.{Bodies}
use Rattle.aw_body.specs.KeptBodies.{bodies_of}
use Rattle.aw_body.specs.Owners.{owner_of, taken, given_up, all_given_up}
use Rattle.aw_codec.specs.declared.record.Decoded.TheVariants as stored
use Rattle.mv_core.specs.declared.entry.Entry.{Entry}
use Rattle.mv_core.specs.declared.entry.Entry.TheVariants as entry
use Rattle.mv_core.specs.declared.entry.Reply.{Reply}
use Rattle.mv_core.specs.declared.entry.Reply.TheVariants.{Committed, Owned, Newer, Stranger}
use Rattle.mv_core.specs.declared.object.Object.{Object}
use Rattle.mv_core.specs.Effects.{taken_of}
use Rattle.mv_core.specs.Lookups.{kept_at, is_own, latest_of}
use Rattle.mv_core.specs.Replies.{acquire_block, first_unkept, first_not_own, fits_object, may_make, first_refused, first_worn}
use Rattle.mv_core.specs.SharedStep.{shared_step, workspace_after}
use Rattle.mv_core.specs.Workspace.{Workspace, object_of as object_kept, standing}
use Rattle.mv_view.specs.Each.{object_in, passes}
use Rattle.mv_view.specs.Fit as seen
use Rattle.mv_view.specs.Laws.{MayCommit}
use Rattle.mv_view.specs.Rules as rule
use Rattle.mv_view.specs.ViewState.{ObjectView, ViewState, object_of, owned_objects, AreOwned, kept_kinds}
use Rattle.mv_view.proofs.callers.OwnedObjects.{owned-listed}
use Rattle.ses_report.specs.Refusals.{not_acquired, owned_by, newer, full, too_large}
use Rattle.ses_step.specs.declared.answer.Answer.TheVariants.{Done, Refused}
use Rattle.ses_step.specs.declared.command.Command.TheVariants as command
use Rattle.ses_step.specs.declared.session.Begun.TheVariants.{Ask}
use Rattle.ses_step.specs.declared.session.Known.{Known as Session}
use Rattle.ses_step.specs.Sessions.{waiting, kept_waiting, is_leaving, leaving, commit_asked, name_of, name_at}
use Rattle.script_meaning.specs.Fit.{ViewFits, SharedFits}
use Rattle.script_meaning.specs.Language.{bytes_of, history_machine}
use Rattle.script_meaning.specs.Turns.{Turn, replied, turn_from}
use Rattle.script_meaning.proofs.Begins.{Sees, generations_in}
use Rattle.script_meaning.proofs.CutOff.{cut_off-cases}
use Rattle.script_meaning.proofs.KeptKinds.{if-some, seen-kept}
use Rattle.script_meaning.proofs.Recording.{may}
use Rattle.script_meaning.proofs.Replies.{acquire-cases, resync-cases, release-cases, commit-cases, kept-stands}

pub some-kind : (found : Option DefKind) → IsSome found → (kind : DefKind) × (found ≡ Some kind)
some-kind None is = cc
some-kind (Some kind) is = (kind, refl)

-- what is there and what holds of it
pub some-there : {X : Type 0} (P : X → Type 0) (found : Option X) → IsSomeAnd found P → (x : X) × (found ≡ Some x) × P x
some-there P None holds = absurd holds
some-there P (Some x) holds = (x, refl, holds)

pub owned-filter : (test : ℕ → Bool) (view : ViewState) (objects : List ℕ) → AreOwned view objects → AreOwned view (filter test objects)
owned-filter test view [] owned = tt
owned-filter test view (object ∷ objects) owned = by_test (test object) (owned-filter test view objects owned.1)
  where
    by_test : (b : Bool) → AreOwned view (filter test objects) → AreOwned view (cond b (object ∷ filter test objects) (filter test objects))
    by_test true rest = (owned.0, rest)
    by_test false rest = rest

-- a turn that leaves all
abbrev pub still : {S : Type 0} → Turn S → Session → S → Type 0
still t s shared = (t.session ≡ s) × (t.shared ≡ shared)

module _ (definitions : List Def) (names : List (List ℕ)) (sessions : List Session) (shared : Workspace) (s : Session) (fits : SharedFits definitions sessions shared) (own_place : slice_get sessions s.who ≡ Some s) (view : ViewState) (attached : s.view ≡ Some view) where
  abbrev bodies : Bodies Body Change
  bodies = bodies_of shared.definitions

  pub fitting : ViewFits shared s.who view
  fitting = (fits.each s.who s own_place).view view attached

  -- what a session sees, by its view
  pub seen-here : (object : ℕ) (it : Sees s object) → object_of view object ≡ Some it.found
  seen-here object it = ap (λ those. object_of those object) (same_Some view it.view (sym attached ∙ it.attached)) ∙ it.seen

  abbrev pub sees-so : (object : ℕ) (found : ObjectView) → object_of view object ≡ Some found → Sees s object
  sees-so object found there = record { view = view; found = found; attached = attached; seen = there }

  pub kept-kind : (object : ℕ) (found : ObjectView) → object_of view object ≡ Some found → object_in (kept_kinds shared.definitions) object ≡ Some found.kind
  kept-kind object found there = seen-kept shared.definitions view object found fitting.fits.kinds there

  pub of_object : (object : ℕ) (found : ObjectView) → object_of view object ≡ Some found → seen.ObjectFits bodies shared.history shared.owners view.who object found
  of_object object found there = if-some (seen.ObjectFits bodies shared.history shared.owners view.who object) (object_of view object) found there (fitting.fits.each object)

  -- ---- ACQUIRE

  module _ (P : Turn Workspace → Type 0) (keep fresh same : List ℕ) where
    -- what blocks the first object that is blocked, in the order written
    abbrev pub blocked : Option Reply
    blocked = acquire_block (standing bodies shared) s.who (generations_in s keep) fresh (generations_in s same)

    pub acquire_turn :
        ((object : ℕ) → blocked ≡ Some (Stranger object) → P (record { answer = Refused (not_acquired (name_of definitions object)); session = s; shared = shared })) →
        ((object by : ℕ) → blocked ≡ Some (Owned object by) → P (record { answer = Refused (owned_by (name_of definitions object) (name_at names by)); session = s; shared = shared })) →
        ((object number : ℕ) → blocked ≡ Some (Newer object number) → P (record { answer = Refused (newer (name_of definitions object) number); session = s; shared = shared })) →
        (blocked ≡ None → P (record { answer = Done; session = record s { view = option_map (λ (one : ViewState). rule.acquired one keep (latest_of (standing bodies shared) fresh)) s.view }; shared = record shared { owners = taken shared.owners s.who (taken_of (generations_in s keep) fresh) } })) →
        P (turn_from history_machine definitions names shared (Ask (entry.Acquire s.who (generations_in s keep) fresh (generations_in s same)), waiting s (command.Acquire keep fresh same)))
    acquire_turn stranger foreign behind grant =
        let asked = entry.Acquire s.who (generations_in s keep) fresh (generations_in s same) in
        acquire-cases (λ reply. P (replied history_machine definitions names (waiting s (command.Acquire keep fresh same)) (reply, workspace_after shared asked reply))) shared.definitions (standing bodies shared) s.who (generations_in s keep) fresh (generations_in s same) stranger foreign behind grant

  -- ---- RESYNC, RELEASE, AW DETACH

  module _ (P : Turn Workspace → Type 0) (objects : List ℕ) (stranger : (object : ℕ) → P (record { answer = Refused (not_acquired (name_of definitions object)); session = s; shared = shared })) where
    pub resync_turn :
        (first_unkept (standing bodies shared) objects ≡ None → P (record { answer = Done; session = record s { view = option_map (λ (one : ViewState). rule.resynced one (latest_of (standing bodies shared) objects)) s.view }; shared = shared })) →
        P (turn_from history_machine definitions names shared (Ask (entry.Resync s.who objects), waiting s (command.Resync objects)))
    resync_turn grant =
        resync-cases (λ reply. P (replied history_machine definitions names (waiting s (command.Resync objects)) (reply, workspace_after shared (entry.Resync s.who objects) reply))) shared.definitions (standing bodies shared) s.who objects stranger grant

    -- of all these objects, of which those without anything staged are given up
    pub release_turn : (unstaged : List ℕ) →
        (first_not_own (standing bodies shared) s.who unstaged ≡ None → P (record { answer = Done; session = record s { view = option_map (λ (one : ViewState). rule.released one objects) s.view }; shared = record shared { owners = given_up shared.owners s.who unstaged } })) →
        P (turn_from history_machine definitions names shared (Ask (entry.Release s.who unstaged), waiting s (command.Release objects)))
    release_turn unstaged grant =
        release-cases (λ reply. P (replied history_machine definitions names (waiting s (command.Release objects)) (reply, workspace_after shared (entry.Release s.who unstaged) reply))) shared.definitions (standing bodies shared) s.who unstaged stranger grant

  -- it gives up all
  pub detach_turn : turn_from history_machine definitions names shared (Ask (entry.Detach s.who), waiting s command.Detach) ≡ record { answer = Done; session = record s { view = None }; shared = record shared { owners = all_given_up shared.owners s.who } }
  detach_turn = refl

  -- ---- what the session owns

  -- ---- COMMIT

  -- an object that the session owns stands as its own
  own-stands : (object : ℕ) → owner_of shared.owners object ≡ Some s.who → kept_at (standing bodies shared) object ≡ Some (object_kept bodies shared object)
  own-stands object own =
      let kept = subst (λ (those : List Def). IsSome (object_in (kept_kinds those) object)) (sym fits.definitions_are) (fits.owners object s.who own).0 in
      let kind = some-kind (object_in (kept_kinds shared.definitions) object) kept in
      kept-stands bodies shared object kind.0 kind.1

  may-none : (least : ℕ) (changes : List Change) → MayCommit bodies shared.history shared.owners view.who least changes → first_refused (may_make shared.definitions (standing bodies shared) (Some s.who)) least changes ≡ None
  may-none least [] those = refl
  may-none least (c ∷ changes) those =
      let mine : owner_of shared.owners c.object ≡ Some s.who = those.1 ∙ ap Some fitting.number in
      let here = own-stands c.object mine in
      let own : is_own s.who (kept_at (standing bodies shared) c.object) ≡ true = ap (is_own s.who) here ∙ ap (λ (by : Option ℕ). elim by as (λ _. Bool) [ None ↦ false | Some one ↦ one == s.who ]) mine ∙ eq-eqb s.who s.who refl in
      let fit : fits_object shared.definitions (kept_at (standing bodies shared) c.object) c ≡ true = ap (λ (it : Option (Object Body)). fits_object shared.definitions it c) here ∙ those.2 in
      let may_c = and_from (is_own s.who (kept_at (standing bodies shared) c.object)) (fits_object shared.definitions (kept_at (standing bodies shared) c.object) c) own fit in
      ap (λ (b : Bool). if b then first_refused (may_make shared.definitions (standing bodies shared) (Some s.who)) (c.object + 1) changes else Some c.object) (and_from (nat_le least c.object) (may_make shared.definitions (standing bodies shared) (Some s.who) c) (le-leb least c.object those.0) may_c)
      ∙ may-none (c.object + 1) changes those.3

  pub owned-own : (objects : List ℕ) → AreOwned view objects → first_not_own (standing bodies shared) s.who objects ≡ None
  owned-own [] owned = refl
  owned-own (object ∷ objects) owned =
      let at = some-there (λ (found : ObjectView). found.owned ≡ true) (object_of view object) owned.0 in
      let mine : owner_of shared.owners object ≡ Some s.who = (of_object object at.0 at.1).owned.0 at.2 ∙ ap Some fitting.number in
      let own : is_own s.who (kept_at (standing bodies shared) object) ≡ true = ap (is_own s.who) (own-stands object mine) ∙ ap (λ (by : Option ℕ). elim by as (λ _. Bool) [ None ↦ false | Some one ↦ one == s.who ]) mine ∙ eq-eqb s.who s.who refl in
      ap (λ (b : Bool). cond (not b) (Some object) (first_not_own (standing bodies shared) s.who objects)) own ∙ owned-own objects owned.1

  pub none_refused : first_refused (may_make shared.definitions (standing bodies shared) (Some s.who)) 0 (rule.changes view) ≡ None
  none_refused = may-none 0 (rule.changes view) (may shared s.who view fitting)

  -- what is leaving the session owns
  pub leaving-own : first_not_own (standing bodies shared) s.who (leaving view) ≡ None
  leaving-own = owned-own (leaving view) (owned-filter (λ object. passes is_leaving (object_of view object)) view (owned_objects view) (owned-listed view))

  -- the commits and the owners after a commit
  abbrev pub committed : Workspace
  committed = workspace_after shared (entry.Commit s.who (rule.changes view) (leaving view)) Committed

  module _ (P : Turn Workspace → Type 0)
      (nothing : rule.changes view ≡ [] → leaving view ≡ [] → P (record { answer = Done; session = s; shared = shared }))
      (large : 67108864 < bytes_of (stored.Commit (rule.changes view)) → P (record { answer = Refused too_large; session = s; shared = shared }))
      (worn : (object : ℕ) → first_worn (standing bodies shared) (rule.changes view) ≡ Some object → P (record { answer = Refused (full (name_of definitions object)); session = s; shared = shared }))
      (grant : first_worn (standing bodies shared) (rule.changes view) ≡ None → P (record { answer = Done; session = record s { view = option_map rule.committed s.view }; shared = committed })) where
    asked_turn : P (turn_from history_machine definitions names shared (Ask (entry.Commit s.who (rule.changes view) (leaving view)), waiting s command.Commit))
    asked_turn =
        cut_off-cases shared asked (shared_step bodies shared asked) Answers (λ bytes granted long. large long)
        (λ uncut. commit-cases (λ reply. Answers (reply, workspace_after shared asked reply)) shared.definitions (standing bodies shared) s.who (rule.changes view) (leaving view)
        (λ object is. none-refuses object (ap (λ first. option_or first (first_not_own (standing bodies shared) s.who (leaving view))) none_refused ∙ leaving-own) is) worn grant)
      where
        asked : Entry
        asked = entry.Commit s.who (rule.changes view) (leaving view)

        Answers : Reply × Workspace → Type 0
        Answers r = P (replied history_machine definitions names (waiting s command.Commit) r)

        none-refuses : {A : Type 0} (object : ℕ) →
            option_or (first_refused (may_make shared.definitions (standing bodies shared) (Some s.who)) 0 (rule.changes view)) (first_not_own (standing bodies shared) s.who (leaving view)) ≡ None →
            option_or (first_refused (may_make shared.definitions (standing bodies shared) (Some s.who)) 0 (rule.changes view)) (first_not_own (standing bodies shared) s.who (leaving view)) ≡ Some object → A
        none-refuses object none is = cc

    as_asked : (changes : List Change) (leave : List ℕ) → rule.changes view ≡ changes → leaving view ≡ leave → P (turn_from history_machine definitions names shared (Ask (entry.Commit s.who changes leave), waiting s command.Commit))
    as_asked changes leave made left =
        subst (λ (those : List Change). P (turn_from history_machine definitions names shared (Ask (entry.Commit s.who those leave), waiting s command.Commit))) made
        (subst (λ (those : List ℕ). P (turn_from history_machine definitions names shared (Ask (entry.Commit s.who (rule.changes view) those), waiting s command.Commit))) left asked_turn)

    commit_so : (changes : List Change) (leave : List ℕ) → rule.changes view ≡ changes → leaving view ≡ leave → P (turn_from history_machine definitions names shared (kept_waiting command.Commit (commit_asked s changes leave)))
    commit_so [] [] made left = nothing made left
    commit_so [] (object ∷ leave) made left = as_asked [] (object ∷ leave) made left
    commit_so (change ∷ changes) leave made left = as_asked (change ∷ changes) leave made left

    pub commit_turn : P (turn_from history_machine definitions names shared (kept_waiting command.Commit (commit_asked s (rule.changes view) (leaving view))))
    commit_turn = commit_so (rule.changes view) (leaving view) refl refl
