-- Where the sessions fit what is committed and owned, a commit extends the latest generations, and a grant is of the latest.
use Rattle.std.specs.Prelude.{◌≡◌, ◌≢◌, ◌⊎◌, ◌+◌, ◌==◌, ◌&&◌, ◌||◌, ◌++◌, ℕ, Bool, true, false, not, cond, List, [], ◌∷◌, find, fold, All, Option, Some, None, IfSome, MatchOption, is_some, slice_get, refl}
use Rattle.std.specs.Option.{option_map, option_to_list, IsSomeAnd}
use Rattle.std.proofs.Common.{◌∙◌, ap, sym, subst, inl, inr, ⊎_elim, arith, append-nil}
use Rattle.std.proofs.lemmas.Bool.{leb-true, eq-eqb, true≢false, cases_Bool}
use Rattle.std.proofs.lemmas.List.Elements.{All-nil, All-cons, All-head, All-tail}
use Rattle.std.proofs.lemmas.Option.{none-some, same_Some}
use Rattle.aw_schema.specs.declared.definition.Def.{Def}
use Rattle.std.proofs.Math.Bool.{and-false}
use Rattle.aw_body.specs.declared.body.Body.{Body}
use Rattle.aw_body.specs.declared.change.Change.{Change}
use Rattle.aw_body.specs.declared.change.Fresh.{Fresh}
use Rattle.aw_body.specs.declared.change.Seen.{Seen}
use Rattle.aw_body.specs.BodyPatches.{applied}
use Rattle.aw_body.specs.Generations.{Bodies, change_of, changes_of, generations_from, generations, latest_body}
use Rattle.aw_body.specs.GenerationLaws.{changes_of-committed, latest_number-changed, latest_body-changed}
use Rattle.aw_body.specs.KeptBodies.{bodies_of, first_of}
use Rattle.aw_body.specs.Owners.{Owners, owner_of, is_own, taken, given_up}
use Rattle.aw_body.specs.OwnerLaws.{owner_of-taken, owner_of-given_up}
use Rattle.mv_core.specs.Effects.{taken_of}
use Rattle.mv_core.specs.Lookups.{kept_at, latest_of}
use Rattle.mv_core.specs.Replies.{is_worn, first_worn}
use Rattle.mv_core.specs.SharedStep.{history_after}
use Rattle.mv_core.specs.Workspace.{Workspace, standing}
use Rattle.mv_view.specs.Laws.{ChangeTells}
use Rattle.mv_view.specs.Rules as rule
use Rattle.mv_view.specs.ViewState.{ObjectView, ViewState, object_of}
use Rattle.mv_view.proofs.callers.Changes.{changes-tell}
use Rattle.mv_view.proofs.callers.Committing.{latest-is}
use Rattle.mv_view.proofs.callers.Each.{object_in-each, names-numbers}
use Rattle.mv_view.proofs.callers.Fitting.{number-most, named-latest, latest-found}
use Rattle.mv_view.specs.Each.{object_in, listed, names, passes}
use Rattle.ses_report.specs.Refusals.{full}
use Rattle.ses_step.specs.declared.answer.Answer.{Answer}
use Rattle.ses_step.specs.declared.answer.Answer.TheVariants.{Done, Refused}
use Rattle.ses_step.specs.declared.command.Command.TheVariants as command
use Rattle.ses_step.specs.declared.session.Known.{Known as Session}
use Rattle.ses_step.specs.Answers.{is_refusal}
use Rattle.ses_step.specs.Sessions.{kept_waiting, number_in, leaving, commit_asked, name_of}
use Rattle.script_meaning.specs.Extending.{HasLatest, IsCommitted, Leaves, IsFull, IsTooLarge, SeesLatest, IsGranted}
use Rattle.script_meaning.specs.Fit.{SharedFits}
use Rattle.script_meaning.specs.Generations.{latest_number}
use Rattle.script_meaning.specs.Language.{history_machine}
use Rattle.script_meaning.specs.Turns.{Turn, turn_from, turn}
use Rattle.script_meaning.proofs.Begins.{generations_in, number-seen, begun-shared}
use Rattle.script_meaning.proofs.Differences.{gives_newer}
use Rattle.script_meaning.proofs.FittingViews.{leaving-are}
use Rattle.script_meaning.proofs.Granting.{names-all, generations-objects, IsUnblocked, IsHanded, has-unblocked}
use Rattle.script_meaning.proofs.KeptKinds.{each-some}
use Rattle.script_meaning.proofs.Recording.{change-is, change-seen, gathered-all}
use Rattle.script_meaning.proofs.Replies.{Unblocked, Granted, granted, latest-are, latest-objects, find-passes, kept-stands}
use Rattle.script_meaning.proofs.TurnCases.{still, fitting, kept-kind, of_object, committed, acquire_turn, commit_turn}

-- ---- generations

generations_from-push : {B C : Type 0} (bodies : Bodies B C) (body : B) (changes : List C) (c : C) → generations_from bodies body (changes ++ c ∷ []) ≡ generations_from bodies body changes ++ bodies.applied (fold bodies.applied body changes) c ∷ []
generations_from-push bodies body [] c = refl
generations_from-push {B} bodies body (d ∷ changes) c = ap (λ (rest : List B). body ∷ rest) (generations_from-push bodies (bodies.applied body d) changes c)

module _ {B C : Type 0} (bodies : Bodies B C) (history : List (List C)) (commit : List C) (object : ℕ) where
  generations-committed : (found : Option C) → change_of bodies object commit ≡ found → generations bodies (history ++ commit ∷ []) object ≡ generations_from bodies (bodies.first object) (changes_of bodies object history ++ option_to_list found)
  generations-committed found is =
      ap (generations_from bodies (bodies.first object)) (changes_of-committed bodies object history commit ∙ ap (λ it. changes_of bodies object history ++ option_to_list it) is)

  pub generations-changed : (c : C) → change_of bodies object commit ≡ Some c → generations bodies (history ++ commit ∷ []) object ≡ generations bodies history object ++ bodies.applied (latest_body bodies history object) c ∷ []
  generations-changed c is = generations-committed (Some c) is ∙ generations_from-push bodies (bodies.first object) (changes_of bodies object history) c

  pub generations-unchanged : change_of bodies object commit ≡ None → generations bodies (history ++ commit ∷ []) object ≡ generations bodies history object
  generations-unchanged is = generations-committed None is ∙ ap (generations_from bodies (bodies.first object)) (append-nil (changes_of bodies object history))

-- ---- what is found

found-has : {X : Type 0} (p : X → Bool) (P : X → Type 0) (xs : List X) (x : X) → find p xs ≡ Some x → All P xs → P x
found-has p P [] x is all = cc
found-has {X} p P (y ∷ xs) x is all = step (p y) is (λ found. found-has p P xs x found (All-tail P y xs all))
  where
    step : (first : Bool) → cond first (Some y) (find p xs) ≡ Some x → (find p xs ≡ Some x → P x) → P x
    step true found later =
        let same : y ≡ x = cc in
        subst P same (All-head P y xs all)
    step false found later = later found

map-some : {A B : Type 0} (f : A → B) (found : Option A) (y : B) → option_map f found ≡ Some y → (x : A) × (found ≡ Some x) × (f x ≡ y)
map-some f None y is = cc
map-some f (Some x) y is = (x, refl, same_Some (f x) y is)

-- a list that names an object in either part
names-either : (one other : List ℕ) (at : ℕ) → (names one at ≡ true) ⊎ (names other at ≡ true) → names (one ++ other) at ≡ true
names-either [] other at named = ⊎_elim (λ never. absurd (true≢false (sym never))) (λ it. it) named
names-either (first ∷ one) other at named = by_test (first == at) named (names-either one other at)
  where
    by_test : (test : Bool) → ((test || names one at) ≡ true) ⊎ (names other at ≡ true) → ((names one at ≡ true) ⊎ (names other at ≡ true) → names (one ++ other) at ≡ true) → (test || names (one ++ other) at) ≡ true
    by_test true either rest = refl
    by_test false either rest = rest either

-- what a COMMIT is answered without a disk, and what it adds
pub record PlainCommits (definitions : List Def) (shared : Workspace) (session : Session) (view : ViewState) (t : Turn Workspace) : Type 0 where
  pub answers : (t.answer ≡ Done) ⊎ ((IsFull definitions view t.answer ⊎ IsTooLarge view t.answer) × still t session shared)
  pub extends : t.answer ≡ Done → (object : ℕ) → IfSome (object_of view object) (IsCommitted shared t.shared object)
  pub leaves : t.answer ≡ Done → (object : ℕ) → IfSome (object_of view object) (Leaves shared t.shared object)

module _ (definitions : List Def) (session_names : List (List ℕ)) (sessions : List Session) (shared : Workspace) (s : Session) (fits : SharedFits definitions sessions shared) (own_place : slice_get sessions s.who ≡ Some s) (view : ViewState) (attached : s.view ≡ Some view) where
  abbrev bodies : Bodies Body Change
  bodies = bodies_of shared.definitions

  module _ (object : ℕ) (found : ObjectView) (there : object_of view object ≡ Some found) where
    latest_body-seen : found.number ≡ latest_number shared object → HasLatest shared object found
    latest_body-seen latest =
        let it = of_object definitions session_names sessions shared s fits own_place view attached object found there in
        record { number = latest; body = latest-is bodies shared.history object found.number found.base it.base latest }

    pub owned_has_latest : found.owned ≡ true → HasLatest shared object found
    owned_has_latest own = latest_body-seen ((of_object definitions session_names sessions shared s fits own_place view attached object found there).latest own)

    -- ---- what a commit adds

    abbrev Told : Option Change → Type 0
    Told change = ((change ≡ None) × (found.staged ≡ found.base)) ⊎ ((c : Change) × (change ≡ Some c) × ChangeTells found c)

    -- there is a change exactly where the staged body isn't the base
    pub told : Told (change_of bodies object (rule.changes view))
    told =
        by_change (change_of bodies object (rule.changes view))
        (subst (λ (seen : Option ObjectView). MatchOption (change_of bodies object (rule.changes view)) (IfSome seen (λ one. one.owned ≡ true → one.staged ≡ one.base)) (λ change. IsSomeAnd seen (λ one. ChangeTells one change))) there
        (changes-tell gives_newer shared.definitions (λ object. 1) (first_of shared.definitions) view object (fitting definitions session_names sessions shared s fits own_place view attached).forms))
      where
        unstaged : (found.owned ≡ true → found.staged ≡ found.base) → found.staged ≡ found.base
        unstaged own = ⊎_elim own (of_object definitions session_names sessions shared s fits own_place view attached object found there).unstaged (cases_Bool found.owned)

        by_change : (change : Option Change) → MatchOption change (found.owned ≡ true → found.staged ≡ found.base) (λ change. ChangeTells found change) → Told change
        by_change None own = inl (refl, unstaged own)
        by_change (Some c) tells = inr (c, refl, tells)

    -- whoever owns what
    module _ (owners : Owners) where
      abbrev after : List Change → Workspace
      after changes = record shared { history = history_after shared.history changes; owners = owners }

      extended : (change : Change) (changes : List Change) → rule.changes view ≡ change ∷ changes → (c : Change) → change_of bodies object (rule.changes view) ≡ Some c → ChangeTells found c → IsCommitted shared (after (change ∷ changes)) object found
      extended change changes made c is tells =
          let its : change_of bodies object (change ∷ changes) ≡ Some c = sym (ap (change_of bodies object) made) ∙ is in
          let had = owned_has_latest tells.0 in
          let makes : bodies.applied (latest_body bodies shared.history object) c ≡ found.staged = ap (λ (body : Body). applied body c.patch) (sym had.body) ∙ tells.2 in
          record {
            changed = λ differs. record {
              had = had;
              added = generations-changed bodies shared.history (change ∷ changes) object c its ∙ ap (λ (body : Body). generations bodies shared.history object ++ body ∷ []) makes;
              number = latest_number-changed bodies shared.history (change ∷ changes) object c its ∙ ap (λ (number : ℕ). number + 1) (sym had.number);
              body = latest_body-changed bodies shared.history (change ∷ changes) object c its ∙ makes;
            };
            kept = λ same. absurd (tells.1 same);
          }

      unextended : (change : Change) (changes : List Change) → rule.changes view ≡ change ∷ changes → change_of bodies object (rule.changes view) ≡ None → found.staged ≡ found.base → IsCommitted shared (after (change ∷ changes)) object found
      unextended change changes made none same = record {
        changed = λ differs. absurd (differs same);
        kept = λ _. generations-unchanged bodies shared.history (change ∷ changes) object (sym (ap (change_of bodies object) made) ∙ none);
      }

      -- a commit of no changes has nothing staged
      nothing_so : rule.changes view ≡ [] → IsCommitted shared (after []) object found
      nothing_so none = record {
        changed = λ differs. ⊎_elim (λ it. absurd (differs it.1)) (λ it. absurd (none-some it.0 (sym (ap (change_of bodies object) none) ∙ it.1))) told;
        kept = λ _. refl;
      }

      pub committed_so : (changes : List Change) → rule.changes view ≡ changes → IsCommitted shared (after changes) object found
      committed_so [] made = nothing_so made
      committed_so (change ∷ changes) made = ⊎_elim (λ it. unextended change changes made it.0 it.1) (λ it. extended change changes made it.0 it.1 it.2) told

    -- ---- what a commit gives up

    left_test : names (leaving view) object ≡ found.leaving
    left_test =
        ap (λ (those : List ℕ). names those object) (leaving-are shared s.who view (fitting definitions session_names sessions shared s fits own_place view attached))
        ∙ names-numbers (λ (one : ObjectView). one.leaving) 0 view.objects object object (omega arith) ∙ ap (passes (λ (one : ObjectView). one.leaving)) there

    owned_leaving : found.leaving ≡ true → found.owned ≡ true
    owned_leaving leaves = ⊎_elim (λ own. own) (λ foreign. absurd (true≢false (sym leaves ∙ (of_object definitions session_names sessions shared s fits own_place view attached object found there).staying foreign))) (cases_Bool found.owned)

    pub leaves_so : Leaves shared (record shared { owners = given_up shared.owners s.who (leaving view) }) object found
    leaves_so = record {
      left = λ leaves.
          let mine : owner_of shared.owners object ≡ Some s.who = (of_object definitions session_names sessions shared s fits own_place view attached object found there).owned.0 (owned_leaving leaves) ∙ ap Some (fitting definitions session_names sessions shared s fits own_place view attached).number in
          let own : is_own shared.owners s.who object ≡ true = ap (λ (owner : Option ℕ). elim owner as (λ _. Bool) [ None ↦ false | Some one ↦ one == s.who ]) mine ∙ eq-eqb s.who s.who refl in
          owner_of-given_up shared.owners s.who (leaving view) object
          ∙ ap (λ (b : Bool). cond (not (b && names (leaving view) object)) (owner_of shared.owners object) None) own
          ∙ ap (λ (b : Bool). cond (not b) (owner_of shared.owners object) None) (left_test ∙ leaves);
      stays = λ stays.
          owner_of-given_up shared.owners s.who (leaving view) object
          ∙ ap (λ (b : Bool). cond (not (is_own shared.owners s.who object && b)) (owner_of shared.owners object) None) (left_test ∙ stays)
          ∙ ap (λ (b : Bool). cond (not b) (owner_of shared.owners object) None) (and-false (is_own shared.owners s.who object));
    }

    -- where nothing leaves
    none_leaves : leaving view ≡ [] → Leaves shared shared object found
    none_leaves none = record {
      left = λ leaves. absurd (true≢false (sym leaves ∙ sym left_test ∙ ap (λ (those : List ℕ). names those object) none));
      stays = λ stays. refl;
    }

  -- ---- COMMIT

  abbrev IsChangeSeen : Change → Type 0
  IsChangeSeen c = (found : ObjectView) × (object_of view c.object ≡ Some found) × (rule.change_of c.object found ≡ Some c)

  changes-seen : All IsChangeSeen (rule.changes view)
  changes-seen =
      gathered-all IsChangeSeen 0 view.objects (λ k object is.
      subst (λ (at : ℕ). IfSome (object_in view.objects at) (λ found. (c : Change) → rule.change_of object found ≡ Some c → IsChangeSeen c)) (let e : object ≡ k = omega (arith, is) in e)
      (each-some (λ (found : ObjectView). (c : Change) → rule.change_of object found ≡ Some c → IsChangeSeen c) (object_of view object) (λ found there c made.
      let place = (change-is object found c made).place in
      (found, ap (object_of view) place ∙ there, ap (λ (at : ℕ). rule.change_of at found) place ∙ made))))

  full_worn : (answer : Answer) (object : ℕ) → first_worn (standing bodies shared) (rule.changes view) ≡ Some object → answer ≡ Refused (full (name_of definitions object)) → IsFull definitions view answer
  full_worn answer object is refused =
      let worn : Change → Bool = λ c. is_worn (kept_at (standing bodies shared) c.object) in
      let first = map-some (λ (c : Change). c.object) (find worn (rule.changes view)) object is in
      let c = first.0 in
      let it = found-has worn IsChangeSeen (rule.changes view) c first.1 changes-seen in
      let found = it.0 in
      let there : object_of view object ≡ Some found = sym (ap (object_of view) first.2) ∙ it.1 in
      let given : rule.change_of object found ≡ Some c = sym (ap (λ (at : ℕ). rule.change_of at found) first.2) ∙ it.2 in
      let its = change-is object found c given in
      let differs : found.staged ≢ found.base = ⊎_elim (λ none. absurd (none-some c (sym none.0 ∙ change-seen shared s.who view (fitting definitions session_names sessions shared s fits own_place view attached) object found there ∙ given))) (λ tells. tells.2.1) (told object found there) in
      let stands = kept-stands bodies shared object found.kind (kept-kind definitions session_names sessions shared s fits own_place view attached object found there) in
      let above = leb-true 18446744073709551615 (latest_number shared object) (sym (ap is_worn (ap (kept_at (standing bodies shared)) first.2 ∙ stands)) ∙ find-passes worn (rule.changes view) c first.1) in
      record {
        object = object;
        found = found;
        seen = there;
        staged = differs;
        last = omega (arith, above, (owned_has_latest object found there its.owned).number);
        refused = refused;
      }

  abbrev now : Workspace
  now = committed definitions session_names sessions shared s fits own_place view attached

  commit_law : PlainCommits definitions shared s view (turn_from history_machine definitions session_names shared (kept_waiting command.Commit (commit_asked s (rule.changes view) (leaving view))))
  commit_law =
      commit_turn definitions session_names sessions shared s fits own_place view attached (PlainCommits definitions shared s view)
      (λ none unleft. record {
        answers = inl refl;
        extends = λ _ object. each-some (IsCommitted shared shared object) (object_of view object) (λ found there. nothing_so object found there shared.owners none);
        leaves = λ _ object. each-some (Leaves shared shared object) (object_of view object) (λ found there. none_leaves object found there unleft);
      })
      (λ long. record { answers = inr (inr (record { many = long; refused = refl }), (refl, refl)); extends = λ done. absurd (true≢false (ap is_refusal done)); leaves = λ done. absurd (true≢false (ap is_refusal done)) })
      (λ object is. record { answers = inr (inl (full_worn (Refused (full (name_of definitions object))) object is refl), (refl, refl)); extends = λ done. absurd (true≢false (ap is_refusal done)); leaves = λ done. absurd (true≢false (ap is_refusal done)) })
      (λ unworn. record {
        answers = inl refl;
        extends = λ _ object. each-some (IsCommitted shared now object) (object_of view object) (λ found there. committed_so object found there now.owners (rule.changes view) refl);
        leaves = λ _ object. each-some (Leaves shared now object) (object_of view object) (λ found there. let it = leaves_so object found there in record { left = it.left; stays = it.stays });
      })

  pub commits : PlainCommits definitions shared s view (turn history_machine definitions session_names shared s command.Commit)
  commits =
      subst (λ b. PlainCommits definitions shared s view (turn_from history_machine definitions session_names shared (kept_waiting command.Commit b))) (sym (begun-shared definitions s command.Commit view attached refl)) commit_law

  -- ---- ACQUIRE

  -- where an object doesn't block, the session has the latest generation of it
  latest_unblocked : (object : ℕ) → Unblocked (standing bodies shared) s.who object (Some (number_in s object)) → SeesLatest shared view object
  latest_unblocked object un =
      let it = has-unblocked shared s view attached (fitting definitions session_names sessions shared s fits own_place view attached) object (Some (number_in s object)) un in
      let fit = of_object definitions session_names sessions shared s fits own_place view attached object it.found it.there in
      let number : number_in s object ≡ it.found.number = number-seen s object (record { view = view; found = it.found; attached = attached; seen = it.there }) in
      record {
        found = it.found;
        seen = it.there;
        has = ⊎_elim (λ none. latest_body-seen object it.found it.there (omega (arith, number-most bodies shared.history object it.found.number it.found.base fit.base, none.1, number))) (λ own. owned_has_latest object it.found it.there (it.owns own)) it.may;
      }

  all_latest : (objects : List ℕ) → All (IsUnblocked shared s) (generations_in s objects) → All (SeesLatest shared view) objects
  all_latest [] each = All-nil (SeesLatest shared view)
  all_latest (object ∷ objects) each =
      let one : Seen = record { object = object; number = number_in s object } in
      All-cons (SeesLatest shared view) object objects (latest_unblocked object (All-head (IsUnblocked shared s) one (generations_in s objects) each)) (all_latest objects (All-tail (IsUnblocked shared s) one (generations_in s objects) each))

  module _ (keep fresh same : List ℕ) where
    abbrev given : List Fresh
    given = latest_of (standing bodies shared) fresh

    abbrev seen_after : ViewState
    seen_after = rule.acquired view keep given

    abbrev owners_after : Owners
    owners_after = taken shared.owners s.who (taken_of (generations_in s keep) fresh)

    abbrev acquired_now : Workspace
    acquired_now = record shared { owners = owners_after }

    -- one that was owned by the session alone, or handed over
    owned-kept : (b : Bool) (changed found : ObjectView) → (changed.number ≡ found.number) × (changed.base ≡ found.base) → ((cond b changed found).number ≡ found.number) × ((cond b changed found).base ≡ found.base)
    owned-kept true changed found same = same
    owned-kept false changed found same = (refl, refl)

    seen_now : (object : ℕ) (found : ObjectView) → object_of view object ≡ Some found → (rule.latest_of given object ≡ None → HasLatest shared object found) → SeesLatest acquired_now seen_after object
    seen_now object found there latest = by_given (rule.latest_of given object) refl
      where
        owning : ObjectView
        owning = listed (rule.objects_of given) rule.owning object (listed keep rule.owning object found)

        here : object_of seen_after object ≡ Some (rule.renewed (rule.latest_of given object) owning)
        here =
            object_in-each 0 (λ at one. rule.renewed (rule.latest_of given at) (listed (rule.objects_of given) rule.owning at (listed keep rule.owning at one))) view.objects object object (omega arith)
            ∙ ap (option_map (λ (one : ObjectView). rule.renewed (rule.latest_of given object) (listed (rule.objects_of given) rule.owning object (listed keep rule.owning object one)))) there

        by_given : (one : Option Fresh) → rule.latest_of given object ≡ one → SeesLatest acquired_now seen_after object
        by_given (Some one) is =
            let handed = latest-found bodies shared.history given object one (latest-are bodies shared fresh) is in
            record {
              found = rule.renewed (Some one) owning;
              seen = here ∙ ap (λ (it : Option Fresh). Some (rule.renewed it owning)) is;
              has = record { number = handed.0; body = handed.1 };
            }
        by_given None is =
            let had = latest is in
            let first = owned-kept (names keep object) (rule.owning found) found (refl, refl) in
            let second = owned-kept (names (rule.objects_of given) object) (rule.owning (listed keep rule.owning object found)) (listed keep rule.owning object found) (refl, refl) in
            record {
              found = owning;
              seen = here ∙ ap (λ (it : Option Fresh). Some (rule.renewed it owning)) is;
              has = record { number = second.0 ∙ first.0 ∙ had.number; body = second.1 ∙ first.1 ∙ had.body };
            }

    grant_law : Granted (standing bodies shared) s.who (generations_in s keep) fresh (generations_in s same) → (moved : Session) → moved.view ≡ option_map (λ (one : ViewState). rule.acquired one keep given) s.view → IsGranted keep fresh same shared acquired_now s view moved
    grant_law granted moved moves = record {
      view_after = seen_after;
      attached = moves ∙ ap (option_map (λ (one : ViewState). rule.acquired one keep given)) attached;
      had = λ object. had object;
      has = λ object. ⊎_elim (λ kept. old object (had object (inl kept))) (λ rest. ⊎_elim (λ handed. new object handed) (λ watched. old object (had object (inr watched))) rest);
      owned = λ object named.
          owner_of-taken shared.owners s.who (taken_of (generations_in s keep) fresh) object
          ∙ ap (λ (b : Bool). cond b (Some s.who) (owner_of shared.owners object)) (ap (λ (those : List ℕ). names (those ++ fresh) object) (generations-objects s keep) ∙ names-either keep fresh object named);
      history = refl;
    }
      where
        had : (object : ℕ) → (names keep object ≡ true) ⊎ (names same object ≡ true) → SeesLatest shared view object
        had object = ⊎_elim (names-all (SeesLatest shared view) keep object (all_latest keep granted.keep_may)) (names-all (SeesLatest shared view) same object (all_latest same granted.same_may))

        old : (object : ℕ) → SeesLatest shared view object → SeesLatest acquired_now seen_after object
        old object it = seen_now object it.found it.seen (λ none. it.has)

        new : (object : ℕ) → names fresh object ≡ true → SeesLatest acquired_now seen_after object
        new object named =
            let un = names-all (IsHanded shared s) fresh object granted.fresh_may named in
            let it = has-unblocked shared s view attached (fitting definitions session_names sessions shared s fits own_place view attached) object None un in
            let handed : is_some (rule.latest_of given object) ≡ true = sym (named-latest given object) ∙ ap (λ (those : List ℕ). names those object) (latest-objects bodies shared s.who fresh granted.fresh_may) ∙ named in
            seen_now object it.found it.there (λ none. absurd (true≢false (sym handed ∙ ap is_some none)))

  abbrev GrantOf : List ℕ → List ℕ → List ℕ → Turn Workspace → Type 0
  GrantOf keep fresh same t = t.answer ≡ Done → IsGranted keep fresh same shared t.shared s view t.session

  pub acquires : (keep fresh same : List ℕ) → GrantOf keep fresh same (turn history_machine definitions session_names shared s (command.Acquire keep fresh same))
  acquires keep fresh same =
      subst (λ b. GrantOf keep fresh same (turn_from history_machine definitions session_names shared (kept_waiting (command.Acquire keep fresh same) b))) (sym (begun-shared definitions s (command.Acquire keep fresh same) view attached refl))
      (acquire_turn definitions session_names sessions shared s fits own_place view attached (GrantOf keep fresh same) keep fresh same
      (λ object is done. absurd (true≢false (ap is_refusal done)))
      (λ object by is done. absurd (true≢false (ap is_refusal done)))
      (λ object number is done. absurd (true≢false (ap is_refusal done)))
      (λ none done. grant_law keep fresh same (granted (standing bodies shared) s.who (generations_in s keep) fresh (generations_in s same) none) (record s { view = option_map (λ (one : ViewState). rule.acquired one keep (latest_of (standing bodies shared) fresh)) s.view }) refl))
