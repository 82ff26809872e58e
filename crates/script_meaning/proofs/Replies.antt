-- What the shared state answers to the entries that a session asks.
use Rattle.std.specs.Prelude.{◌≡◌, ◌⊎◌, ◌<◌, ◌≤◌, ◌==◌, ℕ, Bool, true, false, cond, List, [], ◌∷◌, find, All, Option, Some, None, nat_lt, unwrap_or, slice_get, if◌then◌else◌, refl}
use Rattle.std.specs.List.{cons_option}
use Rattle.std.specs.Option.{option_map, option_or}
use Rattle.std.proofs.Common.{◌∙◌, ap, sym, inl, inr}
use Rattle.std.proofs.lemmas.Bool.{eqb-true, ltb-false, leb-false}
use Rattle.std.proofs.lemmas.List.Elements.{All-nil, All-cons, All-head, All-tail}
use Rattle.std.proofs.lemmas.Option.{same_Some}
use Rattle.aw_schema.specs.declared.definition.Def.{Def}
use Rattle.aw_schema.specs.declared.definition.DefKind.{DefKind}
use Rattle.aw_schema.specs.Definitions.{is_kept}
use Rattle.aw_body.specs.declared.body.Body.{Body}
use Rattle.aw_body.specs.declared.change.Change.{Change}
use Rattle.aw_body.specs.declared.change.Seen.{Seen}
use Rattle.aw_body.specs.Generations.{Bodies, latest_number}
use Rattle.mv_core.specs.declared.entry.Entry.TheVariants as entry
use Rattle.mv_core.specs.declared.entry.Reply.{Reply}
use Rattle.mv_core.specs.declared.entry.Reply.TheVariants.{Attached, Acquired, Resynced, Committed, Released, Detached, Owned, Newer, Stranger, Worn, TooLarge, Fault, NoMemory}
use Rattle.mv_core.specs.declared.object.Object.{Object}
use Rattle.mv_core.specs.Lookups.{kept_at, fresh_of, latest_of}
use Rattle.mv_core.specs.Replies.{newer, block, first_block, seen_block, fresh_block, acquire_block, first_unkept, first_not_own, may_make, first_refused, is_worn, first_worn, reply_of}
use Rattle.mv_core.specs.Workspace.{Workspace, object_of, standing}
use Rattle.mv_view.specs.Each.{object_in}
use Rattle.mv_view.specs.Laws.{AreLatest}
use Rattle.mv_view.specs.Rules as rule
use Rattle.mv_view.specs.ViewState.{kept_kinds}
use Rattle.aw_store.proofs.callers.StandingObjects.{kept_at-standing, stands_as}
use Rattle.script_meaning.proofs.KeptKinds.{kept-here, here-kept}

-- ---- what is looked up

-- a kept object stands as the commits and the owners have it
pub kept-stands : (bodies : Bodies Body Change) (w : Workspace) (object : ℕ) (kind : DefKind) → object_in (kept_kinds w.definitions) object ≡ Some kind → kept_at (standing bodies w) object ≡ Some (object_of bodies w object)
kept-stands bodies w object kind kept =
    let it = kept-here w.definitions object kind kept in
    kept_at-standing bodies w object
    ∙ ap (λ (found : Option Def). stands_as found (object_of bodies w object)) it.there
    ∙ ap (λ (b : Bool). if b then Some (object_of bodies w object) else None) it.kept

-- what is found passes its test, and fails each test that finds nothing
pub find-passes : {X : Type 0} (test : X → Bool) (xs : List X) (x : X) → find test xs ≡ Some x → test x ≡ true
find-passes test [] x is = cc
find-passes test (y ∷ xs) x is = by_first (test y) refl is (find-passes test xs x)
  where
    by_first : (first : Bool) → test y ≡ first → cond first (Some y) (find test xs) ≡ Some x → (find test xs ≡ Some x → test x ≡ true) → test x ≡ true
    by_first true e found later =
        let same : y ≡ x = cc in
        sym (ap test same) ∙ e
    by_first false e found later = later found

pub find-fails : {X : Type 0} (test other : X → Bool) (xs : List X) (x : X) → find test xs ≡ Some x → find other xs ≡ None → other x ≡ false
find-fails test other [] x is none = cc
find-fails test other (y ∷ xs) x is none = by_first (test y) (other y) refl is none (find-fails test other xs x)
  where
    by_first : (first second : Bool) → other y ≡ second → cond first (Some y) (find test xs) ≡ Some x → cond second (Some y) (find other xs) ≡ None → (find test xs ≡ Some x → find other xs ≡ None → other x ≡ false) → other x ≡ false
    by_first first true e found nothing later = cc
    by_first true false e found nothing later =
        let same : y ≡ x = cc in
        sym (ap other same) ∙ e
    by_first false false e found nothing later = later found nothing

-- what stands at a number is a kept object, as the commits and the owners have it
pub record StandsAt (bodies : Bodies Body Change) (w : Workspace) (object : ℕ) (it : Object Body) : Type 0 where
  pub kind : DefKind
  pub kept : object_in (kept_kinds w.definitions) object ≡ Some kind
  pub is : it ≡ object_of bodies w object

pub stands-at : (bodies : Bodies Body Change) (w : Workspace) (object : ℕ) (it : Object Body) → kept_at (standing bodies w) object ≡ Some it → StandsAt bodies w object it
stands-at bodies w object it found = by_def (slice_get w.definitions object) refl (sym (kept_at-standing bodies w object) ∙ found)
  where
    by_kept : (def : Def) → slice_get w.definitions object ≡ Some def → (kept : Bool) → is_kept def.kind ≡ kept → (if kept then Some (object_of bodies w object) else None) ≡ Some it → StandsAt bodies w object it
    by_kept def is true kept found = record { kind = def.kind; kept = here-kept w.definitions object def is kept; is = sym (same_Some (object_of bodies w object) it found) }
    by_kept def is false kept found = cc

    by_def : (def : Option Def) → slice_get w.definitions object ≡ def → stands_as def (object_of bodies w object) ≡ Some it → StandsAt bodies w object it
    by_def None is found = cc
    by_def (Some def) is found = by_kept def is (is_kept def.kind) refl found

-- ---- ACQUIRE

-- no generation above the one that the session has
abbrev pub IsWithin : Option ℕ → ℕ → Type 0
IsWithin None latest = Unit {0}
IsWithin (Some number) latest = latest ≤ number

-- nobody owns the object and it isn't newer, or it is the session's own
abbrev pub MayGrant : Object Body → ℕ → Option ℕ → Type 0
MayGrant it who seen = ((it.owner ≡ None) × IsWithin seen it.number) ⊎ (it.owner ≡ Some who)

-- what doesn't block
pub record Unblocked (objects : List (Option (Object Body))) (who object : ℕ) (seen : Option ℕ) : Type 0 where
  pub it : Object Body
  pub stands : kept_at objects object ≡ Some it
  pub may : MayGrant it who seen

module _ (objects : List (Option (Object Body))) (who : ℕ) where
  not-newer : (object : ℕ) (seen : Option ℕ) (latest : ℕ) → newer object seen latest ≡ None → IsWithin seen latest
  not-newer object None latest none = tt
  not-newer object (Some number) latest none = by_test (nat_lt number latest) refl none
    where
      by_test : (test : Bool) → nat_lt number latest ≡ test → (if test then Some (Newer object latest) else None) ≡ None → latest ≤ number
      by_test true is none = cc
      by_test false is none = ltb-false number latest is

  unblocked : (object : ℕ) (seen : Option ℕ) → block who object seen (kept_at objects object) ≡ None → Unblocked objects who object seen
  unblocked object seen none = by_found (kept_at objects object) refl none
    where
      by_own : (it : Object Body) → kept_at objects object ≡ Some it → (by : ℕ) → it.owner ≡ Some by → (test : Bool) → (by == who) ≡ test → (if test then None else Some (Owned object by)) ≡ None → Unblocked objects who object seen
      by_own it stands by is true same none = record { it = it; stands = stands; may = inr (is ∙ ap Some (eqb-true by who same)) }
      by_own it stands by is false differs none = cc

      by_owner : (it : Object Body) → kept_at objects object ≡ Some it → (owner : Option ℕ) → it.owner ≡ owner → elim owner as (λ _. Option Reply) [ None ↦ newer object seen it.number | Some by ↦ if by == who then None else Some (Owned object by) ] ≡ None → Unblocked objects who object seen
      by_owner it stands None is none = record { it = it; stands = stands; may = inl (is, not-newer object seen it.number none) }
      by_owner it stands (Some by) is none = by_own it stands by is (by == who) refl none

      by_found : (found : Option (Object Body)) → kept_at objects object ≡ found → block who object seen found ≡ None → Unblocked objects who object seen
      by_found None is none = cc
      by_found (Some it) is none = by_owner it is it.owner refl none

first-none : {A : Type 0} (blocks : A → Option Reply) (P : A → Type 0) → ((a : A) → blocks a ≡ None → P a) → (all : List A) → first_block blocks all ≡ None → All P all
first-none blocks P each [] none = All-nil P
first-none blocks P each (a ∷ others) none = by_first (blocks a) refl none (first-none blocks P each others)
  where
    by_first : (found : Option Reply) → blocks a ≡ found → option_or found (first_block blocks others) ≡ None → (first_block blocks others ≡ None → All P others) → All P (a ∷ others)
    by_first None is none rest = All-cons P a others (each a is) (rest none)
    by_first (Some reply) is none rest = cc

pub or-none : {X : Type 0} (one other : Option X) → option_or one other ≡ None → (one ≡ None) × (other ≡ None)
or-none None other none = (refl, none)
or-none (Some x) other none = cc

-- what holds of all three lists where nothing blocks
pub record Granted (objects : List (Option (Object Body))) (who : ℕ) (keep : List Seen) (fresh : List ℕ) (same : List Seen) : Type 0 where
  pub keep_may : All (λ (seen : Seen). Unblocked objects who seen.object (Some seen.number)) keep
  pub fresh_may : All (λ object. Unblocked objects who object None) fresh
  pub same_may : All (λ (seen : Seen). Unblocked objects who seen.object (Some seen.number)) same

pub granted : (objects : List (Option (Object Body))) (who : ℕ) (keep : List Seen) (fresh : List ℕ) (same : List Seen) → acquire_block objects who keep fresh same ≡ None → Granted objects who keep fresh same
granted objects who keep fresh same none =
    let first = or-none (seen_block objects who keep) (option_or (fresh_block objects who fresh) (seen_block objects who same)) none in
    let rest = or-none (fresh_block objects who fresh) (seen_block objects who same) first.1 in
    let may_seen : (seen : Seen) → block who seen.object (Some seen.number) (kept_at objects seen.object) ≡ None → Unblocked objects who seen.object (Some seen.number) = λ seen. unblocked objects who seen.object (Some seen.number) in
    record {
      keep_may = first-none (λ (seen : Seen). block who seen.object (Some seen.number) (kept_at objects seen.object)) (λ (seen : Seen). Unblocked objects who seen.object (Some seen.number)) may_seen keep first.0;
      fresh_may = first-none (λ object. block who object None (kept_at objects object)) (λ object. Unblocked objects who object None) (λ object. unblocked objects who object None) fresh rest.0;
      same_may = first-none (λ (seen : Seen). block who seen.object (Some seen.number) (kept_at objects seen.object)) (λ (seen : Seen). Unblocked objects who seen.object (Some seen.number)) may_seen same rest.1;
    }

-- the replies that block
abbrev IsBlock : Option Reply → Type 0
IsBlock None = Unit {0}
IsBlock (Some (Stranger object)) = Unit {0}
IsBlock (Some (Owned object by)) = Unit {0}
IsBlock (Some (Newer object number)) = Unit {0}
IsBlock (Some _) = ⊥

newer-is : (object : ℕ) (seen : Option ℕ) (latest : ℕ) → IsBlock (newer object seen latest)
newer-is object None latest = tt
newer-is object (Some number) latest = by_test (nat_lt number latest)
  where
    by_test : (test : Bool) → IsBlock (if test then Some (Newer object latest) else None)
    by_test true = tt
    by_test false = tt

block-is : (who object : ℕ) (seen : Option ℕ) (found : Option (Object Body)) → IsBlock (block who object seen found)
block-is who object seen None = tt
block-is who object seen (Some it) = by_owner it.owner
  where
    by_own : (by : ℕ) (test : Bool) → IsBlock (if test then None else Some (Owned object by))
    by_own by true = tt
    by_own by false = tt

    by_owner : (owner : Option ℕ) → IsBlock (elim owner [ None ↦ newer object seen it.number | Some by ↦ if by == who then None else Some (Owned object by) ])
    by_owner None = newer-is object seen it.number
    by_owner (Some by) = by_own by (by == who)

or-is : (one other : Option Reply) → IsBlock one → IsBlock other → IsBlock (option_or one other)
or-is None other first second = second
or-is (Some reply) other first second = first

first-is : {A : Type 0} (blocks : A → Option Reply) → ((a : A) → IsBlock (blocks a)) → (all : List A) → IsBlock (first_block blocks all)
first-is blocks each [] = tt
first-is blocks each (a ∷ others) = or-is (blocks a) (first_block blocks others) (each a) (first-is blocks each others)

acquire-is : (objects : List (Option (Object Body))) (who : ℕ) (keep : List Seen) (fresh : List ℕ) (same : List Seen) → IsBlock (acquire_block objects who keep fresh same)
acquire-is objects who keep fresh same =
    let listed : (those : List Seen) → IsBlock (seen_block objects who those) = first-is (λ (seen : Seen). block who seen.object (Some seen.number) (kept_at objects seen.object)) (λ seen. block-is who seen.object (Some seen.number) (kept_at objects seen.object)) in
    or-is (seen_block objects who keep) (option_or (fresh_block objects who fresh) (seen_block objects who same)) (listed keep)
    (or-is (fresh_block objects who fresh) (seen_block objects who same) (first-is (λ object. block who object None (kept_at objects object)) (λ object. block-is who object None (kept_at objects object)) fresh) (listed same))

module _ (P : Reply → Type 0) (definitions : List Def) (objects : List (Option (Object Body))) (who : ℕ) (keep : List Seen) (fresh : List ℕ) (same : List Seen)
    (stranger : (object : ℕ) → acquire_block objects who keep fresh same ≡ Some (Stranger object) → P (Stranger object))
    (foreign : (object by : ℕ) → acquire_block objects who keep fresh same ≡ Some (Owned object by) → P (Owned object by))
    (behind : (object number : ℕ) → acquire_block objects who keep fresh same ≡ Some (Newer object number) → P (Newer object number))
    (grant : acquire_block objects who keep fresh same ≡ None → P (Acquired (latest_of objects fresh))) where
  by_block : (found : Option Reply) → acquire_block objects who keep fresh same ≡ found → IsBlock found → P (unwrap_or found (Acquired (latest_of objects fresh)))
  by_block None is blocks = grant is
  by_block (Some (Stranger object)) is blocks = stranger object is
  by_block (Some (Owned object by)) is blocks = foreign object by is
  by_block (Some (Newer object number)) is blocks = behind object number is
  by_block (Some (Attached given)) is blocks = absurd blocks
  by_block (Some (Acquired given)) is blocks = absurd blocks
  by_block (Some (Resynced given)) is blocks = absurd blocks
  by_block (Some Committed) is blocks = absurd blocks
  by_block (Some Released) is blocks = absurd blocks
  by_block (Some Detached) is blocks = absurd blocks
  by_block (Some (Worn object)) is blocks = absurd blocks
  by_block (Some (TooLarge bytes)) is blocks = absurd blocks
  by_block (Some Fault) is blocks = absurd blocks
  by_block (Some NoMemory) is blocks = absurd blocks

  pub acquire-cases : P (reply_of definitions objects (entry.Acquire who keep fresh same))
  acquire-cases = by_block (acquire_block objects who keep fresh same) refl (acquire-is objects who keep fresh same)

-- ---- RESYNC, RELEASE

module _ (P : Reply → Type 0) (definitions : List Def) (objects : List (Option (Object Body))) (who : ℕ) (listed : List ℕ) (stranger : (object : ℕ) → P (Stranger object)) where
  pub resync-cases : (first_unkept objects listed ≡ None → P (Resynced (latest_of objects listed))) → P (reply_of definitions objects (entry.Resync who listed))
  resync-cases grant = by_found (first_unkept objects listed) refl
    where
      by_found : (found : Option ℕ) → first_unkept objects listed ≡ found → P (elim found [ Some object ↦ Stranger object | None ↦ Resynced (latest_of objects listed) ])
      by_found None is = grant is
      by_found (Some object) is = stranger object

  pub release-cases : (first_not_own objects who listed ≡ None → P Released) → P (reply_of definitions objects (entry.Release who listed))
  release-cases grant = by_found (first_not_own objects who listed) refl
    where
      by_found : (found : Option ℕ) → first_not_own objects who listed ≡ found → P (elim found [ Some object ↦ Stranger object | None ↦ Released ])
      by_found None is = grant is
      by_found (Some object) is = stranger object

-- ---- what is handed over

module _ (bodies : Bodies Body Change) (w : Workspace) where
  -- the latest generation of each that is kept
  pub latest-are : (listed : List ℕ) → AreLatest bodies w.history (latest_of (standing bodies w) listed)
  latest-are [] = tt
  latest-are (object ∷ listed) = by_found (kept_at (standing bodies w) object) refl (latest-are listed)
    where
      by_found : (found : Option (Object Body)) → kept_at (standing bodies w) object ≡ found → AreLatest bodies w.history (latest_of (standing bodies w) listed) → AreLatest bodies w.history (cons_option (option_map (fresh_of object) found) (latest_of (standing bodies w) listed))
      by_found None is rest = rest
      by_found (Some it) is rest = let at = stands-at bodies w object it is in (ap (λ (o : Object Body). o.number) at.is, ap (λ (o : Object Body). o.body) at.is, rest)

  -- where all are kept, it is of these objects
  pub latest-objects : (who : ℕ) (listed : List ℕ) → All (λ object. Unblocked (standing bodies w) who object None) listed → rule.objects_of (latest_of (standing bodies w) listed) ≡ listed
  latest-objects who [] all = refl
  latest-objects who (object ∷ listed) all =
      let first = All-head (λ object. Unblocked (standing bodies w) who object None) object listed all in
      ap (λ (found : Option (Object Body)). rule.objects_of (cons_option (option_map (fresh_of object) found) (latest_of (standing bodies w) listed))) first.stands
      ∙ ap (λ (those : List ℕ). object ∷ those) (latest-objects who listed (All-tail (λ object. Unblocked (standing bodies w) who object None) object listed all))

-- ---- COMMIT

module _ (P : Reply → Type 0) (definitions : List Def) (objects : List (Option (Object Body))) (who : ℕ) (changes : List Change) (leave : List ℕ)
    (stranger : (object : ℕ) → option_or (first_refused (may_make definitions objects (Some who)) 0 changes) (first_not_own objects who leave) ≡ Some object → P (Stranger object))
    (worn : (object : ℕ) → first_worn objects changes ≡ Some object → P (Worn object))
    (grant : first_worn objects changes ≡ None → P Committed) where
  by_worn : (found : Option ℕ) → first_worn objects changes ≡ found → P (unwrap_or (option_map Worn found) Committed)
  by_worn None is = grant is
  by_worn (Some object) is = worn object is

  by_stranger : (found : Option ℕ) → option_or (first_refused (may_make definitions objects (Some who)) 0 changes) (first_not_own objects who leave) ≡ found → P (unwrap_or (elim found [ Some object ↦ Some (Stranger object) | None ↦ option_map Worn (first_worn objects changes) ]) Committed)
  by_stranger None is = by_worn (first_worn objects changes) refl
  by_stranger (Some object) is = stranger object is

  pub commit-cases : P (reply_of definitions objects (entry.Commit who changes leave))
  commit-cases = by_stranger (option_or (first_refused (may_make definitions objects (Some who)) 0 changes) (first_not_own objects who leave)) refl

-- ---- numbers that can rise

map-none : {A B : Type 0} (f : A → B) (found : Option A) → option_map f found ≡ None → found ≡ None
map-none f None is = refl
map-none f (Some x) is = cc

-- where none is worn, the number of each changed object can rise
pub number-small : (bodies : Bodies Body Change) (w : Workspace) (changes : List Change) (object : ℕ) (kind : DefKind) (c : Change) → object_in (kept_kinds w.definitions) object ≡ Some kind → first_worn (standing bodies w) changes ≡ None → find (λ (one : Change). one.object == object) changes ≡ Some c → latest_number bodies w.history object < 18446744073709551615
number-small bodies w changes object kind c kept none found =
    let place = eqb-true c.object object (find-passes (λ (one : Change). one.object == object) changes c found) in
    let unworn = find-fails (λ (one : Change). one.object == object) (λ (one : Change). is_worn (kept_at (standing bodies w) one.object)) changes c found (map-none (λ (one : Change). one.object) (find (λ (one : Change). is_worn (kept_at (standing bodies w) one.object)) changes) none) in
    leb-false 18446744073709551615 (latest_number bodies w.history object)
    (sym (ap (λ (at : ℕ). is_worn (kept_at (standing bodies w) at)) place ∙ ap is_worn (kept-stands bodies w object kind kept)) ∙ unworn)
