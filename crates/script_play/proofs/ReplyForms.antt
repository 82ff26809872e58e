-- What a store's reply hands over has the form of its definition, so that a session may take it.
use Rattle.std.specs.Prelude.{ℕ, zero, suc, ◌≡◌, ◌+◌, ◌==◌, Bool, true, false, cond, List, [], ◌∷◌, Option, Some, None, IfSome, nat_lt, refl, if◌then◌else◌}
use Rattle.std.specs.List.{cons_option}
use Rattle.std.specs.Option.{option_map, option_or, unwrap_or, IsSomeAnd}
use Rattle.std.proofs.Common.{◌∙◌, ap, sym, subst, arith}
use Rattle.std.proofs.lemmas.Option.{none-some}
use Rattle.aw_schema.specs.declared.definition.Def.{Def}
use Rattle.aw_schema.specs.declared.definition.DefKind.{DefKind}
use Rattle.aw_schema.specs.Definitions.{is_kept}
use Rattle.aw_body.specs.declared.body.Body.{Body}
use Rattle.aw_body.specs.declared.change.Change.{Change}
use Rattle.aw_body.specs.declared.change.Seen.{Seen}
use Rattle.aw_body.specs.Bodies.{IsBodyOf}
use Rattle.mv_core.specs.declared.entry.Entry.{Entry}
use Rattle.mv_core.specs.declared.entry.Entry.TheVariants.{Attach, Acquire, Resync, Commit, Release, Detach}
use Rattle.mv_core.specs.declared.entry.Reply.{Reply}
use Rattle.mv_core.specs.declared.entry.Reply.TheVariants.{Attached, Acquired, Resynced, Committed, Released, Detached, Owned, Newer, Stranger, Worn, TooLarge, Fault, NoMemory}
use Rattle.mv_core.specs.declared.object.Object.{Object}
use Rattle.mv_core.specs.Lookups.{kept_at, fresh_of, latest_of, latest_from}
use Rattle.mv_core.specs.Objects.{AreObjectsOf, IsTable}
use Rattle.mv_core.specs.Replies.{newer, block, first_block, seen_block, fresh_block, acquire_block, first_unkept, first_not_own, may_make, first_refused, first_worn, commit_block, reply_of}
use Rattle.mv_view.specs.Each.{object_in, numbers_from}
use Rattle.mv_view.specs.ViewState.{ViewState, kinds_of, kept_kinds, HaveForms}
use Rattle.mv_view.specs.Rules.{objects_of}
use Rattle.ses_step.specs.declared.session.Session.{Session}
use Rattle.ses_step.specs.Sessions.{Sees, Allows, IsReady}
use Rattle.ses_step.proofs.callers.ReadySessions.{released_allowed}
use Rattle.aw_store.specs.Stores.{StoreState, Acts}
use Rattle.script_play.specs.inside.StoreWorlds.{definitions_in}
use Rattle.aw_body.proofs.CallerLemmas.{kept-kind}

-- ---- the objects of a table

-- the body of an object has the form of the kind at its place
kind-here : (def : Def) (it : Object Body) → IsBodyOf def.kind it.body → IsSomeAnd (cond (is_kept def.kind) (Some def.kind) None) (λ kind. IsBodyOf kind it.body)
kind-here def it form =
    subst (λ (kept : Bool). IsSomeAnd (cond kept (Some def.kind) None) (λ kind. IsBodyOf kind it.body)) (sym (kept-kind def.kind it.body form)) form

looked-up : (definitions : List Def) (objects : List (Option (Object Body))) (object : ℕ) (it : Object Body) → AreObjectsOf definitions objects → kept_at objects object ≡ Some it → IsSomeAnd (object_in (kept_kinds definitions) object) (λ kind. IsBodyOf kind it.body)
looked-up [] [] object it are is = absurd (none-some it is)
looked-up [] (found ∷ objects) object it are is = absurd are
looked-up (def ∷ definitions) [] object it are is = absurd are
looked-up (def ∷ definitions) (None ∷ objects) zero it are is = absurd (none-some it is)
looked-up (def ∷ definitions) (Some one ∷ objects) zero it are is =
    subst (λ (other : Object Body). IsSomeAnd (cond (is_kept def.kind) (Some def.kind) None) (λ kind. IsBodyOf kind other.body)) (same one it is) (kind-here def one are.0)
  where
    same : (one other : Object Body) → Some one ≡ Some other → one ≡ other
    same one other e = cc
looked-up (def ∷ definitions) (found ∷ objects) (suc object) it are is = looked-up definitions objects object it are.1 is

-- the latest generations of the objects that are named
latest-forms : (definitions : List Def) (objects : List (Option (Object Body))) → AreObjectsOf definitions objects → (named : List ℕ) → HaveForms (kept_kinds definitions) (latest_of objects named)
latest-forms definitions objects are [] = tt
latest-forms definitions objects are (object ∷ named) = by_found (kept_at objects object) refl (latest-forms definitions objects are named)
  where
    by_found : (found : Option (Object Body)) → kept_at objects object ≡ found → HaveForms (kept_kinds definitions) (latest_of objects named) → HaveForms (kept_kinds definitions) (cons_option (option_map (fresh_of object) found) (latest_of objects named))
    by_found None is later = later
    by_found (Some it) is later = (looked-up definitions objects object it are is, later)

-- the latest generations of all objects
all-forms : (kinds : List (Option DefKind)) (at : ℕ) (definitions : List Def) (objects : List (Option (Object Body))) → ((k object : ℕ) → at + k ≡ object → object_in kinds object ≡ object_in (kept_kinds definitions) k) → AreObjectsOf definitions objects → HaveForms kinds (latest_from at objects)
all-forms kinds at [] [] same are = tt
all-forms kinds at [] (found ∷ objects) same are = absurd are
all-forms kinds at (def ∷ definitions) [] same are = absurd are
all-forms kinds at (def ∷ definitions) (None ∷ objects) same are =
    all-forms kinds (at + 1) definitions objects (λ k object is. same (suc k) object (omega arith)) are.1
all-forms kinds at (def ∷ definitions) (Some it ∷ objects) same are =
    (subst (λ (found : Option DefKind). IsSomeAnd found (λ kind. IsBodyOf kind it.body)) (sym (same 0 at (omega arith))) (kind-here def it are.0), all-forms kinds (at + 1) definitions objects (λ k object is. same (suc k) object (omega arith)) are.1)

all-objects : (at : ℕ) (definitions : List Def) (objects : List (Option (Object Body))) → AreObjectsOf definitions objects → objects_of (latest_from at objects) ≡ numbers_from (λ (kind : DefKind). true) at (kept_kinds definitions)
all-objects at [] [] are = refl
all-objects at [] (found ∷ objects) are = absurd are
all-objects at (def ∷ definitions) [] are = absurd are
all-objects at (def ∷ definitions) (None ∷ objects) are =
    all-objects (at + 1) definitions objects are.1
    ∙ sym (ap (λ (kept : Bool). numbers_from (λ (kind : DefKind). true) at (cond kept (Some def.kind) None ∷ kept_kinds definitions)) are.0)
all-objects at (def ∷ definitions) (Some it ∷ objects) are =
    ap (λ (numbers : List ℕ). at ∷ numbers) (all-objects (at + 1) definitions objects are.1)
    ∙ sym (ap (λ (kept : Bool). numbers_from (λ (kind : DefKind). true) at (cond kept (Some def.kind) None ∷ kept_kinds definitions)) (kept-kind def.kind it.body are.0))

-- ---- the replies

module _ (definitions : List Def) (objects : List (Option (Object Body))) (are : AreObjectsOf definitions objects) (s : Session) (sees : Sees definitions s.known) (ready : IfSome s.asked (IsReady s.known)) where
  -- a reply that blocks hands nothing over
  abbrev Blocks : Option Reply → Type 0
  Blocks None = Unit {0}
  Blocks (Some reply) = Allows definitions s reply

  blocks-or : (first second : Option Reply) → Blocks first → Blocks second → Blocks (option_or first second)
  blocks-or None second one two = two
  blocks-or (Some reply) second one two = one

  unwrapped : (found : Option Reply) (reply : Reply) → Blocks found → Allows definitions s reply → Allows definitions s (unwrap_or found reply)
  unwrapped None reply blocks grants = grants
  unwrapped (Some other) reply blocks grants = blocks

  newer-blocks : (object : ℕ) (number : Option ℕ) (latest : ℕ) → Blocks (newer object number latest)
  newer-blocks object None latest = tt
  newer-blocks object (Some number) latest = by_test (nat_lt number latest)
    where
      by_test : (test : Bool) → Blocks (if test then Some (Newer object latest) else None)
      by_test true = tt
      by_test false = tt

  block-blocks : (who object : ℕ) (number : Option ℕ) (found : Option (Object Body)) → Blocks (block who object number found)
  block-blocks who object number None = tt
  block-blocks who object number (Some it) = by_owner it.owner
    where
      by_own : (by : ℕ) (own : Bool) → Blocks (if own then None else Some (Owned object by))
      by_own by true = tt
      by_own by false = tt

      by_owner : (owner : Option ℕ) → Blocks (elim owner [ None ↦ newer object number it.number | Some by ↦ if by == who then None else Some (Owned object by) ])
      by_owner None = newer-blocks object number it.number
      by_owner (Some by) = by_own by (by == who)

  first-blocks : {A : Type 0} (blocks : A → Option Reply) → ((one : A) → Blocks (blocks one)) → (named : List A) → Blocks (first_block blocks named)
  first-blocks blocks each [] = tt
  first-blocks blocks each (one ∷ others) = blocks-or (blocks one) (first_block blocks others) (each one) (first-blocks blocks each others)

  seen-blocks : (who : ℕ) (named : List Seen) → Blocks (seen_block objects who named)
  seen-blocks who named =
      first-blocks (λ (seen : Seen). block who seen.object (Some seen.number) (kept_at objects seen.object)) (λ seen. block-blocks who seen.object (Some seen.number) (kept_at objects seen.object)) named

  fresh-blocks : (who : ℕ) (named : List ℕ) → Blocks (fresh_block objects who named)
  fresh-blocks who named =
      first-blocks (λ object. block who object None (kept_at objects object)) (λ object. block-blocks who object None (kept_at objects object)) named

  acquire-blocks : (who : ℕ) (keep : List Seen) (fresh : List ℕ) (same : List Seen) → Blocks (acquire_block objects who keep fresh same)
  acquire-blocks who keep fresh same =
      blocks-or (seen_block objects who keep) (option_or (fresh_block objects who fresh) (seen_block objects who same)) (seen-blocks who keep) (blocks-or (fresh_block objects who fresh) (seen_block objects who same) (fresh-blocks who fresh) (seen-blocks who same))

  commit-blocks : (who : ℕ) (changes : List Change) (leave : List ℕ) → Blocks (commit_block definitions objects who changes leave)
  commit-blocks who changes leave = by_stranger (option_or (first_refused (may_make definitions objects (Some who)) 0 changes) (first_not_own objects who leave))
    where
      by_worn : (worn : Option ℕ) → Blocks (option_map Worn worn)
      by_worn None = tt
      by_worn (Some object) = tt

      by_stranger : (found : Option ℕ) → Blocks (elim found [ Some object ↦ Some (Stranger object) | None ↦ option_map Worn (first_worn objects changes) ])
      by_stranger None = by_worn (first_worn objects changes)
      by_stranger (Some object) = tt

  -- the bodies that a session asked for
  asked-forms : (named : List ℕ) → IfSome s.known.view (λ view. HaveForms (kinds_of view) (latest_of objects named))
  asked-forms named = by_view s.known.view sees
    where
      by_view : (found : Option ViewState) → IfSome found (λ view. kinds_of view ≡ kept_kinds definitions) → IfSome found (λ view. HaveForms (kinds_of view) (latest_of objects named))
      by_view None same = tt
      by_view (Some view) same = subst (λ (kinds : List (Option DefKind)). HaveForms kinds (latest_of objects named)) (sym same) (latest-forms definitions objects are named)

  reply-allowed : (asked : Entry) → Allows definitions s (reply_of definitions objects asked)
  reply-allowed (Attach who) =
      (all-objects 0 definitions objects are, all-forms (kept_kinds definitions) 0 definitions objects (λ k object is. ap (object_in (kept_kinds definitions)) (let same : object ≡ k = omega arith in same)) are)
  reply-allowed (Acquire who keep fresh same) =
      unwrapped (acquire_block objects who keep fresh same) (Acquired (latest_of objects fresh)) (acquire-blocks who keep fresh same) (asked-forms fresh)
  reply-allowed (Resync who named) = by_unkept (first_unkept objects named)
    where
      by_unkept : (found : Option ℕ) → Allows definitions s (elim found [ Some object ↦ Stranger object | None ↦ Resynced (latest_of objects named) ])
      by_unkept None = asked-forms named
      by_unkept (Some object) = tt
  reply-allowed (Commit who changes leave) =
      unwrapped (commit_block definitions objects who changes leave) Committed (commit-blocks who changes leave) tt
  reply-allowed (Release who named) = by_stranger (first_not_own objects who named)
    where
      by_stranger : (found : Option ℕ) → Allows definitions s (elim found [ Some object ↦ Stranger object | None ↦ Released ])
      by_stranger None = released_allowed definitions s ready
      by_stranger (Some object) = tt
  reply-allowed (Detach who) = tt

module _ {D : Type 0} (old new : StoreState D) (table : IsTable old.table.definitions old.table.objects) (s : Session) (sees : Sees old.table.definitions s.known) (ready : IfSome s.asked (IsReady s.known)) where
  act-allowed : (asked : Entry) (reply : Reply) → Acts asked reply old new → Allows old.table.definitions s reply
  act-allowed asked (Attached fresh) acts =
      subst (Allows old.table.definitions s) (sym acts.reply_is) (reply-allowed old.table.definitions old.table.objects table.all s sees ready asked)
  act-allowed asked (Acquired fresh) acts =
      subst (Allows old.table.definitions s) (sym acts.reply_is) (reply-allowed old.table.definitions old.table.objects table.all s sees ready asked)
  act-allowed asked (Resynced fresh) acts =
      subst (Allows old.table.definitions s) (sym acts.reply_is) (reply-allowed old.table.definitions old.table.objects table.all s sees ready asked)
  act-allowed asked Committed acts = tt
  act-allowed asked Released acts = released_allowed old.table.definitions s ready
  act-allowed asked Detached acts = tt
  act-allowed asked (Owned object by) acts = tt
  act-allowed asked (Newer object number) acts = tt
  act-allowed asked (Stranger object) acts = tt
  act-allowed asked (Worn object) acts = tt
  act-allowed asked (TooLarge bytes) acts = tt
  act-allowed asked Fault acts = tt
  act-allowed asked NoMemory acts = tt

-- a session that sees the store's definitions may take what an act replies
pub allowed_so : {D : Type 0} (asked : Entry) (reply : Reply) (old new : StoreState D) → old.table.definitions ≡ definitions_in old → IsTable old.table.definitions old.table.objects → Acts asked reply old new → (s : Session) → Sees (definitions_in old) s.known → IfSome s.asked (IsReady s.known) → Allows (definitions_in old) s reply
allowed_so asked reply old new same table acts s sees ready =
    subst (λ (definitions : List Def). Allows definitions s reply) same (act-allowed old new table s (subst (λ (definitions : List Def). Sees definitions s.known) (sym same) sees) ready asked reply acts)
