-- The shared state answers none of what a store alone answers.
use Rattle.std.proofs.Common.{ℕ, ◌==◌, Bool, true, false, List, [], ◌∷◌, Option, None, Some, unwrap_or, nat_lt, if◌then◌else◌}
use Rattle.std.specs.Prelude.{IfSome}
use Rattle.std.specs.Option.{option_map, option_or}
use Rattle.aw_schema.specs.declared.definition.Def.{Def}
use Rattle.aw_body.specs.declared.body.Body.{Body}
use Rattle.aw_body.specs.declared.change.Seen.{Seen}
use Rattle.mv_core.specs.declared.entry.Entry.{Entry}
use Rattle.mv_core.specs.declared.entry.Entry.TheVariants.{Attach, Acquire, Resync, Commit, Release, Detach}
use Rattle.mv_core.specs.declared.entry.Reply.{Reply}
use Rattle.mv_core.specs.declared.entry.Reply.TheVariants.{Acquired, Resynced, Committed, Released, Owned, Newer, Stranger, Worn, TooLarge, Fault, NoMemory}
use Rattle.mv_core.specs.declared.object.Object.{Object}
use Rattle.mv_core.specs.Lookups.{kept_at, latest_of}
use Rattle.mv_core.specs.Replies.{newer, block, first_block, seen_block, fresh_block, acquire_block, first_unkept, first_not_own, may_make, first_refused, first_worn, commit_block, reply_of}

abbrev pub IsPlain : Reply → Type 0
IsPlain (TooLarge bytes) = ⊥
IsPlain Fault = ⊥
IsPlain NoMemory = ⊥
IsPlain _ = Unit {0}

plain-newer : (object : ℕ) (seen : Option ℕ) (latest : ℕ) → IfSome (newer object seen latest) IsPlain
plain-newer object None latest = tt
plain-newer object (Some number) latest = step (nat_lt number latest)
  where
    step : (above : Bool) → IfSome (if above then Some (Newer object latest) else None) IsPlain
    step true = tt
    step false = tt

plain-owner : (who object : ℕ) (seen : Option ℕ) (owner : Option ℕ) (latest : ℕ) → IfSome (elim owner [ None ↦ newer object seen latest | Some by ↦ if by == who then None else Some (Owned object by) ]) IsPlain
plain-owner who object seen None latest = plain-newer object seen latest
plain-owner who object seen (Some by) latest = step (by == who)
  where
    step : (own : Bool) → IfSome (if own then None else Some (Owned object by)) IsPlain
    step true = tt
    step false = tt

plain-block : (who object : ℕ) (seen : Option ℕ) (found : Option (Object Body)) → IfSome (block who object seen found) IsPlain
plain-block who object seen None = tt
plain-block who object seen (Some it) = plain-owner who object seen it.owner it.number

plain-or : (one other : Option Reply) → IfSome one IsPlain → IfSome other IsPlain → IfSome (option_or one other) IsPlain
plain-or None other first second = second
plain-or (Some reply) other first second = first

plain-first : {A : Type 0} (blocks : A → Option Reply) → ((one : A) → IfSome (blocks one) IsPlain) → (listed : List A) → IfSome (first_block blocks listed) IsPlain
plain-first blocks each [] = tt
plain-first blocks each (one ∷ others) = plain-or (blocks one) (first_block blocks others) (each one) (plain-first blocks each others)

plain-acquire : (objects : List (Option (Object Body))) (who : ℕ) (keep : List Seen) (fresh : List ℕ) (same : List Seen) → IfSome (acquire_block objects who keep fresh same) IsPlain
plain-acquire objects who keep fresh same =
    let seen = λ (listed : List Seen). plain-first (λ (seen : Seen). block who seen.object (Some seen.number) (kept_at objects seen.object)) (λ seen. plain-block who seen.object (Some seen.number) (kept_at objects seen.object)) listed in
    plain-or (seen_block objects who keep) (option_or (fresh_block objects who fresh) (seen_block objects who same)) (seen keep) (
    plain-or (fresh_block objects who fresh) (seen_block objects who same) (plain-first (λ object. block who object None (kept_at objects object)) (λ object. plain-block who object None (kept_at objects object)) fresh) (seen same))

plain-unless : (found : Option Reply) (grant : Reply) → IfSome found IsPlain → IsPlain grant → IsPlain (unwrap_or found grant)
plain-unless None grant blocked granted = granted
plain-unless (Some reply) grant blocked granted = blocked

plain-commit : (refused worn : Option ℕ) → IfSome (elim refused [ Some object ↦ Some (Stranger object) | None ↦ option_map Worn worn ]) IsPlain
plain-commit (Some object) worn = tt
plain-commit None None = tt
plain-commit None (Some object) = tt

plain-found : (found : Option ℕ) (grant : Reply) → IsPlain grant → IsPlain (elim found [ Some object ↦ Stranger object | None ↦ grant ])
plain-found None grant granted = granted
plain-found (Some object) grant granted = tt

pub plain-reply : (definitions : List Def) (objects : List (Option (Object Body))) (entry : Entry) → IsPlain (reply_of definitions objects entry)
plain-reply definitions objects (Attach who) = tt
plain-reply definitions objects (Acquire who keep fresh same) =
    plain-unless (acquire_block objects who keep fresh same) (Acquired (latest_of objects fresh)) (plain-acquire objects who keep fresh same) tt
plain-reply definitions objects (Resync who listed) = plain-found (first_unkept objects listed) (Resynced (latest_of objects listed)) tt
plain-reply definitions objects (Commit who changes leave) =
    plain-unless (commit_block definitions objects who changes leave) Committed (plain-commit (option_or (first_refused (may_make definitions objects (Some who)) 0 changes) (first_not_own objects who leave)) (first_worn objects changes)) tt
plain-reply definitions objects (Release who listed) = plain-found (first_not_own objects who listed) Released tt
plain-reply definitions objects (Detach who) = tt
