-- The refusals follow from the step on the objects.
use Rattle.std.specs.Prelude.{◌≡◌, ℕ, ◌&&◌, Bool, true, false, not, Contains, List, ◌∷◌, ◌++◌, Option, Some, None, MatchOption, ⊤, refl}
use Rattle.std.specs.Option.{unwrap_or, is_none}
use Rattle.std.proofs.Common.{sym, subst, arith, inl, inr, leb-true}
use Rattle.aw_body.specs.declared.body.Body.{Body}
use Rattle.aw_body.specs.declared.change.Change.{Change}
use Rattle.aw_body.specs.declared.change.Seen.{Seen}
use Rattle.std.proofs.lemmas.List.Elements.{Contains-append_right}
use Rattle.mv_core.specs.declared.entry.Entry.{Entry}
use Rattle.mv_core.specs.declared.entry.Entry.TheVariants.{Attach, Acquire, Resync, Commit, Release, Detach}
use Rattle.mv_core.specs.declared.entry.Reply.{Reply}
use Rattle.mv_core.specs.declared.entry.Reply.TheVariants.{Acquired, Resynced, Committed, Released, Detached, Stranger, Worn, NoMemory}
use Rattle.mv_core.specs.declared.object.Object.{Object}
use Rattle.mv_core.specs.Lookups.{kept_at, is_own, latest_of}
use Rattle.mv_core.specs.Refusals.{IsKept, IsOutOfPlace, IsTrueOwned, IsTrueNewer, IsTrueStranger, IsTrueWorn}
use Rattle.mv_core.specs.Replies.{fits_object, may_make, is_worn, first_unkept, first_not_own, acquire_block, commit_block, reply_of}
use Rattle.mv_core.specs.SharedStep.{table_after, table_step, IsAnswered}
use Rattle.mv_core.specs.Workspace.{Table}
use Rattle.mv_core.proofs.Blocking.{Refuses, find-is, acquire-is, commit-is}

abbrev AreTrue : Table → Entry → Reply → Type 0
AreTrue table entry reply =
    IsTrueOwned table entry reply × IsTrueNewer table entry reply × IsTrueStranger table entry reply × IsTrueWorn table entry reply

-- a reply that is blocked, or else the grant
unwrapped : (P : Reply → Type 0) (blocked : Option Reply) (grant : Reply) → MatchOption blocked ⊤ P → P grant → P (unwrap_or blocked grant)
unwrapped P None grant is granted = granted
unwrapped P (Some refusal) grant is granted = is

acquire-true : (table : Table) (who : ℕ) (keep : List Seen) (fresh : List ℕ) (same : List Seen) → AreTrue table (Acquire who keep fresh same) (reply_of table.definitions table.objects (Acquire who keep fresh same))
acquire-true table who keep fresh same =
    let P = AreTrue table (Acquire who keep fresh same) in
    unwrapped P (acquire_block table.objects who keep fresh same) (Acquired (latest_of table.objects fresh)) (acquire-is P table.objects who keep fresh same (record {
      stranger = λ object asked none. (tt, tt, (asked, none), tt);
      owned = λ object by it asked found owner other. ((it, asked, found, owner, other), tt, tt, tt);
      newer = λ seen it asked found free above. (tt, (seen, it, asked, refl, found, free, refl, above), tt, tt);
    })) (tt, tt, tt, tt)

-- ---- a commit

-- a change that the session may not make is of an object that isn't its own, or doesn't fit
out-of-place : (table : Table) (who : ℕ) (changes : List Change) (c : Change) (own : Bool) → is_own who (kept_at table.objects c.object) ≡ own → Contains changes c → (own && fits_object table.definitions (kept_at table.objects c.object) c) ≡ false → IsOutOfPlace table who changes c.object
out-of-place table who changes c true own has out = (c, has, refl, inr (inl out))
out-of-place table who changes c false own has out = (c, has, refl, inl own)

contains-after : (front back : List Change) (before c : Change) → Contains (front ++ before ∷ c ∷ back) c
contains-after front back before c =
    Contains-append_right front (before ∷ c ∷ back) c (1, omega arith, refl)

refuses : (table : Table) (who : ℕ) (changes : List Change) (leave : List ℕ) → Refuses (λ object. AreTrue table (Commit who changes leave) (Stranger object)) (may_make table.definitions table.objects (Some who)) changes
refuses table who changes leave = record {
  unmakable = λ c has out. (tt, tt, inl (out-of-place table who changes c (is_own who (kept_at table.objects c.object)) refl has out), tt);
  unordered = λ c front before back parts below. (tt, tt, inl (c, subst (λ (all : List Change). Contains all c) (sym parts) (contains-after front back before c), refl, inr (inr (front, before, back, parts, below))), tt);
}

worn-true : (table : Table) (who : ℕ) (changes : List Change) (leave : List ℕ) (c : Change) (found : Option (Object Body)) → kept_at table.objects c.object ≡ found → Contains changes c → is_worn found ≡ true → AreTrue table (Commit who changes leave) (Worn c.object)
worn-true table who changes leave c None is has worn = cc
worn-true table who changes leave c (Some it) is has worn = (tt, tt, tt, (c, it, has, refl, is, leb-true _ _ worn))

commit-true : (table : Table) (who : ℕ) (changes : List Change) (leave : List ℕ) → AreTrue table (Commit who changes leave) (reply_of table.definitions table.objects (Commit who changes leave))
commit-true table who changes leave =
    let P = AreTrue table (Commit who changes leave) in
    unwrapped P (commit_block table.definitions table.objects who changes leave) Committed (commit-is P table.definitions table.objects who changes leave (record {
      changed = refuses table who changes leave;
      left = λ object has out. (tt, tt, inr (has, out), tt);
      worn = λ c has worn. worn-true table who changes leave c (kept_at table.objects c.object) refl has worn;
    })) (tt, tt, tt, tt)

-- ---- the other entries

stranger-or : (P : Reply → Type 0) (found : Option ℕ) (grant : Reply) → MatchOption found ⊤ (λ object. P (Stranger object)) → P grant → P (elim found [ Some object ↦ Stranger object | None ↦ grant ])
stranger-or P None grant is granted = granted
stranger-or P (Some object) grant is granted = is

unkept : (found : Option (Object Body)) → is_none found ≡ true → found ≡ None
unkept None none = refl
unkept (Some it) none = cc

not-own : (b : Bool) → not b ≡ true → b ≡ false
not-own true is = cc
not-own false is = refl

resync-true : (table : Table) (who : ℕ) (listed : List ℕ) → AreTrue table (Resync who listed) (reply_of table.definitions table.objects (Resync who listed))
resync-true table who listed =
    stranger-or (AreTrue table (Resync who listed)) (first_unkept table.objects listed) (Resynced (latest_of table.objects listed)) (find-is (λ object. AreTrue table (Resync who listed) (Stranger object)) (λ object. is_none (kept_at table.objects object)) listed (λ object has none. (tt, tt, (has, unkept (kept_at table.objects object) none), tt))) (tt, tt, tt, tt)

release-true : (table : Table) (who : ℕ) (listed : List ℕ) → AreTrue table (Release who listed) (reply_of table.definitions table.objects (Release who listed))
release-true table who listed =
    stranger-or (AreTrue table (Release who listed)) (first_not_own table.objects who listed) Released (find-is (λ object. AreTrue table (Release who listed) (Stranger object)) (λ object. not (is_own who (kept_at table.objects object))) listed (λ object has out. (tt, tt, (has, not-own (is_own who (kept_at table.objects object)) out), tt))) (tt, tt, tt, tt)

reply-true : (table : Table) (entry : Entry) → AreTrue table entry (reply_of table.definitions table.objects entry)
reply-true table (Attach who) = (tt, tt, tt, tt)
reply-true table (Acquire who keep fresh same) = acquire-true table who keep fresh same
reply-true table (Resync who listed) = resync-true table who listed
reply-true table (Commit who changes leave) = commit-true table who changes leave
reply-true table (Release who listed) = release-true table who listed
reply-true table (Detach who) = (tt, tt, tt, tt)

no_memory-true : (table : Table) (entry : Entry) → AreTrue table entry NoMemory
no_memory-true table (Attach who) = (tt, tt, tt, tt)
no_memory-true table (Acquire who keep fresh same) = (tt, tt, tt, tt)
no_memory-true table (Resync who listed) = (tt, tt, tt, tt)
no_memory-true table (Commit who changes leave) = (tt, tt, tt, tt)
no_memory-true table (Release who listed) = (tt, tt, tt, tt)
no_memory-true table (Detach who) = (tt, tt, tt, tt)

-- ---- what was answered

pub AreTrue-answered : (before : Table) (entry : Entry) (reply : Reply) (after : Table) → IsAnswered before entry reply after → IsTrueOwned before entry reply × IsTrueNewer before entry reply × IsTrueStranger before entry reply × IsTrueWorn before entry reply
AreTrue-answered before entry reply after answered =
    elim answered [
      | inl refused ↦ subst (AreTrue before entry) (sym refused.0) (no_memory-true before entry)
      | inr step ↦ subst (AreTrue before entry) (sym step.0) (reply-true before entry)
    ]

IsKept-after : (before : Table) (entry : Entry) (reply : Reply) (after : Table) → after ≡ table_after before entry reply → IsKept reply before after
IsKept-after before entry (Acquired latest) after is = tt
IsKept-after before entry Committed after is = tt
IsKept-after before entry Released after is = tt
IsKept-after before entry Detached after is = tt
IsKept-after before (Attach who) _ after is = is
IsKept-after before (Acquire who keep fresh same) _ after is = is
IsKept-after before (Resync who listed) _ after is = is
IsKept-after before (Commit who changes leave) _ after is = is
IsKept-after before (Release who listed) _ after is = is
IsKept-after before (Detach who) _ after is = is

pub IsKept-answered : (before : Table) (entry : Entry) (reply : Reply) (after : Table) → IsAnswered before entry reply after → IsKept reply before after
IsKept-answered before entry reply after answered =
    elim answered [
      | inl refused ↦ subst (λ r. IsKept r before after) (sym refused.0) refused.2
      | inr step ↦ subst (λ r. IsKept r before after) (sym step.0) (IsKept-after before entry (table_step before entry).0 after step.1)
    ]
