-- The laws of every step.
use Rattle.std.specs.Prelude.{MatchOption, ⊤}
use Rattle.std.specs.Option.{option_or, unwrap_or}
use Rattle.std.proofs.Common.{◌≡◌, ◌≢◌, ◌∙◌, ◌⊎◌, ℕ, zero, suc, ◌+◌, ◌==◌, ◌&&◌, ◌||◌, Bool, true, false, not, cond, List, [], ◌∷◌, ◌++◌, map, Option, Some, None, refl, sym, ap, subst, arith, inl, inr, nat_le, eqb-true, if◌then◌else◌}
use Rattle.std.proofs.lemmas.Bool.{eqb-false, and_parts}
use Rattle.std.proofs.lemmas.List.Folds.{list_any-append}
use Rattle.aw_schema.specs.declared.definition.Def.{Def}
use Rattle.aw_schema.specs.Definitions.{is_kept}
use Rattle.aw_body.specs.declared.body.Body.{Body}
use Rattle.aw_body.specs.declared.change.Change.{Change}
use Rattle.aw_body.specs.declared.change.Seen.{Seen}
use Rattle.aw_body.specs.Generations.{Bodies, change_of, latest_number, latest_body}
use Rattle.aw_body.specs.GenerationLaws.{latest_number-changed, latest_body-changed, latest_number-unchanged, latest_body-unchanged}
use Rattle.aw_body.specs.KeptBodies.{bodies_from}
use Rattle.aw_body.specs.Owners as owners
use Rattle.aw_body.specs.Owners.{owner_of, taken, given_up, all_given_up}
use Rattle.aw_body.specs.OwnerLaws.{owner_of-taken, owner_of-given_up, kept-given_up, kept-all_given_up}
use Rattle.mv_core.specs.declared.entry.Entry.TheVariants.{Attach, Acquire, Resync, Commit, Release, Detach}
use Rattle.mv_core.specs.declared.entry.Reply.{Reply}
use Rattle.mv_core.specs.declared.entry.Reply.TheVariants.{Acquired, Committed, Released, Owned, Stranger}
use Rattle.mv_core.specs.declared.object.Object.{Object}
use Rattle.mv_core.specs.Effects.{is_listed, taken_of, change_at}
use Rattle.mv_core.specs.Laws.{IsChangedAlone, CommitChangesWhatItNames, OwnerKeepsUntilItGivesUp, IsAllOrNothing, AcquireIsAllOrNothing}
use Rattle.mv_core.specs.Lookups.{kept_at, is_own, latest_of}
use Rattle.mv_core.specs.Replies.{newer, block, seen_block, fresh_block, acquire_block, may_make, first_refused, first_not_own, commit_block}
use Rattle.mv_core.specs.SharedStep.{workspace_after}
use Rattle.mv_core.specs.Workspace.{Workspace, object_of, standing_from, standing}
use Rattle.mv_core.proofs.Blocking.{acquire-is, commit-is}
use Rattle.mv_core.proofs.Making.{cond-none}
use Rattle.mv_core.proofs.Prepares.{commit-free}
use Rattle.aw_schema.proofs.callers.AcceptedCatalogues.{or_parts}

abbrev Objects : Type 0
Objects = List (Option (Object Body))

-- ---- looking up what stands

kept-if : (kept : Bool) (one it : Object Body) → (if kept then Some one else None) ≡ Some it → it ≡ one
kept-if true one it same = cc
kept-if false one it same = cc

-- an object that is kept stands as the commits and the owners have it
standing-found : (bodies : Bodies Body Change) (w : Workspace) (at k n : ℕ) (definitions : List Def) (it : Object Body) → at + k ≡ n → kept_at (standing_from bodies w at definitions) k ≡ Some it → it ≡ object_of bodies w n
standing-found bodies w at k n [] it place found = cc
standing-found bodies w at zero n (def ∷ definitions) it place found =
    let here : at ≡ n = omega (arith, place) in
    kept-if (is_kept def.kind) (object_of bodies w at) it found ∙ ap (object_of bodies w) here
standing-found bodies w at (suc k) n (def ∷ definitions) it place found =
    standing-found bodies w (at + 1) k n definitions it (omega (arith, place)) found

owner-found : (bodies : Bodies Body Change) (w : Workspace) (k : ℕ) (it : Object Body) → kept_at (standing bodies w) k ≡ Some it → owner_of w.owners k ≡ it.owner
owner-found bodies w k it found =
    sym (ap (λ (one : Object Body). one.owner) (standing-found bodies w 0 k k w.definitions it (omega arith) found))

owner-own : (owner : Option ℕ) (who : ℕ) → elim owner [ None ↦ false | Some by ↦ by == who ] ≡ true → owner ≡ Some who
owner-own None who own = cc
owner-own (Some by) who own = ap Some (eqb-true by who own)

own-if : (bodies : Bodies Body Change) (w : Workspace) (k who : ℕ) (found : Option (Object Body)) → kept_at (standing bodies w) k ≡ found → is_own who found ≡ true → owner_of w.owners k ≡ Some who
own-if bodies w k who None is own = cc
own-if bodies w k who (Some it) is own = owner-found bodies w k it is ∙ owner-own it.owner who own

-- ---- a commit changes what it names

own-changed : (definitions : List Def) (objects : Objects) (who least object : ℕ) (changes : List Change) (c : Change) → first_refused (may_make definitions objects (Some who)) least changes ≡ None → change_at changes object ≡ Some c → is_own who (kept_at objects object) ≡ true
own-changed definitions objects who least object [] c free found = cc
own-changed definitions objects who least object (d ∷ ds) c free found =
    let first = cond-none (nat_le least d.object && may_make definitions objects (Some who) d) (first_refused (may_make definitions objects (Some who)) (d.object + 1) ds) d.object free in
    let may = (and_parts (nat_le least d.object) (may_make definitions objects (Some who) d) first.0).1 in
    let own = (and_parts (is_own who (kept_at objects d.object)) _ may).0 in
    step (d.object == object) refl own (own-changed definitions objects who (d.object + 1) object ds c first.1) found
  where
    step : (same : Bool) → (d.object == object) ≡ same → is_own who (kept_at objects d.object) ≡ true → (change_at ds object ≡ Some c → is_own who (kept_at objects object) ≡ true) → cond same (Some d) (change_at ds object) ≡ Some c → is_own who (kept_at objects object) ≡ true
    step true same own later found = subst (λ k. is_own who (kept_at objects k) ≡ true) (eqb-true d.object object same) own
    step false same own later found = later found

none-if : (found : Option Reply) → MatchOption found ⊤ (λ reply. reply ≢ Committed) → unwrap_or found Committed ≡ Committed → found ≡ None
none-if None refused is = refl
none-if (Some reply) refused is = absurd (refused is)

commit-granted : (definitions : List Def) (objects : Objects) (who : ℕ) (changes : List Change) (leave : List ℕ) → unwrap_or (commit_block definitions objects who changes leave) Committed ≡ Committed → commit_block definitions objects who changes leave ≡ None
commit-granted definitions objects who changes leave is =
    none-if (commit_block definitions objects who changes leave) (commit-is (λ reply. reply ≢ Committed) definitions objects who changes leave (record {
      changed = record { unmakable = λ c has out same. cc; unordered = λ c front before back parts below same. cc };
      left = λ object has out same. cc;
      worn = λ c has last same. cc;
    })) is

changed-alone : (w : Workspace) (numbers : ℕ → ℕ) (firsts : ℕ → Body) (who : ℕ) (changes : List Change) (leave : List ℕ) (object : ℕ) → first_refused (may_make w.definitions (standing (bodies_from w.definitions numbers firsts) w) (Some who)) 0 changes ≡ None → IsChangedAlone (bodies_from w.definitions numbers firsts) w (workspace_after w (Commit who changes leave) Committed) who changes object
changed-alone w numbers firsts who [] leave object free = (refl, refl)
changed-alone w numbers firsts who (c ∷ cs) leave object free =
    step (change_of (bodies_from w.definitions numbers firsts) object (c ∷ cs)) refl
  where
    step : (found : Option Change) → change_of (bodies_from w.definitions numbers firsts) object (c ∷ cs) ≡ found → MatchOption found
        ((latest_number (bodies_from w.definitions numbers firsts) (w.history ++ (c ∷ cs) ∷ []) object ≡ latest_number (bodies_from w.definitions numbers firsts) w.history object) × (latest_body (bodies_from w.definitions numbers firsts) (w.history ++ (c ∷ cs) ∷ []) object ≡ latest_body (bodies_from w.definitions numbers firsts) w.history object))
        (λ d. (owner_of w.owners object ≡ Some who) × (latest_number (bodies_from w.definitions numbers firsts) (w.history ++ (c ∷ cs) ∷ []) object ≡ latest_number (bodies_from w.definitions numbers firsts) w.history object + 1) × (latest_body (bodies_from w.definitions numbers firsts) (w.history ++ (c ∷ cs) ∷ []) object ≡ (bodies_from w.definitions numbers firsts).applied (latest_body (bodies_from w.definitions numbers firsts) w.history object) d))
    step None is =
        (latest_number-unchanged (bodies_from w.definitions numbers firsts) w.history (c ∷ cs) object is, latest_body-unchanged (bodies_from w.definitions numbers firsts) w.history (c ∷ cs) object is)
    step (Some d) is = (
      own-if (bodies_from w.definitions numbers firsts) w object who (kept_at (standing (bodies_from w.definitions numbers firsts) w) object) refl (own-changed w.definitions (standing (bodies_from w.definitions numbers firsts) w) who 0 object (c ∷ cs) d free is),
      latest_number-changed (bodies_from w.definitions numbers firsts) w.history (c ∷ cs) object d is,
      latest_body-changed (bodies_from w.definitions numbers firsts) w.history (c ∷ cs) object d is,
    )

pub commit-changes : CommitChangesWhatItNames
commit-changes w numbers firsts who changes leave object committed =
    let objects = standing (bodies_from w.definitions numbers firsts) w in
    let free = commit-free w.definitions objects who changes leave (commit-granted w.definitions objects who changes leave committed) in
    subst (λ reply. IsChangedAlone (bodies_from w.definitions numbers firsts) w (workspace_after w (Commit who changes leave) reply) who changes object) (sym committed) (changed-alone w numbers firsts who changes leave object free.0)

-- ---- what blocks changes nothing

acquire-same : (w : Workspace) (objects : Objects) (who : ℕ) (keep : List Seen) (fresh : List ℕ) (same : List Seen) → MatchOption (acquire_block objects who keep fresh same) ⊤ (λ reply. workspace_after w (Acquire who keep fresh same) reply ≡ w)
acquire-same w objects who keep fresh same =
    acquire-is (λ reply. workspace_after w (Acquire who keep fresh same) reply ≡ w) objects who keep fresh same (record {
      stranger = λ object asked none. refl;
      owned = λ object by it asked found owner other. refl;
      newer = λ seen it asked found free above. refl;
    })

commit-same : (w : Workspace) (definitions : List Def) (objects : Objects) (who : ℕ) (changes : List Change) (leave : List ℕ) → MatchOption (commit_block definitions objects who changes leave) ⊤ (λ reply. workspace_after w (Commit who changes leave) reply ≡ w)
commit-same w definitions objects who changes leave =
    commit-is (λ reply. workspace_after w (Commit who changes leave) reply ≡ w) definitions objects who changes leave (record {
      changed = record { unmakable = λ c has out. refl; unordered = λ c front before back parts below. refl };
      left = λ object has out. refl;
      worn = λ c has last. refl;
    })

-- ---- an Acquire owns all or nothing

taken-or : (w : Workspace) (who : ℕ) (listed : List ℕ) (object : ℕ) (among : Bool) → is_listed listed object ≡ among → ((is_listed listed object ≡ true) × (owner_of (taken w.owners who listed) object ≡ Some who)) ⊎ ((is_listed listed object ≡ false) × (owner_of (taken w.owners who listed) object ≡ owner_of w.owners object))
taken-or w who listed object true among =
    inl (among, owner_of-taken w.owners who listed object ∙ ap (λ b. cond b (Some who) (owner_of w.owners object)) among)
taken-or w who listed object false among =
    inr (among, owner_of-taken w.owners who listed object ∙ ap (λ b. cond b (Some who) (owner_of w.owners object)) among)

all-or-nothing : (w : Workspace) (who : ℕ) (keep : List Seen) (fresh : List ℕ) (same : List Seen) (found : Option Reply) (objects : Objects) → MatchOption found ⊤ (λ reply. workspace_after w (Acquire who keep fresh same) reply ≡ w) → IsAllOrNothing w (unwrap_or found (Acquired (latest_of objects fresh))) (workspace_after w (Acquire who keep fresh same) (unwrap_or found (Acquired (latest_of objects fresh)))) who (taken_of keep fresh)
all-or-nothing w who keep fresh same None objects quiet =
    inl (tt, (λ object. taken-or w who (taken_of keep fresh) object (is_listed (taken_of keep fresh) object) refl), refl)
all-or-nothing w who keep fresh same (Some reply) objects quiet = inr quiet

pub acquire-all : AcquireIsAllOrNothing
acquire-all w numbers firsts who keep fresh same =
    let objects = standing (bodies_from w.definitions numbers firsts) w in
    all-or-nothing w who keep fresh same (acquire_block objects who keep fresh same) objects (acquire-same w objects who keep fresh same)

-- ---- who owns an object keeps it

-- a kept object that nobody else owns
abbrev IsFree : Objects → ℕ → ℕ → Type 0
IsFree objects who object =
    (it : Object Body) × (kept_at objects object ≡ Some it) × ((by : ℕ) → it.owner ≡ Some by → by ≡ who)

owner-free : (who object latest : ℕ) (seen owner : Option ℕ) → ◌≡◌ {A = Option Reply} (elim owner [ None ↦ newer object seen latest | Some by ↦ if by == who then None else Some (Owned object by) ]) None → (by : ℕ) → owner ≡ Some by → by ≡ who
owner-free who object latest seen None free by own = cc
owner-free who object latest seen (Some other) free by own = step (other == who) refl free
  where
    step : (same : Bool) → (other == who) ≡ same → ◌≡◌ {A = Option Reply} (if same then None else Some (Owned object other)) None → by ≡ who
    step true same free = cc (own, eqb-true other who same)
    step false same free = cc

block-free : (objects : Objects) (who object : ℕ) (seen : Option ℕ) (found : Option (Object Body)) → kept_at objects object ≡ found → block who object seen found ≡ None → IsFree objects who object
block-free objects who object seen None is free = cc
block-free objects who object seen (Some it) is free = (it, is, owner-free who object it.number seen it.owner free)

seen-free : (objects : Objects) (who object : ℕ) (keep : List Seen) → seen_block objects who keep ≡ None → is_listed (map (λ (seen : Seen). seen.object) keep) object ≡ true → IsFree objects who object
seen-free objects who object [] free listed = cc
seen-free objects who object (seen ∷ keep) free listed =
    let parts = or_parts (block who seen.object (Some seen.number) (kept_at objects seen.object)) (seen_block objects who keep) free in
    step (seen.object == object) refl (block-free objects who seen.object (Some seen.number) (kept_at objects seen.object) refl parts.0) (seen-free objects who object keep parts.1) listed
  where
    step : (same : Bool) → (seen.object == object) ≡ same → IsFree objects who seen.object → (is_listed (map (λ (one : Seen). one.object) keep) object ≡ true → IsFree objects who object) → (same || is_listed (map (λ (one : Seen). one.object) keep) object) ≡ true → IsFree objects who object
    step true same here later listed = subst (IsFree objects who) (eqb-true seen.object object same) here
    step false same here later listed = later listed

fresh-free : (objects : Objects) (who object : ℕ) (fresh : List ℕ) → fresh_block objects who fresh ≡ None → is_listed fresh object ≡ true → IsFree objects who object
fresh-free objects who object [] free listed = cc
fresh-free objects who object (one ∷ fresh) free listed =
    let parts = or_parts (block who one None (kept_at objects one)) (fresh_block objects who fresh) free in
    step (one == object) refl (block-free objects who one None (kept_at objects one) refl parts.0) (fresh-free objects who object fresh parts.1) listed
  where
    step : (same : Bool) → (one == object) ≡ same → IsFree objects who one → (is_listed fresh object ≡ true → IsFree objects who object) → (same || is_listed fresh object) ≡ true → IsFree objects who object
    step true same here later listed = subst (IsFree objects who) (eqb-true one object same) here
    step false same here later listed = later listed

either-free : (objects : Objects) (who object : ℕ) (kept asked : Bool) → (kept ≡ true → IsFree objects who object) → (asked ≡ true → IsFree objects who object) → (kept || asked) ≡ true → IsFree objects who object
either-free objects who object true asked first second listed = first refl
either-free objects who object false asked first second listed = second listed

asked-free : (objects : Objects) (who : ℕ) (keep : List Seen) (fresh : List ℕ) (same : List Seen) (object : ℕ) → acquire_block objects who keep fresh same ≡ None → is_listed (taken_of keep fresh) object ≡ true → IsFree objects who object
asked-free objects who keep fresh same object free listed =
    let first = or_parts (seen_block objects who keep) (option_or (fresh_block objects who fresh) (seen_block objects who same)) free in
    let second = or_parts (fresh_block objects who fresh) (seen_block objects who same) first.1 in
    either-free objects who object (is_listed (map (λ (seen : Seen). seen.object) keep) object) (is_listed fresh object) (seen-free objects who object keep first.0) (fresh-free objects who object fresh second.0)
    (sym (list_any-append (λ one. one == object) (map (λ (seen : Seen). seen.object) keep) fresh) ∙ listed)

taken-own : (bodies : Bodies Body Change) (w : Workspace) (by object who : ℕ) (listed : List ℕ) (among : Bool) → is_listed listed object ≡ among → (is_listed listed object ≡ true → IsFree (standing bodies w) by object) → owner_of w.owners object ≡ Some who → cond among (Some by) (owner_of w.owners object) ≡ Some who
taken-own bodies w by object who listed true among free own =
    let here = free among in
    ap Some (sym (here.2 who (sym (owner-found bodies w object here.0 here.1) ∙ own)))
taken-own bodies w by object who listed false among free own = own

keeps-acquire : (bodies : Bodies Body Change) (w : Workspace) (by : ℕ) (keep : List Seen) (fresh : List ℕ) (same : List Seen) (object who : ℕ) (found : Option Reply) → acquire_block (standing bodies w) by keep fresh same ≡ found → MatchOption found ⊤ (λ reply. workspace_after w (Acquire by keep fresh same) reply ≡ w) → owner_of w.owners object ≡ Some who → owner_of (workspace_after w (Acquire by keep fresh same) (unwrap_or found (Acquired (latest_of (standing bodies w) fresh)))).owners object ≡ Some who
keeps-acquire bodies w by keep fresh same object who None is quiet own =
    let listed = taken_of keep fresh in
    owner_of-taken w.owners by listed object ∙ taken-own bodies w by object who listed (is_listed listed object) refl (asked-free (standing bodies w) by keep fresh same object is) own
keeps-acquire bodies w by keep fresh same object who (Some reply) is quiet own =
    ap (λ (after : Workspace). owner_of after.owners object) quiet ∙ own

and-none : (b : Bool) → (b && false) ≡ false
and-none true = refl
and-none false = refl

keeps-given : (owned : owners.Owners) (by : ℕ) (leave : List ℕ) (object who : ℕ) (same : Bool) → (by == who) ≡ same → (same && is_listed leave object) ≡ false → owner_of owned object ≡ Some who → owner_of (given_up owned by leave) object ≡ Some who
keeps-given owned by leave object who true same gives own =
    owner_of-given_up owned by leave object
    ∙ ap (λ b. cond (not (owners.is_own owned by object && b)) (owner_of owned object) None) gives
    ∙ ap (λ b. cond (not b) (owner_of owned object) None) (and-none (owners.is_own owned by object)) ∙ own
keeps-given owned by leave object who false same gives own = kept-given_up owned by leave object who own (eqb-false by who same)

keeps-commit : (w : Workspace) (by : ℕ) (changes : List Change) (leave : List ℕ) (object who : ℕ) (found : Option Reply) → MatchOption found ⊤ (λ reply. workspace_after w (Commit by changes leave) reply ≡ w) → owner_of w.owners object ≡ Some who → ((by == who) && is_listed leave object) ≡ false → owner_of (workspace_after w (Commit by changes leave) (unwrap_or found Committed)).owners object ≡ Some who
keeps-commit w by changes leave object who None quiet own gives =
    keeps-given w.owners by leave object who (by == who) refl gives own
keeps-commit w by changes leave object who (Some reply) quiet own gives =
    ap (λ (after : Workspace). owner_of after.owners object) quiet ∙ own

keeps-release : (w : Workspace) (by : ℕ) (listed : List ℕ) (object who : ℕ) (found : Option ℕ) → owner_of w.owners object ≡ Some who → ((by == who) && is_listed listed object) ≡ false → owner_of (workspace_after w (Release by listed) (elim found [ Some one ↦ Stranger one | None ↦ Released ])).owners object ≡ Some who
keeps-release w by listed object who None own gives = keeps-given w.owners by listed object who (by == who) refl gives own
keeps-release w by listed object who (Some one) own gives = own

pub owner-keeps : OwnerKeepsUntilItGivesUp
owner-keeps w numbers firsts (Attach by) object who own gives = own
owner-keeps w numbers firsts (Acquire by keep fresh same) object who own gives =
    let objects = standing (bodies_from w.definitions numbers firsts) w in
    keeps-acquire (bodies_from w.definitions numbers firsts) w by keep fresh same object who (acquire_block objects by keep fresh same) refl (acquire-same w objects by keep fresh same) own
owner-keeps w numbers firsts (Resync by listed) object who own gives = own
owner-keeps w numbers firsts (Commit by changes leave) object who own gives =
    let objects = standing (bodies_from w.definitions numbers firsts) w in
    keeps-commit w by changes leave object who (commit_block w.definitions objects by changes leave) (commit-same w w.definitions objects by changes leave) own gives
owner-keeps w numbers firsts (Release by listed) object who own gives =
    keeps-release w by listed object who (first_not_own (standing (bodies_from w.definitions numbers firsts) w) by listed) own gives
owner-keeps w numbers firsts (Detach by) object who own gives =
    kept-all_given_up w.owners by object who own (eqb-false by who gives)
