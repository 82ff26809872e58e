-- What holds of every step, from whatever first generations.
use Rattle.std.specs.Prelude.{ℕ, ◌≡◌, ◌==◌, ◌+◌, ◌&&◌, ◌⊎◌, Bool, true, false, List, MatchOption, Some}
use Rattle.aw_body.specs.declared.body.Body.{Body}
use Rattle.aw_body.specs.declared.change.Change.{Change}
use Rattle.aw_body.specs.declared.change.Seen.{Seen}
use Rattle.aw_body.specs.Generations.{Bodies, change_of, latest_number, latest_body}
use Rattle.aw_body.specs.KeptBodies.{bodies_from}
use Rattle.aw_body.specs.Owners.{owner_of}
use Rattle.mv_core.specs.declared.entry.Entry.{Entry}
use Rattle.mv_core.specs.declared.entry.Entry.TheVariants.{Acquire, Commit, Release, Detach}
use Rattle.mv_core.specs.declared.entry.Reply.{Reply}
use Rattle.mv_core.specs.declared.entry.Reply.TheVariants.{Acquired, Committed}
use Rattle.mv_core.specs.Effects.{is_listed, taken_of}
use Rattle.mv_core.specs.SharedStep.{shared_step}
use Rattle.mv_core.specs.Workspace.{Workspace}

-- Of an object that a granted commit names, the session is the owner, the number rises by one, and the body is changed. Of
-- every other object both stay.
abbrev pub IsChangedAlone : Bodies Body Change → Workspace → Workspace → ℕ → List Change → ℕ → Type 0
IsChangedAlone bodies before after who changes object =
    MatchOption (change_of bodies object changes)
    ((latest_number bodies after.history object ≡ latest_number bodies before.history object) × (latest_body bodies after.history object ≡ latest_body bodies before.history object))
    (λ c. (owner_of before.owners object ≡ Some who) × (latest_number bodies after.history object ≡ latest_number bodies before.history object + 1) × (latest_body bodies after.history object ≡ bodies.applied (latest_body bodies before.history object) c))

abbrev pub CommitChangesWhatItNames : Type 0
CommitChangesWhatItNames = (w : Workspace) (numbers : ℕ → ℕ) (firsts : ℕ → Body) (who : ℕ) (changes : List Change) (leave : List ℕ) (object : ℕ) →
    (shared_step (bodies_from w.definitions numbers firsts) w (Commit who changes leave)).0 ≡ Committed →
    IsChangedAlone (bodies_from w.definitions numbers firsts) w (shared_step (bodies_from w.definitions numbers firsts) w (Commit who changes leave)).1 who changes object

-- whether a session asks to give up an object
abbrev pub gives_up : Entry → ℕ → ℕ → Bool
gives_up (Commit by changes leave) who object = (by == who) && is_listed leave object
gives_up (Release by listed) who object = (by == who) && is_listed listed object
gives_up (Detach by) who object = by == who
gives_up _ who object = false

-- who owns an object keeps it until it gives it up itself
abbrev pub OwnerKeepsUntilItGivesUp : Type 0
OwnerKeepsUntilItGivesUp = (w : Workspace) (numbers : ℕ → ℕ) (firsts : ℕ → Body) (entry : Entry) (object who : ℕ) →
    owner_of w.owners object ≡ Some who → gives_up entry who object ≡ false →
    owner_of (shared_step (bodies_from w.definitions numbers firsts) w entry).1.owners object ≡ Some who

abbrev pub IsGrant : Reply → Type 0
IsGrant (Acquired latest) = Unit {0}
IsGrant _ = ⊥

-- the session owns every listed object, and the others have the owners that they had
abbrev pub AreTaken : Workspace → Workspace → ℕ → List ℕ → Type 0
AreTaken before after who listed = (object : ℕ) →
    ((is_listed listed object ≡ true) × (owner_of after.owners object ≡ Some who))
    ⊎ ((is_listed listed object ≡ false) × (owner_of after.owners object ≡ owner_of before.owners object))

-- an Acquire owns all that it asked to own and makes no generation, or nothing changes
abbrev pub IsAllOrNothing : Workspace → Reply → Workspace → ℕ → List ℕ → Type 0
IsAllOrNothing before reply after who listed =
    (IsGrant reply × AreTaken before after who listed × (after.history ≡ before.history)) ⊎ (after ≡ before)

abbrev pub AcquireIsAllOrNothing : Type 0
AcquireIsAllOrNothing = (w : Workspace) (numbers : ℕ → ℕ) (firsts : ℕ → Body) (who : ℕ) (keep : List Seen) (fresh : List ℕ) (same : List Seen) →
    let step = shared_step (bodies_from w.definitions numbers firsts) w (Acquire who keep fresh same) in
    IsAllOrNothing w step.0 step.1 who (taken_of keep fresh)
