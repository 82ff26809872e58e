-- What the refusals of an entry say of the objects, and that a refusal leaves them as they were.
use Rattle.std.specs.Prelude.{ℕ, ◌≡◌, ◌≢◌, ◌<◌, ◌≤◌, ◌⊎◌, ◌++◌, false, Contains, List, ◌∷◌, Some, None}
use Rattle.aw_body.specs.declared.body.Body.{Body}
use Rattle.aw_body.specs.declared.change.Change.{Change}
use Rattle.aw_body.specs.declared.change.Seen.{Seen}
use Rattle.mv_core.specs.declared.entry.Entry.{Entry}
use Rattle.mv_core.specs.declared.entry.Entry.TheVariants.{Acquire, Resync, Commit, Release}
use Rattle.mv_core.specs.declared.entry.Reply.{Reply}
use Rattle.mv_core.specs.declared.entry.Reply.TheVariants.{Acquired, Committed, Released, Detached, Owned, Newer, Stranger, Worn}
use Rattle.mv_core.specs.declared.object.Object.{Object}
use Rattle.mv_core.specs.Lookups.{kept_at, is_own}
use Rattle.mv_core.specs.Replies.{fits_object}
use Rattle.mv_core.specs.Workspace.{Table}

-- only a grant, a commit and giving up change the objects
abbrev pub IsKept : Reply → Table → Table → Type 0
IsKept (Acquired latest) before after = Unit {0}
IsKept Committed before after = Unit {0}
IsKept Released before after = Unit {0}
IsKept Detached before after = Unit {0}
IsKept _ before after = after ≡ before

-- an object of one of the three lists of an Acquire
abbrev pub AsksFor : List Seen → List ℕ → List Seen → ℕ → Type 0
AsksFor keep fresh same object =
    ((seen : Seen) × Contains (keep ++ same) seen × (seen.object ≡ object)) ⊎ Contains fresh object

-- Owned tells the owner of an object that was asked for, which is another session
abbrev pub IsTrueOwned : Table → Entry → Reply → Type 0
IsTrueOwned table (Acquire who keep fresh same) (Owned object by) =
    (it : Object Body) × AsksFor keep fresh same object × (kept_at table.objects object ≡ Some it) × (it.owner ≡ Some by) × (by ≢ who)
IsTrueOwned table _ (Owned object by) = ⊥
IsTrueOwned table _ _ = Unit {0}

-- Newer tells the latest number of an object that was asked for: it is above the session's, and nobody owns the object
abbrev pub IsTrueNewer : Table → Entry → Reply → Type 0
IsTrueNewer table (Acquire who keep fresh same) (Newer object latest) =
    (seen : Seen) × (it : Object Body) × Contains (keep ++ same) seen × (seen.object ≡ object) × (kept_at table.objects object ≡ Some it) × (it.owner ≡ None) × (it.number ≡ latest) × (seen.number < latest)
IsTrueNewer table _ (Newer object latest) = ⊥
IsTrueNewer table _ _ = Unit {0}

-- Worn tells a changed object of the session's that has the last number
abbrev pub IsTrueWorn : Table → Entry → Reply → Type 0
IsTrueWorn table (Commit who changes leave) (Worn object) =
    (c : Change) × (it : Object Body) × Contains changes c × (c.object ≡ object) × (kept_at table.objects object ≡ Some it) × (18446744073709551615 ≤ it.number)
IsTrueWorn table _ (Worn object) = ⊥
IsTrueWorn table _ _ = Unit {0}

-- a change of an object that isn't the session's, or one that doesn't fit, or whose object isn't above that of the change
-- before it
abbrev pub IsOutOfPlace : Table → ℕ → List Change → ℕ → Type 0
IsOutOfPlace table who changes object =
    (c : Change) × Contains changes c × (c.object ≡ object) × (
    (is_own who (kept_at table.objects object) ≡ false)
    ⊎ (fits_object table.definitions (kept_at table.objects object) c ≡ false)
    ⊎ ((front : List Change) × (before : Change) × (back : List Change) × (changes ≡ front ++ before ∷ c ∷ back) × (object ≤ before.object)))

-- Stranger tells an object that the entry names and that isn't kept, or that isn't the session's where it is to be changed
-- or given up, or a change that is out of place
abbrev pub IsTrueStranger : Table → Entry → Reply → Type 0
IsTrueStranger table (Acquire who keep fresh same) (Stranger object) =
    AsksFor keep fresh same object × (kept_at table.objects object ≡ None)
IsTrueStranger table (Resync who listed) (Stranger object) = Contains listed object × (kept_at table.objects object ≡ None)
IsTrueStranger table (Commit who changes leave) (Stranger object) =
    IsOutOfPlace table who changes object ⊎ (Contains leave object × (is_own who (kept_at table.objects object) ≡ false))
IsTrueStranger table (Release who listed) (Stranger object) = Contains listed object × (is_own who (kept_at table.objects object) ≡ false)
IsTrueStranger table _ (Stranger object) = ⊥
IsTrueStranger table _ _ = Unit {0}
