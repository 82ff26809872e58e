-- What an entry that is granted does to the objects as they stand: each object by itself, and no other.
use Rattle.std.specs.Prelude.{ℕ, ◌==◌, ◌+◌, ◌++◌, Bool, List, [], ◌∷◌, map, find, Option, Some, None, if◌then◌else◌}
use Rattle.std.specs.List.{list_any}
use Rattle.std.specs.Option.{option_map}
use Rattle.aw_body.specs.declared.body.Body.{Body}
use Rattle.aw_body.specs.declared.change.Change.{Change}
use Rattle.aw_body.specs.declared.change.Fresh.{Fresh}
use Rattle.aw_body.specs.declared.change.Seen.{Seen}
use Rattle.aw_body.specs.BodyPatches.{applied}
use Rattle.mv_core.specs.declared.entry.Entry.{Entry}
use Rattle.mv_core.specs.declared.entry.Entry.TheVariants.{Acquire, Commit, Release, Detach}
use Rattle.mv_core.specs.declared.entry.Reply.{Reply}
use Rattle.mv_core.specs.declared.entry.Reply.TheVariants.{Acquired, Committed, Released, Detached}
use Rattle.mv_core.specs.declared.object.Object.{Object}
use Rattle.mv_core.specs.Lookups.{is_own}

-- every kept object becomes what f makes of its number and of it; the first object has the number at
abbrev pub each_from : (ℕ → Object Body → Object Body) → ℕ → List (Option (Object Body)) → List (Option (Object Body))
each_from f at [] = []
each_from f at (found ∷ objects) = option_map (f at) found ∷ each_from f (at + 1) objects

abbrev pub each : (ℕ → Object Body → Object Body) → List (Option (Object Body)) → List (Option (Object Body))
each f objects = each_from f 0 objects

abbrev pub is_listed : List ℕ → ℕ → Bool
is_listed listed object = list_any (λ one. one == object) listed

-- what a session owns, or gives up where it owns it
abbrev pub owned_by : ℕ → Object Body → Object Body
owned_by who it = record it { owner = Some who }

abbrev pub freed_by : ℕ → Object Body → Object Body
freed_by who it = if is_own who (Some it) then record it { owner = None } else it

-- a session takes the listed objects
abbrev pub take_listed : ℕ → List ℕ → ℕ → Object Body → Object Body
take_listed who listed at it = if is_listed listed at then owned_by who it else it

-- a session gives up those of the listed objects that it owns
abbrev pub free_listed : ℕ → List ℕ → ℕ → Object Body → Object Body
free_listed who listed at it = if is_listed listed at then freed_by who it else it

-- a session gives up all that it owns
abbrev pub free_own : ℕ → ℕ → Object Body → Object Body
free_own who at it = freed_by who it

-- a new generation, and the one that is there for an object
abbrev pub renewed_by : Fresh → Object Body → Object Body
renewed_by fresh it = record it { number = fresh.number; body = fresh.body }

abbrev pub renewed : List Fresh → ℕ → Object Body → Object Body
renewed made at it =
    elim (find (λ (fresh : Fresh). fresh.object == at) made) [ None ↦ it | Some fresh ↦ renewed_by fresh it ]

-- the objects of the two lists of an Acquire that become the session's
abbrev pub taken_of : List Seen → List ℕ → List ℕ
taken_of keep fresh = map (λ (seen : Seen). seen.object) keep ++ fresh

-- the change that a commit has for an object
abbrev pub change_at : List Change → ℕ → Option Change
change_at changes at = find (λ (c : Change). c.object == at) changes

-- a change makes the next generation
abbrev pub changed : Object Body → Option Change → Object Body
changed it None = it
changed it (Some c) = record it { number = it.number + 1; body = applied it.body c.patch }

-- each object takes the change that the commit has for it
abbrev pub committed : List (Option (Object Body)) → List Change → List (Option (Object Body))
committed objects changes = each (λ at it. changed it (change_at changes at)) objects

-- the objects after an entry with this reply: a grant sets the owner, a commit changes what it names, and gives up what it
-- leaves
abbrev pub objects_after : List (Option (Object Body)) → Entry → Reply → List (Option (Object Body))
objects_after objects (Acquire who keep fresh same) (Acquired latest) = each (take_listed who (taken_of keep fresh)) objects
objects_after objects (Commit who changes leave) Committed = each (free_listed who leave) (committed objects changes)
objects_after objects (Release who listed) Released = each (free_listed who listed) objects
objects_after objects (Detach who) Detached = each (free_own who) objects
objects_after objects _ _ = objects
