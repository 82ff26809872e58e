-- What an entry is answered, where the objects stand so.
use Rattle.std.specs.Prelude.{ℕ, ◌==◌, ◌+◌, ◌&&◌, Bool, false, not, List, [], ◌∷◌, find, Option, Some, None, slice_get, nat_lt, nat_le, if◌then◌else◌}
use Rattle.std.specs.Option.{option_map, option_or, unwrap_or, is_none}
use Rattle.aw_schema.specs.declared.definition.Def.{Def}
use Rattle.aw_body.specs.declared.body.Body.{Body}
use Rattle.aw_body.specs.declared.change.Change.{Change}
use Rattle.aw_body.specs.declared.change.Seen.{Seen}
use Rattle.aw_body.specs.KeptBodies.{fits_definition}
use Rattle.mv_core.specs.declared.entry.Entry.{Entry}
use Rattle.mv_core.specs.declared.entry.Entry.TheVariants.{Attach, Acquire, Resync, Commit, Release, Detach}
use Rattle.mv_core.specs.declared.entry.Reply.{Reply}
use Rattle.mv_core.specs.declared.entry.Reply.TheVariants.{Attached, Acquired, Resynced, Committed, Released, Detached, Owned, Newer, Stranger, Worn}
use Rattle.mv_core.specs.declared.object.Object.{Object}
use Rattle.mv_core.specs.Lookups.{kept_at, is_own, latest_of, latest_from}

-- ---- an Acquire

-- a generation above the one that the session has; nothing where it takes the latest one
abbrev pub newer : ℕ → Option ℕ → ℕ → Option Reply
newer object None latest = None
newer object (Some number) latest = if nat_lt number latest then Some (Newer object latest) else None

-- What blocks an object that was looked up: that it isn't kept, that another session owns it, or that nobody does and its
-- generation is newer. An object of the session's own doesn't block.
abbrev pub block : ℕ → ℕ → Option ℕ → Option (Object Body) → Option Reply
block who object seen None = Some (Stranger object)
block who object seen (Some it) =
    elim it.owner [ None ↦ newer object seen it.number | Some by ↦ if by == who then None else Some (Owned object by) ]

-- the first that blocks
abbrev pub first_block : {A : Type 0} → (A → Option Reply) → List A → Option Reply
first_block blocks [] = None
first_block blocks (one ∷ others) = option_or (blocks one) (first_block blocks others)

abbrev pub seen_block : List (Option (Object Body)) → ℕ → List Seen → Option Reply
seen_block objects who listed =
    first_block (λ (seen : Seen). block who seen.object (Some seen.number) (kept_at objects seen.object)) listed

abbrev pub fresh_block : List (Option (Object Body)) → ℕ → List ℕ → Option Reply
fresh_block objects who listed = first_block (λ object. block who object None (kept_at objects object)) listed

-- the three lists one after the other
abbrev pub acquire_block : List (Option (Object Body)) → ℕ → List Seen → List ℕ → List Seen → Option Reply
acquire_block objects who keep fresh same =
    option_or (seen_block objects who keep) (option_or (fresh_block objects who fresh) (seen_block objects who same))

-- ---- objects that an entry names

-- the first that isn't kept
abbrev pub first_unkept : List (Option (Object Body)) → List ℕ → Option ℕ
first_unkept objects listed = find (λ object. is_none (kept_at objects object)) listed

-- the first that isn't the session's
abbrev pub first_not_own : List (Option (Object Body)) → ℕ → List ℕ → Option ℕ
first_not_own objects who listed = find (λ object. not (is_own who (kept_at objects object))) listed

-- ---- changes

-- whether a change fits the definition and the latest body of the object that was looked up
abbrev pub fits_object : List Def → Option (Object Body) → Change → Bool
fits_object definitions None c = false
fits_object definitions (Some it) c = fits_definition (slice_get definitions c.object) it.body c

-- whether a change may be made: by this session, of an object of its own; or by anybody, where no session is given
abbrev pub may_make : List Def → List (Option (Object Body)) → Option ℕ → Change → Bool
may_make definitions objects None c = fits_object definitions (kept_at objects c.object) c
may_make definitions objects (Some who) c =
    is_own who (kept_at objects c.object) && fits_object definitions (kept_at objects c.object) c

-- the object of the first change that may not be made, or that isn't above the one before it; the least is given
abbrev pub first_refused : (Change → Bool) → ℕ → List Change → Option ℕ
first_refused may least [] = None
first_refused may least (c ∷ cs) =
    if nat_le least c.object && may c then first_refused may (c.object + 1) cs else Some c.object

-- the first changed object whose number can't rise
abbrev pub is_worn : Option (Object Body) → Bool
is_worn None = false
is_worn (Some it) = nat_le 18446744073709551615 it.number

abbrev pub first_worn : List (Option (Object Body)) → List Change → Option ℕ
first_worn objects changes =
    option_map (λ (c : Change). c.object) (find (λ (c : Change). is_worn (kept_at objects c.object)) changes)

-- what blocks a commit: the changes are looked at first, and then what is to be given up
abbrev pub commit_block : List Def → List (Option (Object Body)) → ℕ → List Change → List ℕ → Option Reply
commit_block definitions objects who changes leave =
    elim (option_or (first_refused (may_make definitions objects (Some who)) 0 changes) (first_not_own objects who leave)) [
      | Some object ↦ Some (Stranger object)
      | None ↦ option_map Worn (first_worn objects changes)
    ]

-- whether changes may follow: each is of a kept object whose number can rise, above the object of the change before it, and
-- fits its latest body
abbrev pub may_follow : List Def → List (Option (Object Body)) → List Change → Bool
may_follow definitions objects changes =
    is_none (first_refused (may_make definitions objects None) 0 changes) && is_none (first_worn objects changes)

-- ---- the reply

abbrev pub reply_of : List Def → List (Option (Object Body)) → Entry → Reply
reply_of definitions objects (Attach who) = Attached (latest_from 0 objects)
reply_of definitions objects (Acquire who keep fresh same) =
    unwrap_or (acquire_block objects who keep fresh same) (Acquired (latest_of objects fresh))
reply_of definitions objects (Resync who listed) =
    elim (first_unkept objects listed) [ Some object ↦ Stranger object | None ↦ Resynced (latest_of objects listed) ]
reply_of definitions objects (Commit who changes leave) =
    unwrap_or (commit_block definitions objects who changes leave) Committed
reply_of definitions objects (Release who listed) =
    elim (first_not_own objects who listed) [ Some object ↦ Stranger object | None ↦ Released ]
reply_of definitions objects (Detach who) = Detached
