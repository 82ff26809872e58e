-- The shared step: what an entry is answered, and what it leaves of the commits and the owners.
use Rattle.std.specs.Prelude.{◌≡◌, ◌⊎◌, Bool, true, false, IsTrue, List, [], ◌∷◌, ◌++◌}
use Rattle.aw_body.specs.declared.body.Body.{Body}
use Rattle.aw_body.specs.declared.change.Change.{Change}
use Rattle.aw_body.specs.Generations.{Bodies}
use Rattle.aw_body.specs.Owners.{taken, given_up, all_given_up}
use Rattle.mv_core.specs.declared.entry.Entry.{Entry}
use Rattle.mv_core.specs.declared.entry.Entry.TheVariants.{Acquire, Commit, Release, Detach}
use Rattle.mv_core.specs.declared.entry.Reply.{Reply}
use Rattle.mv_core.specs.declared.entry.Reply.TheVariants.{Acquired, Committed, Released, Detached, NoMemory}
use Rattle.mv_core.specs.Effects.{taken_of, objects_after}
use Rattle.mv_core.specs.Replies.{reply_of}
use Rattle.mv_core.specs.Workspace.{Workspace, Table, standing, table_of}

-- a commit joins the commits where it has changes
abbrev pub history_after : List (List Change) → List Change → List (List Change)
history_after history [] = history
history_after history (c ∷ changes) = history ++ (c ∷ changes) ∷ []

-- whether a reply to an entry makes new generations: that to a commit with changes that is granted
abbrev pub writes : Entry → Reply → Bool
writes (Commit who (c ∷ changes) leave) Committed = true
writes _ _ = false

-- a grant sets the owner, a commit joins the commits and gives up what it leaves, and all else but giving up changes nothing
abbrev pub workspace_after : Workspace → Entry → Reply → Workspace
workspace_after w (Acquire who keep fresh same) (Acquired latest) =
    record w { owners = taken w.owners who (taken_of keep fresh) }
workspace_after w (Commit who changes leave) Committed =
    record w { history = history_after w.history changes; owners = given_up w.owners who leave }
workspace_after w (Release who listed) Released = record w { owners = given_up w.owners who listed }
workspace_after w (Detach who) Detached = record w { owners = all_given_up w.owners who }
workspace_after w _ _ = w

-- Release and Detach take no memory
abbrev pub takes_memory : Entry → Bool
takes_memory (Release who listed) = false
takes_memory (Detach who) = false
takes_memory _ = true

module _ (bodies : Bodies Body Change) where
  abbrev pub shared_step : Workspace → Entry → Reply × Workspace
  shared_step w entry =
      let reply = reply_of w.definitions (standing bodies w) entry in
      (reply, workspace_after w entry reply)

  -- a reply to an entry, and the objects that it leaves, are what the step has for the commits and the owners; want of
  -- memory changes nothing
  abbrev pub IsLegal : Workspace → Entry → Reply → Table → Type 0
  IsLegal w entry reply table =
      ((reply ≡ NoMemory) × IsTrue (takes_memory entry) × (table ≡ table_of bodies w))
      ⊎ ((reply ≡ (shared_step w entry).0) × (table ≡ table_of bodies (shared_step w entry).1))

-- the same on the objects as they stand alone
abbrev pub table_after : Table → Entry → Reply → Table
table_after table entry reply =
    record table { objects = objects_after table.objects entry reply }

abbrev pub table_step : Table → Entry → Reply × Table
table_step table entry =
    let reply = reply_of table.definitions table.objects entry in
    (reply, table_after table entry reply)

-- the reply, and the objects that it leaves
abbrev pub IsAnswered : Table → Entry → Reply → Table → Type 0
IsAnswered before entry reply after =
    ((reply ≡ NoMemory) × IsTrue (takes_memory entry) × (after ≡ before))
    ⊎ ((reply ≡ (table_step before entry).0) × (after ≡ (table_step before entry).1))
