-- What those who keep a `Shared` cite: what an entry makes of the objects as they stand is what it makes of the commits and
-- of the owners.
use Rattle.std.proofs.Common.{◌≡◌, ◌∙◌, ℕ, ◌+◌, ◌==◌, ◌&&◌, Bool, true, false, not, cond, List, [], ◌∷◌, ◌++◌, length, fold, Option, Some, None, refl, sym, ap, ap₂, arith, inl, inr, if◌then◌else◌, append-nil, length-append}
use Rattle.std.specs.Prelude.{IsTrue}
use Rattle.std.specs.Option.{option_map, option_to_list}
use Rattle.std.proofs.lemmas.List.Sums.{fold-append}
use Rattle.aw_schema.specs.declared.definition.Def.{Def}
use Rattle.aw_schema.specs.Definitions.{is_kept}
use Rattle.aw_body.specs.declared.body.Body.{Body}
use Rattle.aw_body.specs.declared.change.Change.{Change}
use Rattle.aw_body.specs.BodyPatches.{applied}
use Rattle.aw_body.specs.Generations.{Bodies, changes_of}
use Rattle.aw_body.specs.GenerationLaws.{changes_of-committed}
use Rattle.aw_body.specs.KeptBodies.{bodies_from}
use Rattle.aw_body.specs.Owners.{owner_of, taken, given_up, all_given_up}
use Rattle.aw_body.specs.OwnerLaws.{owner_of-taken, owner_of-given_up, owner_of-all_given_up}
use Rattle.mv_core.specs.declared.entry.Entry.{Entry}
use Rattle.mv_core.specs.declared.entry.Entry.TheVariants.{Attach, Acquire, Resync, Commit, Release, Detach}
use Rattle.mv_core.specs.declared.entry.Reply.{Reply}
use Rattle.mv_core.specs.declared.entry.Reply.TheVariants.{Acquired, Committed, Released, Detached, Stranger, NoMemory}
use Rattle.mv_core.specs.declared.object.Object.{Object}
use Rattle.mv_core.specs.Effects.{each_from, each, is_listed, take_listed, free_listed, free_own, taken_of, change_at, changed, committed, objects_after}
use Rattle.mv_core.specs.Following.{followed_by, table_followed}
use Rattle.mv_core.specs.Replies.{first_not_own, reply_of}
use Rattle.mv_core.specs.SharedStep.{workspace_after, shared_step, table_after, table_step, takes_memory, IsLegal, IsAnswered}
use Rattle.mv_core.specs.Workspace.{Workspace, Table, object_of, standing_from, standing, table_of}
use Rattle.mv_core.proofs.Each.{each-still, length-each}

-- ---- each object changed so, and no other

module _ (bodies : Bodies Body Change) where
  stands : (kept : Bool) (it after : Object Body) (f : Object Body → Object Body) → after ≡ f it → (if kept then Some after else None) ≡ option_map f (if kept then Some it else None)
  stands true it after f is = ap Some is
  stands false it after f is = refl

  -- where each object becomes what f makes of it, all that stand do
  pub standing_from-each : (w after : Workspace) (f : ℕ → Object Body → Object Body) → ((k : ℕ) → object_of bodies after k ≡ f k (object_of bodies w k)) → (at : ℕ) (definitions : List Def) → standing_from bodies after at definitions ≡ each_from f at (standing_from bodies w at definitions)
  standing_from-each w after f is at [] = refl
  standing_from-each w after f is at (def ∷ definitions) =
      ap₂ (λ (found : Option (Object Body)) (objects : List (Option (Object Body))). found ∷ objects) (stands (is_kept def.kind) (object_of bodies w at) (object_of bodies after at) (f at) (is at)) (standing_from-each w after f is (at + 1) definitions)

  -- ---- owners

  abbrev owned_so : Object Body → Option ℕ → Object Body
  owned_so it owner = record it { owner = owner }

  taken-so : (it : Object Body) (who : ℕ) (listed : Bool) → owned_so it (cond listed (Some who) it.owner) ≡ (if listed then record it { owner = Some who } else it)
  taken-so it who true = refl
  taken-so it who false = refl

  freed-so : (it : Object Body) (own listed : Bool) → owned_so it (cond (not (own && listed)) it.owner None) ≡ (if listed then (if own then record it { owner = None } else it) else it)
  freed-so it true true = refl
  freed-so it true false = refl
  freed-so it false true = refl
  freed-so it false false = refl

  all-freed-so : (it : Object Body) (own : Bool) → owned_so it (cond (not own) it.owner None) ≡ (if own then record it { owner = None } else it)
  all-freed-so it true = refl
  all-freed-so it false = refl

  pub standing-taken : (w : Workspace) (who : ℕ) (listed : List ℕ) → standing bodies (record w { owners = taken w.owners who listed }) ≡ each (take_listed who listed) (standing bodies w)
  standing-taken w who listed =
      standing_from-each w (record w { owners = taken w.owners who listed }) (take_listed who listed) (λ k. ap (owned_so (object_of bodies w k)) (owner_of-taken w.owners who listed k) ∙ taken-so (object_of bodies w k) who (is_listed listed k)) 0 w.definitions

  pub standing-given_up : (w : Workspace) (who : ℕ) (listed : List ℕ) → standing bodies (record w { owners = given_up w.owners who listed }) ≡ each (free_listed who listed) (standing bodies w)
  standing-given_up w who listed =
      standing_from-each w (record w { owners = given_up w.owners who listed }) (free_listed who listed) (λ k. ap (owned_so (object_of bodies w k)) (owner_of-given_up w.owners who listed k) ∙ freed-so (object_of bodies w k) (elim (owner_of w.owners k) [ None ↦ false | Some by ↦ by == who ]) (is_listed listed k)) 0 w.definitions

  pub standing-all_given_up : (w : Workspace) (who : ℕ) → standing bodies (record w { owners = all_given_up w.owners who }) ≡ each (free_own who) (standing bodies w)
  standing-all_given_up w who =
      standing_from-each w (record w { owners = all_given_up w.owners who }) (free_own who) (λ k. ap (owned_so (object_of bodies w k)) (owner_of-all_given_up w.owners who k) ∙ all-freed-so (object_of bodies w k) (elim (owner_of w.owners k) [ None ↦ false | Some by ↦ by == who ])) 0 w.definitions

-- ---- a commit

-- no step changes the definitions
pub definitions-after : (w : Workspace) (entry : Entry) (reply : Reply) → (workspace_after w entry reply).definitions ≡ w.definitions
definitions-after w (Acquire who keep fresh same) (Acquired latest) = refl
definitions-after w (Commit who changes leave) Committed = refl
definitions-after w (Release who listed) Released = refl
definitions-after w (Detach who) Detached = refl
definitions-after w _ _ = refl

module _ (definitions : List Def) (numbers : ℕ → ℕ) (firsts : ℕ → Body) where
  abbrev bodies : Bodies Body Change
  bodies = bodies_from definitions numbers firsts

  -- an object that has had some changes
  abbrev object_from : ℕ → Option ℕ → List Change → Object Body
  object_from at owner changes = record {
    number = numbers at + length changes;
    body = fold (λ body (c : Change). applied body c.patch) (firsts at) changes;
    owner = owner;
  }

  object_from-changed : (at : ℕ) (owner : Option ℕ) (changes : List Change) (found : Option Change) → object_from at owner (changes ++ option_to_list found) ≡ changed (object_from at owner changes) found
  object_from-changed at owner changes None = ap (object_from at owner) (append-nil changes)
  object_from-changed at owner changes (Some c) =
      let longer : numbers at + length (changes ++ c ∷ []) ≡ numbers at + length changes + 1 = omega (arith, length-append changes (c ∷ [])) in
      let newer = fold-append (λ body (d : Change). applied body d.patch) (firsts at) changes (c ∷ []) in
      ap₂ (λ (number : ℕ) (body : Body). let it : Object Body = record { number = number; body = body; owner = owner } in it) longer newer

  -- after a commit an object has the change that the commit has for it
  pub object_of-committed : (w : Workspace) (changes : List Change) (at : ℕ) → object_of bodies (followed_by w changes) at ≡ changed (object_of bodies w at) (change_at changes at)
  object_of-committed w changes at =
      ap (object_from at (owner_of w.owners at)) (changes_of-committed bodies at w.history changes) ∙ object_from-changed at (owner_of w.owners at) (changes_of bodies at w.history) (change_at changes at)

  pub standing-committed : (w : Workspace) (changes : List Change) → standing bodies (followed_by w changes) ≡ committed (standing bodies w) changes
  standing-committed w changes =
      standing_from-each bodies w (followed_by w changes) (λ at it. changed it (change_at changes at)) (object_of-committed w changes) 0 w.definitions

  -- ---- the step

  -- what a reply leaves of the objects as they stand is what it leaves of the commits and of the owners
  pub standing-workspace_after : (w : Workspace) (entry : Entry) (reply : Reply) → standing bodies (workspace_after w entry reply) ≡ objects_after (standing bodies w) entry reply
  standing-workspace_after w (Acquire who keep fresh same) (Acquired latest) = standing-taken bodies w who (taken_of keep fresh)
  standing-workspace_after w (Commit who [] leave) Committed =
      standing-given_up bodies w who leave ∙ ap (each (free_listed who leave)) (sym (each-still (λ at it. it) (λ at it. refl) 0 (standing bodies w)))
  standing-workspace_after w (Commit who (c ∷ changes) leave) Committed =
      standing-given_up bodies (followed_by w (c ∷ changes)) who leave ∙ ap (each (free_listed who leave)) (standing-committed w (c ∷ changes))
  standing-workspace_after w (Release who listed) Released = standing-given_up bodies w who listed
  standing-workspace_after w (Detach who) Detached = standing-all_given_up bodies w who
  standing-workspace_after w _ _ = refl

  abbrev table_so : List Def → List (Option (Object Body)) → Table
  table_so defs objects = record { definitions = defs; objects = objects }

  pub table-workspace_after : (w : Workspace) (entry : Entry) (reply : Reply) → table_of bodies (workspace_after w entry reply) ≡ table_after (table_of bodies w) entry reply
  table-workspace_after w entry reply =
      ap₂ table_so (definitions-after w entry reply) (standing-workspace_after w entry reply)

  -- a commit that is followed
  pub table-followed : (w : Workspace) (changes : List Change) → table_of bodies (followed_by w changes) ≡ table_followed (table_of bodies w) changes
  table-followed w changes = ap (table_so w.definitions) (standing-committed w changes)

  -- what is answered on the objects alone is a legal step for all commits and owners for which they stand
  pub IsLegal-from_answered : (w : Workspace) (entry : Entry) (reply : Reply) (before after : Table) → before ≡ table_of bodies w → IsAnswered before entry reply after → IsLegal bodies w entry reply after
  IsLegal-from_answered w entry reply before after stands answered =
      elim answered [
        | inl refused ↦ inl (refused.0, refused.1, refused.2 ∙ stands)
        | inr step ↦ inr (step.0 ∙ ap (λ table. (table_step table entry).0) stands, step.1 ∙ ap (λ table. (table_step table entry).1) stands ∙ sym (table-workspace_after w entry (shared_step bodies w entry).0))
      ]

  -- a commit that may be followed leaves the objects after it, and one that may not leaves them
  pub followed-where : (w : Workspace) (changes : List Change) (may : Bool) (before after : Table) → before ≡ table_of bodies w → after ≡ (if may then table_followed before changes else before) → after ≡ table_of bodies (if may then followed_by w changes else w)
  followed-where w changes true before after stands is =
      is ∙ ap (λ table. table_followed table changes) stands ∙ sym (table-followed w changes)
  followed-where w changes false before after stands is = is ∙ stands

-- ---- how many objects there are

pub length-objects_after : (objects : List (Option (Object Body))) (entry : Entry) (reply : Reply) → length (objects_after objects entry reply) ≡ length objects
length-objects_after objects (Acquire who keep fresh same) (Acquired latest) = length-each (take_listed who (taken_of keep fresh)) 0 objects
length-objects_after objects (Commit who changes leave) Committed =
    length-each (free_listed who leave) 0 (committed objects changes) ∙ length-each (λ at it. changed it (change_at changes at)) 0 objects
length-objects_after objects (Release who listed) Released = length-each (free_listed who listed) 0 objects
length-objects_after objects (Detach who) Detached = length-each (free_own who) 0 objects
length-objects_after objects _ _ = refl

pub length-answered : (before : Table) (entry : Entry) (reply : Reply) (after : Table) → IsAnswered before entry reply after → length after.objects ≡ length before.objects
length-answered before entry reply after answered =
    elim answered [
      | inl refused ↦ ap (λ (table : Table). length table.objects) refused.2
      | inr step ↦ ap (λ (table : Table). length table.objects) step.1 ∙ length-objects_after before.objects entry (table_step before entry).0
    ]

pub definitions-answered : (before : Table) (entry : Entry) (reply : Reply) (after : Table) → IsAnswered before entry reply after → after.definitions ≡ before.definitions
definitions-answered before entry reply after answered =
    elim answered [
      | inl refused ↦ ap (λ (table : Table). table.definitions) refused.2
      | inr step ↦ ap (λ (table : Table). table.definitions) step.1
    ]

-- want of memory is answered where it comes alone, and so never to Release and Detach
released-memory : (found : Option ℕ) → elim found [ Some object ↦ Stranger object | None ↦ Released ] ≡ NoMemory → IsTrue false
released-memory None is = cc
released-memory (Some object) is = cc

reply-memory : (definitions : List Def) (objects : List (Option (Object Body))) (entry : Entry) → reply_of definitions objects entry ≡ NoMemory → IsTrue (takes_memory entry)
reply-memory definitions objects (Attach who) is = refl
reply-memory definitions objects (Acquire who keep fresh same) is = refl
reply-memory definitions objects (Resync who listed) is = refl
reply-memory definitions objects (Commit who changes leave) is = refl
reply-memory definitions objects (Release who listed) is = released-memory (first_not_own objects who listed) is
reply-memory definitions objects (Detach who) is = cc

pub memory-answered : (before : Table) (entry : Entry) (reply : Reply) (after : Table) → IsAnswered before entry reply after → reply ≡ NoMemory → IsTrue (takes_memory entry)
memory-answered before entry reply after answered is =
    elim answered [
      | inl refused ↦ refused.1
      | inr step ↦ reply-memory before.definitions before.objects entry (sym step.0 ∙ is)
    ]
