-- The records and the objects of a store: a commit that is granted can be written, and each answer leaves objects that
-- stand for the records.
use Rattle.std.proofs.Common.{ℕ, ◌≡◌, ◌+◌, ◌<◌, ◌≤◌, ◌&&◌, Bool, true, false, List, [], ◌∷◌, ◌++◌, length, Option, None, Some, unwrap_or, refl, ap, ap₂, sym, subst, ◌∙◌, arith, length-append, nat_le, if◌then◌else◌, inl, inr, Bor, IfSome}
use Rattle.std.specs.List.{list_all}
use Rattle.std.specs.Option.{is_none, is_some, option_or, option_copied}
use Rattle.std.proofs.lemmas.Bool.{and_parts, and_from, leb-false}
use Rattle.aw_schema.specs.declared.definition.Def.{Def}
use Rattle.aw_schema.specs.declared.fault.SchemaFault.{SchemaFault}
use Rattle.aw_schema.specs.declared.fault.SchemaFault.TheVariants.{TooMany}
use Rattle.aw_schema.specs.Checking.{refusal, repeated_name, too_many, wrong_objects, AreAcceptedAfter, AreAccepted}
use Rattle.aw_body.specs.declared.body.Body.{Body}
use Rattle.aw_body.specs.declared.change.Change.{Change}
use Rattle.aw_body.specs.KeptBodies.{bodies_of, first_of}
use Rattle.aw_body.specs.Owners.{given_up}
use Rattle.aw_codec.specs.declared.record.Decoded.{Decoded}
use Rattle.aw_codec.specs.declared.record.Decoded.TheVariants as recorded
use Rattle.aw_codec.specs.Records.{AreCommittable}
use Rattle.mv_core.specs.declared.entry.Entry.{Entry}
use Rattle.mv_core.specs.declared.entry.Entry.TheVariants.{Acquire, Commit, Release, Detach}
use Rattle.mv_core.specs.declared.entry.Reply.{Reply}
use Rattle.mv_core.specs.declared.entry.Reply.TheVariants.{Acquired, Committed, Released, Detached}
use Rattle.mv_core.specs.declared.object.Object.{Object}
use Rattle.mv_core.specs.Effects.{objects_after}
use Rattle.mv_core.specs.Lookups.{kept_at}
use Rattle.mv_core.specs.Replies.{fits_object, commit_block, reply_of}
use Rattle.mv_core.specs.SharedStep.{writes, workspace_after, table_after, IsAnswered}
use Rattle.mv_core.specs.Workspace.{Workspace, Table, opened, table_of}
use Rattle.mv_core.proofs.CallerLemmas.{table-workspace_after}
use Rattle.aw_store.specs.StoredRecords.{are_replayed, are_accepted_after, fits_latest, are_commits_after, can_replay, definitions_of, commits_of, workspace_of}
use Rattle.aw_store.specs.Stores.{StandFor, IsGranted}
use Rattle.aw_store.proofs.callers.Following.{none-defined, can_replay-first, can_replay-commit, definitions_of-commit, stood_by-commit}
use Rattle.aw_store.proofs.Granting.{AreWritable, writable, committable, none-refused}
use Rattle.aw_store.proofs.callers.StandingObjects.{fits-standing, length-standing}

-- ---- how many definitions there are

middle-none : (one two three : Option SchemaFault) → is_none (option_or one (option_or two three)) ≡ true → two ≡ None
middle-none None None three is = refl
middle-none None (Some fault) three is = cc
middle-none (Some fault) two three is = cc

room-of : (size : ℕ) → (if nat_le 4096 size then Some TooMany else None) ≡ None → size < 4096
room-of size none = step (nat_le 4096 size) refl none
  where
    step : (full : Bool) → nat_le 4096 size ≡ full → (if full then Some TooMany else None) ≡ None → size < 4096
    step true is none' = cc
    step false is none' = leb-false 4096 size is

few-accepted : (before definitions : List Def) → are_accepted_after before definitions ≡ true → length before ≤ 4096 → length before + length definitions ≤ 4096
few-accepted before [] are few = omega (arith, few)
few-accepted before (def ∷ definitions) are few =
    let parts = and_parts (is_none (refusal before def)) (are_accepted_after (before ++ def ∷ []) definitions) are in
    let room : length before < 4096 = room-of (length before) (middle-none (repeated_name before def.name) (too_many before) (wrong_objects before def.kind) parts.0) in
    let longer = length-append before (def ∷ []) in
    omega (arith, few-accepted (before ++ def ∷ []) definitions parts.1 (omega (arith, longer, room)), longer)

pub few-definitions : (records : List Decoded) → can_replay records ≡ true → length (unwrap_or (definitions_of records) []) ≤ 4096
few-definitions [] replayable = omega arith
few-definitions (recorded.Definitions definitions ∷ records) replayable =
    let kinds = and_parts (are_replayed definitions) (are_accepted_after [] definitions && are_commits_after definitions [] records) replayable in
    let parts = and_parts (are_accepted_after [] definitions) (are_commits_after definitions [] records) kinds.1 in
    omega (arith, few-accepted [] definitions parts.0 (omega arith))
few-definitions (recorded.Commit changes ∷ records) replayable = cc

-- the definitions of a catalogue are accepted
pub accepted-after : (before definitions : List Def) → AreAcceptedAfter before definitions → are_accepted_after before definitions ≡ true
accepted-after before [] are = refl
accepted-after before (def ∷ definitions) are =
    and_from (is_none (refusal before def)) (are_accepted_after (before ++ def ∷ []) definitions) (ap is_none are.1) (accepted-after (before ++ def ∷ []) definitions are.2)

-- ---- what an answer leaves

-- where nothing is written, the owners alone may change
owners-after : (w : Workspace) (entry : Entry) (reply : Reply) → writes entry reply ≡ false → workspace_after w entry reply ≡ record w { owners = (workspace_after w entry reply).owners }
owners-after w (Acquire who keep fresh same) (Acquired latest) unwritten = refl
owners-after w (Commit who [] leave) Committed unwritten = refl
owners-after w (Commit who (c ∷ changes) leave) Committed unwritten = cc
owners-after w (Release who listed) Released unwritten = refl
owners-after w (Detach who) Detached unwritten = refl
owners-after w _ _ unwritten = refl

-- where the record of a commit was written, the commits are those of the records, and this one
committed-after : (w : Workspace) (who : ℕ) (changes : List Change) (leave : List ℕ) → 1 ≤ length changes
    → workspace_after w (Commit who changes leave) Committed ≡ record w { history = w.history ++ changes ∷ []; owners = given_up w.owners who leave }
committed-after w who [] leave some = absurd (omega (arith, some))
committed-after w who (c ∷ changes) leave some = refl

pub some-written : (who : ℕ) (changes : List Change) (leave : List ℕ) (reply : Reply) → writes (Commit who changes leave) reply ≡ true → (1 ≤ length changes) × (reply ≡ Committed)
some-written who [] leave Committed wrote = cc
some-written who (c ∷ changes) leave Committed wrote = (omega arith, refl)
some-written who changes leave _ wrote = cc

module _ (records : List Decoded) (catalogue : Option (List Def)) (table : Table) (stand : StandFor records catalogue table) where
  abbrev defined : List Def
  defined = unwrap_or (definitions_of records) []

  abbrev stood : Workspace
  stood = workspace_of records stand.owners

  after-is : (entry : Entry) (reply : Reply) → table_after table entry reply ≡ table_of (bodies_of defined) (workspace_after stood entry reply)
  after-is entry reply =
      ap (λ (one : Table). table_after one entry reply) stand.table_is ∙ sym (table-workspace_after defined (λ object. 1) (first_of defined) stood entry reply)

  pub StandFor-unwritten : (entry : Entry) (reply : Reply) → writes entry reply ≡ false → StandFor records catalogue (table_after table entry reply)
  StandFor-unwritten entry reply unwritten = record {
    replayable = stand.replayable;
    definitions_are = stand.definitions_are;
    owners = (workspace_after stood entry reply).owners;
    table_is = after-is entry reply ∙ ap (table_of (bodies_of defined)) (owners-after stood entry reply unwritten);
  }

  pub StandFor-committed : (who : ℕ) (changes : List Change) (leave : List ℕ) → 1 ≤ length changes → can_replay (records ++ recorded.Commit changes ∷ []) ≡ true
      → StandFor (records ++ recorded.Commit changes ∷ []) catalogue (table_after table (Commit who changes leave) Committed)
  StandFor-committed who changes leave some replayable = record {
    replayable = replayable;
    definitions_are = stand.definitions_are ∙ sym (definitions_of-commit records changes);
    owners = given_up stand.owners who leave;
    table_is =
        after-is (Commit who changes leave) Committed ∙ ap (table_of (bodies_of defined)) (committed-after stood who changes leave some) ∙ stood_by-commit records changes (given_up stand.owners who leave);
  }

  -- ---- a commit that is granted

  length-objects : length table.objects ≡ length defined
  length-objects = ap (λ (one : Table). length one.objects) stand.table_is ∙ length-standing (bodies_of defined) stood

  all-fit : (changes : List Change) → list_all (λ (c : Change). fits_object table.definitions (kept_at table.objects c.object) c) changes ≡ list_all (fits_latest defined (commits_of records)) changes
  all-fit [] = refl
  all-fit (c ∷ cs) =
      ap₂ (λ (a b : Bool). a && b) (ap (λ (one : Table). fits_object one.definitions (kept_at one.objects c.object) c) stand.table_is ∙ fits-standing defined (commits_of records) stood refl refl c) (all-fit cs)

  writable-granted : (who : ℕ) (changes : List Change) (leave : List ℕ) → unwrap_or (commit_block table.definitions table.objects who changes leave) Committed ≡ Committed → AreWritable table.definitions table.objects 0 changes
  writable-granted who changes leave granted =
      writable table.definitions table.objects who 0 changes (none-refused table.definitions table.objects who changes leave granted)

  pub record CanWrite (changes : List Change) : Type 0 where
    pub some : 1 ≤ length changes
    pub committable : AreCommittable changes
    pub replayable : can_replay (records ++ recorded.Commit changes ∷ []) ≡ true

  pub can-write : (who : ℕ) (changes : List Change) (leave : List ℕ) → IsGranted (Commit who changes leave) table → CanWrite changes
  can-write who changes leave granted =
      let wrote = some-written who changes leave (reply_of table.definitions table.objects (Commit who changes leave)) granted in
      let are = writable-granted who changes leave wrote.1 in
      record {
        some = wrote.0;
        committable = committable table.definitions table.objects changes are wrote.0 (omega (arith, length-objects, few-definitions records stand.replayable));
        replayable = can_replay-commit records changes stand.replayable wrote.0 ∙ sym (all-fit changes) ∙ are.fit;
      }

  -- ---- definitions

  pub none-defined-yet : is_some catalogue ≡ false → definitions_of records ≡ None
  none-defined-yet is = sym stand.definitions_are ∙ step catalogue is
    where
      step : (there : Option (List Def)) → is_some there ≡ false → there ≡ None
      step None is' = refl
      step (Some others) is' = cc

  pub can-define : (definitions : List Def) → is_some catalogue ≡ false → are_replayed definitions ≡ true → AreAccepted definitions → can_replay (records ++ recorded.Definitions definitions ∷ []) ≡ true
  can-define definitions is kinds accepted =
      can_replay-first records definitions stand.replayable (none-defined-yet is) ∙ ap₂ (λ (a b : Bool). a && b) kinds (accepted-after [] definitions accepted)

  pub StandFor-defined : (definitions : List Def) (after : Table) → is_some catalogue ≡ false → can_replay (records ++ recorded.Definitions definitions ∷ []) ≡ true
      → after ≡ table_of (bodies_of definitions) (opened definitions) → StandFor (records ++ recorded.Definitions definitions ∷ []) (Some definitions) after
  StandFor-defined definitions after is replayable objects =
      let first : records ≡ [] = none-defined records stand.replayable (none-defined-yet is) in
      let can = subst (λ them. can_replay (them ++ recorded.Definitions definitions ∷ []) ≡ true) first replayable in
      subst (λ them. StandFor (them ++ recorded.Definitions definitions ∷ []) (Some definitions) after) (sym first) (record { replayable = can; definitions_are = refl; owners = []; table_is = objects })

  -- ---- what a caller sees

  pub definitions-are : table.definitions ≡ defined
  definitions-are = ap (λ (one : Table). one.definitions) stand.table_is

  pub lent-definitions : (lent : Option (Bor (List Def))) → option_copied lent ≡ catalogue → IfSome lent (λ them. them.now ≡ table.definitions)
  lent-definitions None is = tt
  lent-definitions (Some them) is = sym (definitions-are ∙ ap (λ found. unwrap_or found []) (sym (is ∙ stand.definitions_are)))

  -- an entry that writes nothing, answered by the shared state alone
  pub StandFor-answered : (entry : Entry) (reply : Reply) (after : Table) → ((one : Reply) → writes entry one ≡ false) → IsAnswered table entry reply after → StandFor records catalogue after
  StandFor-answered entry reply after silent (inl refused) = subst (λ (one : Table). StandFor records catalogue one) (sym refused.2) stand
  StandFor-answered entry reply after silent (inr step) =
      let next = reply_of table.definitions table.objects entry in
      subst (λ (one : Table). StandFor records catalogue one) (sym step.1) (StandFor-unwritten entry next (silent next))

  -- ---- a prepared entry

  abbrev prepared : List (Option (Object Body)) → Table
  prepared objects = record table { objects = objects }

  pub StandFor-prepared : (entry : Entry) (reply : Reply) (objects : List (Option (Object Body))) → objects ≡ objects_after table.objects entry reply → writes entry reply ≡ false → StandFor records catalogue (prepared objects)
  StandFor-prepared entry reply objects leaves silent =
      subst (λ (them : List (Option (Object Body))). StandFor records catalogue (prepared them)) (sym leaves) (StandFor-unwritten entry reply silent)

  pub StandFor-written : (entry : Entry) (reply : Reply) (who : ℕ) (changes : List Change) (leave : List ℕ) (objects : List (Option (Object Body))) → entry ≡ Commit who changes leave → objects ≡ objects_after table.objects entry reply → writes entry reply ≡ true
      → can_replay (records ++ recorded.Commit changes ∷ []) ≡ true → StandFor (records ++ recorded.Commit changes ∷ []) catalogue (prepared objects)
  StandFor-written entry reply who changes leave objects is leaves granted replayable =
      let wrote = some-written who changes leave reply (subst (λ (one : Entry). writes one reply ≡ true) is granted) in
      let same : objects ≡ objects_after table.objects (Commit who changes leave) Committed = leaves ∙ ap₂ (λ (one : Entry) (answer : Reply). objects_after table.objects one answer) is wrote.1 in
      subst (λ (them : List (Option (Object Body))). StandFor (records ++ recorded.Commit changes ∷ []) catalogue (prepared them)) (sym same) (StandFor-committed who changes leave wrote.0 replayable)

  -- a commit that is prepared to be written can be
  pub can-write-prepared : (entry : Entry) (reply : Reply) (who : ℕ) (changes : List Change) (leave : List ℕ) → entry ≡ Commit who changes leave → reply ≡ reply_of table.definitions table.objects entry → writes entry reply ≡ true → CanWrite changes
  can-write-prepared entry reply who changes leave is answered granted =
      can-write who changes leave (subst (λ (one : Entry). writes one (reply_of table.definitions table.objects one) ≡ true) is (subst (λ (one : Reply). writes entry one ≡ true) answered granted))
