-- One record more, and what the records then leave.
use Rattle.std.proofs.Common.{ℕ, ◌≡◌, ◌<◌, ◌≤◌, ◌^◌, ◌&&◌, Bool, true, false, List, [], ◌∷◌, ◌++◌, length, Option, None, Some, unwrap_or, refl, ap, ap₂, sym, subst, ◌∙◌, arith, append_assoc, append-nil, Result, Ok, Err, IfOk}
use Rattle.std.specs.List.{list_all}
use Rattle.std.proofs.lemmas.Bool.{and_parts}
use Rattle.std.proofs.Math.Bool.{and-true, and-false}
use Rattle.aw_schema.specs.declared.definition.Def.{Def}
use Rattle.aw_body.specs.declared.change.Change.{Change}
use Rattle.aw_body.specs.KeptBodies.{bodies_of}
use Rattle.aw_body.specs.Owners.{Owners}
use Rattle.aw_codec.specs.declared.record.Decoded.{Decoded}
use Rattle.aw_codec.specs.declared.record.Decoded.TheVariants.{Definitions, Commit}
use Rattle.aw_codec.specs.Records.{spelled, rise_from}
use Rattle.mv_core.specs.Following.{followed_by}
use Rattle.mv_core.specs.Replies.{may_follow}
use Rattle.mv_core.specs.Workspace.{Workspace, Table, opened, table_of}
use Rattle.aw_store.specs.StoredRecords.{are_replayed, are_accepted_after, fits_latest, are_commits_after, can_replay, definitions_of, commits_of, workspace_of, stood_by, IsStored}
use Rattle.aw_store.specs.inside.ReplaySteps.{Leave, Taken}
use Rattle.aw_store.proofs.callers.Spellings.{found, IsNext-spelled}
use Rattle.aw_store.proofs.callers.StandingObjects.{refused-fits, none-worn}

pub not_both : (b : Bool) → b ≡ true → b ≡ false → ⊥
not_both b holds fails = cc

-- ---- whether definitions may follow

commits-defined : (definitions : List Def) (history : List (List Change)) (records : List Decoded) (others : List Def) → are_commits_after definitions history (records ++ Definitions others ∷ []) ≡ false
commits-defined definitions history [] others = refl
commits-defined definitions history (Definitions defs ∷ records) others = refl
commits-defined definitions history (Commit changes ∷ records) others =
    ap (λ b. list_all (fits_latest definitions history) changes && b) (commits-defined definitions (history ++ changes ∷ []) records others) ∙ and-false (list_all (fits_latest definitions history) changes)

-- definitions can't follow definitions
pub can_replay-defined : (records : List Decoded) (there others : List Def) → definitions_of records ≡ Some there → can_replay (records ++ Definitions others ∷ []) ≡ false
can_replay-defined [] there others is = cc
can_replay-defined (Commit changes ∷ records) there others is = refl
can_replay-defined (Definitions definitions ∷ records) there others is =
    ap (λ b. are_replayed definitions && (are_accepted_after [] definitions && b)) (commits-defined definitions [] records others)
    ∙ ap (λ b. are_replayed definitions && b) (and-false (are_accepted_after [] definitions)) ∙ and-false (are_replayed definitions)

-- where no definitions are there, no record is
pub none-defined : (records : List Decoded) → can_replay records ≡ true → definitions_of records ≡ None → records ≡ []
none-defined [] replayable none = refl
none-defined (Definitions definitions ∷ records) replayable none = cc
none-defined (Commit changes ∷ records) replayable none = cc

-- the first record
pub can_replay-first : (records : List Decoded) (definitions : List Def) → can_replay records ≡ true → definitions_of records ≡ None → can_replay (records ++ Definitions definitions ∷ []) ≡ (are_replayed definitions && are_accepted_after [] definitions)
can_replay-first records definitions replayable none =
    ap (λ them. can_replay (them ++ Definitions definitions ∷ [])) (none-defined records replayable none)
    ∙ ap (λ b. are_replayed definitions && b) (and-true (are_accepted_after [] definitions))

-- ---- whether a commit may follow

commits-next : (definitions : List Def) (history : List (List Change)) (records : List Decoded) (changes : List Change) → are_commits_after definitions history records ≡ true
    → are_commits_after definitions history (records ++ Commit changes ∷ []) ≡ list_all (fits_latest definitions (history ++ commits_of records)) changes
commits-next definitions history [] changes are =
    and-true (list_all (fits_latest definitions history) changes) ∙ ap (λ commits. list_all (fits_latest definitions commits) changes) (sym (append-nil history))
commits-next definitions history (Definitions others ∷ records) changes are = cc
commits-next definitions history (Commit first ∷ records) changes are =
    let parts = and_parts (list_all (fits_latest definitions history) first) (are_commits_after definitions (history ++ first ∷ []) records) are in
    ap (λ b. b && are_commits_after definitions (history ++ first ∷ []) (records ++ Commit changes ∷ [])) parts.0
    ∙ commits-next definitions (history ++ first ∷ []) records changes parts.1
    ∙ ap (λ commits. list_all (fits_latest definitions commits) changes) (append_assoc history (first ∷ []) (commits_of records))

none-fits : (c : Change) (cs : List Change) → list_all (fits_latest [] []) (c ∷ cs) ≡ false
none-fits c cs = refl

pub can_replay-commit : (records : List Decoded) (changes : List Change) → can_replay records ≡ true → 1 ≤ length changes
    → can_replay (records ++ Commit changes ∷ []) ≡ list_all (fits_latest (unwrap_or (definitions_of records) []) (commits_of records)) changes
can_replay-commit [] [] replayable some = absurd (omega (arith, some))
can_replay-commit [] (c ∷ cs) replayable some = sym (none-fits c cs)
can_replay-commit (Definitions definitions ∷ records) changes replayable some =
    let kinds = and_parts (are_replayed definitions) (are_accepted_after [] definitions && are_commits_after definitions [] records) replayable in
    let parts = and_parts (are_accepted_after [] definitions) (are_commits_after definitions [] records) kinds.1 in
    ap₂ (λ (a b : Bool). a && (b && are_commits_after definitions [] (records ++ Commit changes ∷ []))) kinds.0 parts.0
    ∙ commits-next definitions [] records changes parts.1
can_replay-commit (Commit others ∷ records) changes replayable some = cc

-- ---- what a commit leaves

pub definitions_of-commit : (records : List Decoded) (changes : List Change) → definitions_of (records ++ Commit changes ∷ []) ≡ definitions_of records
definitions_of-commit [] changes = refl
definitions_of-commit (Definitions definitions ∷ records) changes = refl
definitions_of-commit (Commit others ∷ records) changes = refl

pub commits_of-commit : (records : List Decoded) (changes : List Change) → commits_of (records ++ Commit changes ∷ []) ≡ commits_of records ++ changes ∷ []
commits_of-commit [] changes = refl
commits_of-commit (Definitions definitions ∷ records) changes = commits_of-commit records changes
commits_of-commit (Commit others ∷ records) changes = ap (λ (rest : List (List Change)). others ∷ rest) (commits_of-commit records changes)

-- one more commit in the records is one more in the workspace
pub stood_by-commit : (records : List Decoded) (changes : List Change) (owners : Owners)
    → table_of (bodies_of (unwrap_or (definitions_of records) [])) (record (workspace_of records owners) { history = commits_of records ++ changes ∷ [] }) ≡ stood_by (records ++ Commit changes ∷ []) owners
stood_by-commit records changes owners =
    sym (ap₂ (λ (there : Option (List Def)) (history : List (List Change)).
    let w : Workspace = record { definitions = unwrap_or there []; history = history; owners = owners } in
    table_of (bodies_of (unwrap_or there [])) w) (definitions_of-commit records changes) (commits_of-commit records changes))

pub length-commits_of : (records : List Decoded) → length (commits_of records) ≤ length records
length-commits_of [] = omega arith
length-commits_of (Definitions definitions ∷ records) = omega (arith, length-commits_of records)
length-commits_of (Commit changes ∷ records) = omega (arith, length-commits_of records)

-- ---- replaying a commit

module _ (records : List Decoded) (catalogue : Option (List Def)) (table : Table) (leave : Leave records catalogue table) where
  -- what the shared state tests is what the records ask
  pub may-follow : (changes : List Change) → length records < 2 ^ 62 → 1 ≤ length changes → rise_from 0 changes ≡ true → may_follow table.definitions table.objects changes ≡ can_replay (records ++ Commit changes ∷ [])
  may-follow changes few some rising =
      let w = workspace_of records [] in
      let definitions = unwrap_or (definitions_of records) [] in
      let fit = refused-fits definitions (commits_of records) w refl refl changes rising in
      let low = none-worn definitions w (omega (arith, few, length-commits_of records)) changes in
      ap (λ (table : Table). may_follow table.definitions table.objects changes) leave.table_is
      ∙ ap₂ (λ (a b : Bool). a && b) fit low ∙ and-true (list_all (fits_latest definitions (commits_of records)) changes)
      ∙ sym (can_replay-commit records changes leave.replayable some)

  pub Leave-commit : (changes : List Change) (after : Table) → can_replay (records ++ Commit changes ∷ []) ≡ true
      → after ≡ table_of (bodies_of (unwrap_or (definitions_of records) [])) (followed_by (workspace_of records []) changes) → Leave (records ++ Commit changes ∷ []) catalogue after
  Leave-commit changes after replayable is = record {
    replayable = replayable;
    definitions_are = leave.definitions_are ∙ sym (definitions_of-commit records changes);
    table_is = is ∙ stood_by-commit records changes [];
  }

  pub Leave-defined : (definitions : List Def) (after : Table) → catalogue ≡ None → can_replay (records ++ Definitions definitions ∷ []) ≡ true
      → after ≡ table_of (bodies_of definitions) (opened definitions) → Leave (records ++ Definitions definitions ∷ []) (Some definitions) after
  Leave-defined definitions after none replayable is =
      let first : records ≡ [] = none-defined records leave.replayable (sym leave.definitions_are ∙ none) in
      let can = subst (λ them. can_replay (them ++ Definitions definitions ∷ []) ≡ true) first replayable in
      subst (λ them. Leave (them ++ Definitions definitions ∷ []) (Some definitions) after) (sym first) (record { replayable = can; definitions_are = refl; table_is = is })

  pub Taken-next : (r : Decoded) (bytes : List ℕ) (next : Option (List Def)) (after : Table) → IsStored r → bytes ≡ spelled r → Leave (records ++ r ∷ []) next after → Taken records bytes next after
  Taken-next r bytes next after fits spelling left = record {
    next = IsNext-spelled records r bytes fits spelling left.replayable;
    leave = subst (λ one. Leave (records ++ one ∷ []) next after) (sym (found r bytes fits.spelling spelling)) left;
  }

-- an answer is the test that it answers
pub answered : {E : Type 0} (result : Result Bool E) (test answer : Bool) → IfOk result (λ is. is ≡ test) → result ≡ Ok answer → test ≡ answer
answered (Ok is) test answer tested same = cc
answered (Err e) test answer tested same = cc
