-- Lists of records: which can be replayed, and what they stand for.
use Rattle.std.specs.Prelude.{◌&&◌, ◌++◌, Bool, true, false, List, [], ◌∷◌, Option, None, Some, unwrap_or, ℕ, ◌≡◌, ◌⊎◌, ◌+◌, ◌≤◌, length, map, IsTrue, fold}
use Rattle.std.specs.List.{list_all}
use Rattle.std.specs.Option.{is_none}
use Rattle.aw_schema.specs.declared.definition.Def.{Def}
use Rattle.aw_schema.specs.declared.definition.DefKind.{DefKind}
use Rattle.aw_schema.specs.declared.definition.DefKind.TheVariants.{Dimension, Relation, Valueset, Variable, Formula, Program, Aggmap}
use Rattle.aw_schema.specs.Checking.{refusal}
use Rattle.aw_body.specs.declared.change.Change.{Change}
use Rattle.aw_body.specs.Generations.{latest_body}
use Rattle.aw_body.specs.KeptBodies.{bodies_of}
use Rattle.aw_body.specs.Owners.{Owners}
use Rattle.aw_codec.specs.declared.record.Decoded.{Decoded}
use Rattle.aw_codec.specs.declared.record.Decoded.TheVariants.{Definitions, Commit}
use Rattle.aw_codec.specs.Records.{spelled, IsRecord}
use Rattle.mv_core.specs.Workspace.{Workspace, Table, table_of}
use Rattle.aw_journal.specs.Format.{Holds, IsUnformatted, CutShort, frames}
use Rattle.aw_journal.specs.declared.fault.LoadFault.{LoadFault}
use Rattle.aw_journal.specs.declared.fault.LoadFault.TheVariants as load

-- ---- which definitions can be replayed

-- the kinds that can be: a FORMULA, a PROGRAM and an AGGMAP can't yet
abbrev pub is_replayed : DefKind → Bool
is_replayed Dimension = true
is_replayed (Relation target base) = true
is_replayed (Valueset dimension) = true
is_replayed (Variable kind dimensions) = true
is_replayed (Formula text) = false
is_replayed (Program text) = false
is_replayed (Aggmap text) = false

-- all of them are of such kinds
abbrev pub are_replayed : List Def → Bool
are_replayed definitions = list_all (λ (def : Def). is_replayed def.kind) definitions

-- each is accepted after those before it
abbrev pub are_accepted_after : List Def → List Def → Bool
are_accepted_after before [] = true
are_accepted_after before (def ∷ definitions) = is_none (refusal before def) && are_accepted_after (before ++ def ∷ []) definitions

-- ---- which commits can be replayed

-- a change of a kept object that fits its definition and its latest body after these commits
abbrev pub fits_latest : List Def → List (List Change) → Change → Bool
fits_latest definitions history change =
    (bodies_of definitions).fits (latest_body (bodies_of definitions) history change.object) change

-- records that are commits, each of which fits after those before it
abbrev pub are_commits_after : List Def → List (List Change) → List Decoded → Bool
are_commits_after definitions history [] = true
are_commits_after definitions history (Definitions others ∷ records) = false
are_commits_after definitions history (Commit changes ∷ records) =
    list_all (fits_latest definitions history) changes && are_commits_after definitions (history ++ changes ∷ []) records

-- ---- which lists can be replayed

-- the definitions come first and once; then come commits
abbrev pub can_replay : List Decoded → Bool
can_replay [] = true
can_replay (Definitions definitions ∷ records) =
    are_replayed definitions && (are_accepted_after [] definitions && are_commits_after definitions [] records)
can_replay (Commit changes ∷ records) = false

-- ---- what a list stands for

-- the definitions, or None where no record of them is there
abbrev pub definitions_of : List Decoded → Option (List Def)
definitions_of [] = None
definitions_of (Definitions definitions ∷ records) = Some definitions
definitions_of (Commit changes ∷ records) = None

-- the commits, the oldest first
abbrev pub commits_of : List Decoded → List (List Change)
commits_of [] = []
commits_of (Definitions definitions ∷ records) = commits_of records
commits_of (Commit changes ∷ records) = changes ∷ commits_of records

-- the workspace of these records, with these owners
abbrev pub workspace_of : List Decoded → Owners → Workspace
workspace_of records owners = record { definitions = unwrap_or (definitions_of records) []; history = commits_of records; owners = owners }

-- the objects as they then stand, each from its first generation on
abbrev pub stood_by : List Decoded → Owners → Table
stood_by records owners =
    table_of (bodies_of (unwrap_or (definitions_of records) [])) (workspace_of records owners)

-- ---- what an image holds, and what a crash may leave of a store

-- it has a spelling, of up to 67,108,864 bytes
pub record IsStored (r : Decoded) : Type 0 where
  pub spelling : IsRecord r
  pub short : length (spelled r) ≤ 67108864

-- each of them is so
abbrev pub AreRecords : List Decoded → Type 0
AreRecords [] = Unit {0}
AreRecords (r ∷ records) = IsStored r × AreRecords records

-- the image holds the spellings of these records, which can be replayed
pub record HoldsRecords (image : List ℕ) (records : List Decoded) : Type 0 where
  pub holds : Holds image (map spelled records)
  pub spellings : AreRecords records
  pub replayable : IsTrue (can_replay records)

-- the image holds some records
abbrev pub HoldsSomeRecords : List ℕ → Type 0
HoldsSomeRecords image = (records : List Decoded) × HoldsRecords image records

-- what a crash may leave: the settled records, and perhaps the one in doubt
abbrev pub LeftRecords : List Decoded → Option Decoded → List ℕ → Type 0
LeftRecords records None image = HoldsRecords image records
LeftRecords records (Some r) image = HoldsRecords image records ⊎ HoldsRecords image (records ++ r ∷ [])

-- Behind the gate at this offset stands a payload that is no record of up to 67,108,864 bytes, or with which the records
-- before it can't be replayed.
pub record IsBadRecord (image : List ℕ) (offset : ℕ) : Type 0 where
  pub before : List Decoded
  pub payload : List ℕ
  pub after : List (List ℕ)
  pub holds : Holds image (map spelled before ++ payload ∷ after)
  pub spellings : AreRecords before
  pub replayable : IsTrue (can_replay before)
  pub bad : (r : Decoded) → IsStored r → payload ≡ spelled r → can_replay (before ++ r ∷ []) ≡ false
  pub place : offset ≡ 8 + length (frames (map spelled before))

-- the image is cut short there, or has there the first payload that is bad
abbrev pub IsDamaged : List ℕ → ℕ → Type 0
IsDamaged image offset = CutShort image offset ⊎ IsBadRecord image offset

-- why an image gives no store, where its bytes are to blame
abbrev pub IsRefused : LoadFault → List ℕ → Type 0
IsRefused load.Unformatted image = IsUnformatted image
IsRefused (load.Damaged offset) image = IsDamaged image offset
IsRefused load.DiskFault image = Unit {0}
IsRefused load.NoMemory image = Unit {0}

-- the spelling of the last record, and no bytes where there is none
abbrev pub last_spelling : List Decoded → List ℕ
last_spelling records = fold (λ (bytes : List ℕ) (r : Decoded). spelled r) [] records

-- a store opens with these records
pub record CanBeOpened (records : List Decoded) : Type 0 where
  pub spellings : AreRecords records
  pub replayable : IsTrue (can_replay records)
