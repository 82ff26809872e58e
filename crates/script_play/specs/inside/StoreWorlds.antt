-- The world that the program keeps: a store stands in it from the beginning, and is the shared state once it has definitions.
use Rattle.std.specs.Prelude.{◌≡◌, ◌++◌, ℕ, min, List, [], ◌∷◌, length, map, nat_lt, slice_index_or, Option, None, Some, is_none, unwrap_or, if◌then◌else◌}
use Rattle.std.specs.Option.{option_map}
use Rattle.aw_schema.specs.declared.definition.Def.{Def}
use Rattle.aw_codec.specs.declared.record.Decoded.{Decoded}
use Rattle.aw_store.specs.StoredRecords.{definitions_of}
use Rattle.aw_store.specs.Stores.{StoreState}
use Rattle.ses_report.specs.declared.refusal.Refusal.{Refusal}
use Rattle.ses_step.specs.declared.answer.Answer.TheVariants.{Refused}
use Rattle.ses_step.specs.Answers.{answer_of}
use Rattle.ses_step.specs.Words.{place_of}
use Rattle.ses_step.specs.declared.session.Known.{Known}
use Rattle.ses_step.specs.declared.session.Session.{Session}
use Rattle.ses_step.specs.Sessions.{new_session, resting, Sees}
use Rattle.script_world.specs.Worlds.{World, with_shared, Answered, silent, answered_so}
use Rattle.script_world.specs.Outcomes.{Attempt}
use Rattle.script_meaning.specs.DefinitionLines.{define, late}
use Rattle.script_meaning.specs.Fit.{AreDefinable}
use Rattle.script_meaning.specs.Language.{language, ObjectsWorld}
use Rattle.script_meaning.specs.StoreRuns.{store_disk}
use Rattle.script_play.specs.declared.world.StoreWorld.{StoreWorld}
use Rattle.script_play.specs.declared.response.Response.{Response}
use Rattle.script_play.specs.inside.Drafts.{Drafted, drafted_by}

-- the store, once it has definitions
abbrev pub open_store : {D : Type 0} → StoreState D → Option (StoreState D)
open_store {D} store = option_map (λ (definitions : List Def). store) (definitions_of store.records)

-- its definitions, which are none before
abbrev pub definitions_in : {D : Type 0} → StoreState D → List Def
definitions_in store = unwrap_or (definitions_of store.records) []

-- what the sessions know, none of which waits between two lines
abbrev pub known_by : List Session → List Known
known_by sessions = map (λ (session : Session). session.known) sessions

-- what a session knows by its number, named or not
abbrev pub own_known : {D : Type 0} → StoreWorld (StoreState D) → ℕ → Known
own_known w who = (slice_index_or w.sessions who (resting (new_session who))).known

-- the definitions are those that the script drafted, until the store has definitions
abbrev pub world_of : {D : Type 0} → StoreWorld (StoreState D) → World language (StoreState D)
world_of w = record {
  definitions = unwrap_or (definitions_of w.store.records) w.drafted;
  open_lines = w.open_lines;
  shared = open_store w.store;
  names = w.names;
  sessions = known_by w.sessions;
}

-- the same over the machine on a disk, in a run that wrote this record of definitions and made these attempts of commits
abbrev pub on_machine : {D : Type 0} → Option Decoded → List (Attempt Decoded) → StoreWorld (StoreState D) → ObjectsWorld
on_machine opened tried w = with_shared (store_disk opened tried) (world_of w)

-- nothing was attempted before there were definitions
abbrev pub IsMade : {D : Type 0} → Option Decoded → List (Attempt Decoded) → StoreState D → Type 0
IsMade opened tried store = definitions_of store.records ≡ None → (opened ≡ None) × (tried ≡ [])

-- each of these sessions sees these definitions
abbrev pub AllSee : List Def → List Session → Type 0
AllSee definitions [] = Unit {0}
AllSee definitions (session ∷ sessions) = Sees definitions session.known × AllSee definitions sessions

-- each session sees the store's definitions; while there are none, what was drafted can be written, and no session has appeared
pub record IsSound {D : Type 0} (w : StoreWorld (StoreState D)) : Type 0 where
  pub paired : length w.sessions ≡ min (length w.names) 64
  pub seen : AllSee (definitions_in w.store) w.sessions
  pub writable : definitions_of w.store.records ≡ None → AreDefinable w.drafted
  pub unnamed : definitions_of w.store.records ≡ None → w.names ≡ []
  pub no_sessions : definitions_of w.store.records ≡ None → w.sessions ≡ []

-- ---- responses

-- what a line is answered, which may be nothing
abbrev pub answered_by : {S : Type 0} → Option Response → World language S → Answered language S
answered_by None w = silent w
answered_by (Some response) w = answered_so response.prefix (answer_of response.answer) w

abbrev pub refusing_response : List ℕ → Refusal → Response
refusing_response prefix refusal = record { prefix = prefix; answer = Refused refusal }

-- ---- a definition

-- what its lines do: whatever they are, nothing after the definitions are closed
abbrev pub joined_by : {D : Type 0} → StoreWorld (StoreState D) → List (List ℕ) → Drafted
joined_by w lines =
    if is_none (definitions_of w.store.records) then drafted_by w.drafted (define w.drafted lines) else record { refusal = Some (late lines); drafted = w.drafted }

abbrev pub JoinsSo : {D : Type 0} → List (List ℕ) → Option Refusal → StoreWorld (StoreState D) → StoreWorld (StoreState D) → Type 0
JoinsSo lines refusal old new = (refusal ≡ (joined_by old lines).refusal) × (new ≡ record old { drafted = (joined_by old lines).drafted })

-- ---- a session's first line

-- the place of a session by first appearance of its name, or the next one
abbrev pub own_place : {D : Type 0} → StoreWorld (StoreState D) → List ℕ → ℕ
own_place w name = unwrap_or (place_of w.names name) (length w.names)

-- a name that hasn't appeared yet is kept, and makes a session where there's room
abbrev pub placed : {D : Type 0} → StoreWorld (StoreState D) → List ℕ → StoreWorld (StoreState D)
placed w name = record w {
  names = if nat_lt (own_place w name) (length w.names) then w.names else w.names ++ name ∷ [];
  sessions = if nat_lt (own_place w name) (length w.names) then w.sessions else (if nat_lt (length w.names) 64 then w.sessions ++ resting (new_session (length w.names)) ∷ [] else w.sessions);
}
