-- The world of a run over any meaning, and what an event of the script is answered in it and makes of it.
use Rattle.std.specs.Prelude.{◌||◌, ◌+◌, ℕ, Bool, false, List, [], ◌∷◌, ◌++◌, map, length, nat_lt, Option, Some, None, Result, Ok, Err, is_some, unwrap_or, position, if◌then◌else◌, slice_index_or, slice_set, ◌≡◌, ◌⊎◌, true, IsSome, slice_get}
use Rattle.std.specs.Option.{option_map}
use Rattle.aw_cell.specs.Names.{same_word}
use Rattle.ses_report.specs.declared.refusal.Refusal.{Refusal}
use Rattle.ses_report.specs.Reports.{Answer, answer_text}
use Rattle.script_world.specs.Script.{ended_lines, script_lines}
use Rattle.script_world.specs.Meaning.{Begun, said, ask, Form, nothing, malformed, joins, ends, under, Meaning}

-- the definitions; the lines of an open one; the shared state once the definitions are closed; all names of sessions by
-- first appearance; the sessions of the first 64 names
pub record World (m : Meaning) (S : Type 0) : Type 0 where
  pub definitions : m.Definitions
  pub open_lines : List (List ℕ)
  pub shared : Option S
  pub names : List (List ℕ)
  pub sessions : List m.Session

-- the world with another shared state in its place
abbrev pub with_shared : {m : Meaning} {S T : Type 0} → (S → T) → World m S → World m T
with_shared f w =
    record { definitions = w.definitions; open_lines = w.open_lines; shared = option_map f w.shared; names = w.names; sessions = w.sessions }

-- the shared state of a world, by how it begins and how it answers an entry
pub record Machine (m : Meaning) (S : Type 0) : Type 0 where
  pub opens : m.Definitions → S
  pub step : S → m.Entry → m.Reply × S

-- a line of the script; the script is at its end, in or behind a definition; and is at its end
pub data Event : Type 0 where
  line : List ℕ → Event
  block_ends : Event
  script_ends : Event

-- what an event is answered, if anything; what is written; the world after it
pub record Answered (m : Meaning) (S : Type 0) : Type 0 where
  pub answer : Option Answer
  pub text : List ℕ
  pub world : World m S

-- an event is answered, or it's a session's entry: in this world, whose shared state is this, of the session of this
-- number, which waits so
pub data Planned (m : Meaning) (S : Type 0) : Type 0 where
  answers : Answered m S → Planned m S
  asks : World m S → S → ℕ → m.Waiting → m.Entry → Planned m S

-- the prefix of a line that is of no session
abbrev pub no_session : List ℕ
no_session = 42 ∷ []

abbrev pub name_at : List (List ℕ) → ℕ → List ℕ
name_at names at = slice_index_or names at []

abbrev pub is_refused : Option Answer → Bool
is_refused None = false
is_refused (Some answer) = is_some answer.refusal

-- the place of a name by first appearance, or the next one
abbrev pub place_among : List (List ℕ) → List ℕ → ℕ
place_among names name = unwrap_or (position (same_word name) names) (length names)

-- the sessions of the first 64 names, before any line
abbrev pub first_sessions : (m : Meaning) → ℕ → List (List ℕ) → List m.Session
first_sessions m at [] = []
first_sessions m at (name ∷ names) = if nat_lt at 64 then m.new_session at ∷ first_sessions m (at + 1) names else []

module _ {m : Meaning} {S : Type 0} where
  abbrev pub silent : World m S → Answered m S
  silent w = record { answer = None; text = []; world = w }

  abbrev pub answered_so : List ℕ → Answer → World m S → Answered m S
  answered_so prefix answer w = record { answer = Some answer; text = answer_text prefix answer; world = w }

  abbrev pub refused_so : List ℕ → Refusal → World m S → Answered m S
  refused_so prefix refusal w = answered_so prefix (record { output = []; refusal = Some refusal }) w

  -- ---- definitions

  abbrev pub with_lines : World m S → List (List ℕ) → World m S
  with_lines w lines = record w { open_lines = lines }

  abbrev pub with_definitions : World m S → m.Definitions → World m S
  with_definitions w definitions = record w { definitions = definitions; open_lines = [] }

  abbrev pub defined_so : World m S → Result m.Definitions Refusal → Answered m S
  defined_so w (Ok definitions) = silent (with_definitions w definitions)
  defined_so w (Err refusal) = refused_so no_session refusal (with_lines w [])

  -- a definition stands before the first session's line
  abbrev pub defined_before : World m S → Option S → List (List ℕ) → Answered m S
  defined_before w None lines = defined_so w (m.define w.definitions lines)
  defined_before w (Some shared) lines = refused_so no_session (m.late lines) (with_lines w [])

  abbrev pub defined : World m S → List (List ℕ) → Answered m S
  defined w lines = defined_before w w.shared lines

  -- a definition that the script leaves open
  abbrev pub block_ended : World m S → List (List ℕ) → Answered m S
  block_ended w [] = silent w
  block_ended w (text ∷ lines) = defined w (text ∷ lines)

  -- ---- sessions

  abbrev pub session_place : World m S → List ℕ → ℕ
  session_place w name = place_among w.names name

  -- the number of the session that an event is of, and its statement
  abbrev pub session_in : World m S → Form m.Statement → Option (ℕ × m.Statement)
  session_in w (under name statement) = Some (session_place w name, statement)
  session_in w _ = None

  abbrev pub session_of : World m S → Event → Option (ℕ × m.Statement)
  session_of w (line text) = session_in w (m.form w.open_lines text)
  session_of w _ = None

  -- a name that hasn't appeared yet is kept, and makes a session where there's room
  abbrev pub with_name : World m S → List ℕ → World m S
  with_name w name = record w {
    names = w.names ++ name ∷ [];
    sessions = if nat_lt (length w.names) 64 then w.sessions ++ m.new_session (length w.names) ∷ [] else w.sessions;
  }

  abbrev pub with_session : World m S → List ℕ → World m S
  with_session w name = if nat_lt (session_place w name) (length w.names) then w else with_name w name

  abbrev pub with_own : World m S → ℕ → m.Session → World m S
  with_own w who session = record w { sessions = slice_set w.sessions who session }

  abbrev pub own_session : World m S → ℕ → m.Session
  own_session w who = slice_index_or w.sessions who (m.new_session who)

  abbrev pub begun_so : World m S → S → ℕ → Begun m.Entry m.Session m.Waiting → Planned m S
  begun_so w shared who (said answer session) = answers (answered_so (name_at w.names who) answer (with_own w who session))
  begun_so w shared who (ask entry waiting) = asks w shared who waiting entry

  abbrev pub commanded : World m S → S → ℕ → m.Statement → Planned m S
  commanded w shared who statement = begun_so w shared who (m.begin w.definitions (own_session w who) statement)

  -- a run has at most 64 sessions
  abbrev pub crowded_out : World m S → ℕ → Answered m S
  crowded_out w who = refused_so (m.crowded_prefix (name_at w.names who)) m.crowded w

  -- ---- an event, for a shared state that opens so
  module _ (opens : m.Definitions → S) where
    abbrev pub shared_of : World m S → S
    shared_of w = unwrap_or w.shared (opens w.definitions)

    abbrev pub closed : World m S → World m S
    closed w = record w { shared = Some (shared_of w) }

    abbrev pub session_planned : World m S → ℕ → m.Statement → Planned m S
    session_planned w who statement =
        if nat_lt who 64 then commanded w (shared_of w) who statement else answers (crowded_out w who)

    abbrev pub form_planned : World m S → List ℕ → Form m.Statement → Planned m S
    form_planned w text nothing = answers (silent w)
    form_planned w text (malformed refusal) = answers (refused_so no_session refusal (with_lines w []))
    form_planned w text joins = answers (silent (with_lines w (w.open_lines ++ text ∷ [])))
    form_planned w text ends = answers (defined w (w.open_lines ++ text ∷ []))
    form_planned w text (under name statement) = session_planned (with_session (closed w) name) (session_place w name) statement

    -- the definitions are closed at the end, where there are any
    abbrev pub script_ended : World m S → Answered m S
    script_ended w = silent (if m.is_any w.definitions then closed w else w)

    abbrev pub planned : World m S → Event → Planned m S
    planned w (line text) = form_planned w text (m.form w.open_lines text)
    planned w block_ends = answers (block_ended w w.open_lines)
    planned w script_ends = answers (script_ended w)

  -- ---- the step
  abbrev pub turned : World m S → ℕ → m.Waiting → m.Reply × S → Answered m S
  turned w who waiting r =
      let f = m.finish w.definitions w.names waiting r.0 in
      answered_so (name_at w.names who) f.0 (record w { shared = Some r.1; sessions = slice_set w.sessions who f.1 })

  module _ (machine : Machine m S) where
    abbrev pub settled : Planned m S → Answered m S
    settled (answers a) = a
    settled (asks w shared who waiting entry) = turned w who waiting (machine.step shared entry)

    abbrev pub answered : World m S → Event → Answered m S
    answered w event = settled (planned machine.opens w event)

    -- ---- events

    abbrev pub text_of : World m S → List Event → List ℕ
    text_of w [] = []
    text_of w (event ∷ events) = (answered w event).text ++ text_of (answered w event).world events

    abbrev pub world_after : World m S → List Event → World m S
    world_after w [] = w
    world_after w (event ∷ events) = world_after (answered w event).world events

    abbrev pub any_refused : World m S → List Event → Bool
    any_refused w [] = false
    any_refused w (event ∷ events) = is_refused (answered w event).answer || any_refused (answered w event).world events

-- ---- the events of a script

-- those of the lines that ended
abbrev pub ended_events : List ℕ → List Event
ended_events bytes = map line (ended_lines bytes)

-- those of a whole script
abbrev pub last_events : List Event
last_events = block_ends ∷ script_ends ∷ []

abbrev pub script_events : List ℕ → List Event
script_events bytes = map line (script_lines bytes) ++ last_events

-- ---- what is answered, and which events close the definitions
-- the answers to these events, in order
abbrev pub answers_of : {m : Meaning} {S : Type 0} → Machine m S → World m S → List Event → List (Option Answer)
answers_of machine w [] = []
answers_of machine w (event ∷ events) =
    (answered machine w event).answer ∷ answers_of machine (answered machine w event).world events

-- none of these answers has a refusal
abbrev pub NoneRefused : List (Option Answer) → Type 0
NoneRefused replies = (at : ℕ) (answer : Answer) → slice_get replies at ≡ Some (Some answer) → answer.refusal ≡ None

-- one of them has
pub record SomeRefused (replies : List (Option Answer)) : Type 0 where
  pub at : ℕ
  pub answer : Answer
  pub refusal : Refusal
  pub is : slice_get replies at ≡ Some (Some answer)
  pub refuses : answer.refusal ≡ Some refusal

-- an event closes the definitions: a session's line, or the end of a script with any
abbrev pub Closes : {m : Meaning} {S : Type 0} → World m S → Event → Type 0
Closes {m} w event = IsSome (session_of w event) ⊎ ((event ≡ script_ends) × (m.is_any w.definitions ≡ true))
