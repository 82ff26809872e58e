-- A command of a session by itself, for laws on single commands.
use Rattle.std.specs.Prelude.{◌≡◌, ◌<◌, ℕ, List, [], Option, None, Some, slice_set}
use Rattle.aw_schema.specs.declared.definition.Def.{Def}
use Rattle.mv_core.specs.declared.entry.Reply.{Reply}
use Rattle.ses_report.specs.declared.refusal.Refusal.{Refusal}
use Rattle.ses_step.specs.declared.command.Asked.{Asked}
use Rattle.ses_step.specs.declared.command.Asked.TheVariants.{Runs, Refused}
use Rattle.ses_step.specs.declared.command.Command.{Command}
use Rattle.ses_step.specs.declared.answer.Answer.{Answer}
use Rattle.ses_step.specs.declared.session.Begun.{Begun}
use Rattle.ses_step.specs.declared.session.Begun.TheVariants.{Said, Ask}
use Rattle.ses_step.specs.declared.session.Known.{Known as Session}
use Rattle.ses_step.specs.declared.session.Session.{Session as Waiting}
use Rattle.ses_step.specs.declared.line.LineForm.TheVariants as form
use Rattle.ses_step.specs.Answers.{answer_of}
use Rattle.ses_step.specs.Lines.{line_form}
use Rattle.ses_step.specs.SessionLines.{asked, line_begun}
use Rattle.ses_step.specs.Sessions.{begun, kept_waiting, finished}
use Rattle.script_world.specs.Worlds.{Machine, World, Event, line, Answered, name_at, answered_so, refused_so, session_place, with_session, with_own, own_session, session_of, shared_of, closed, answered}
use Rattle.script_world.specs.Outcomes.{Outcome}
use Rattle.script_meaning.specs.Language.{language, Written, HistoryWorld, by_history}

-- the answer, and the session and the shared state after it
pub record Turn (S : Type 0) : Type 0 where
  pub answer : Answer
  pub session : Session
  pub shared : S

module _ {S : Type 0} (machine : Machine language S) where
  abbrev pub replied : List Def → List (List ℕ) → Waiting → Reply × S → Turn S
  replied definitions names waiting r =
      let f = finished definitions names waiting r.0 in
      record { answer = f.0; session = f.1; shared = r.1 }

  -- the session answers, or asks the shared state and answers by its reply
  abbrev pub turn_from : List Def → List (List ℕ) → S → Begun × Waiting → Turn S
  turn_from definitions names shared (Said answer, session) = record { answer = answer; session = session.known; shared = shared }
  turn_from definitions names shared (Ask entry, waiting) = replied definitions names waiting (machine.step shared entry)

  abbrev pub turn : List Def → List (List ℕ) → S → Session → Command → Turn S
  turn definitions names shared session own = turn_from definitions names shared (kept_waiting own (begun definitions session own))

-- ---- a line

module _ {S : Type 0} (machine : Machine language S) where
  -- a line that is refused has a turn too, which leaves the session and the shared state
  abbrev pub line_turn : List Def → List (List ℕ) → S → Session → Written → Turn S
  line_turn definitions names shared session written =
      turn_from machine definitions names shared (line_begun definitions session written.line written.from)

-- ---- what a line asks for

module _ {S : Type 0} (w : World language S) where
  abbrev pub asked_under : Option (ℕ × Written) → Option (ℕ × Asked)
  asked_under (Some (place, written)) = Some (place, asked w.definitions (own_session w place) written.line written.from)
  asked_under None = None

  -- the session that an event is of, by its number, and the command that its line asks for or why it is refused
  abbrev pub asked_of : Event → Option (ℕ × Asked)
  asked_of event = asked_under (session_of w event)

-- ---- a session's line is answered by a turn of this session, or refused and leaves it

-- the world after a turn, and what is written of it
abbrev pub with_turn : {S : Type 0} → World language S → ℕ → Turn S → Answered language S
with_turn w who t =
    answered_so (name_at w.names who) (answer_of t.answer) (record w { shared = Some t.shared; sessions = slice_set w.sessions who t.session })

-- what a line of the session at this place, in this world, is answered
pub record TakesTurn (coming : List Outcome) (w here : HistoryWorld) (text : List ℕ) (from who : ℕ) : Type 0 where
  pub runs : (own : Command) → asked here.definitions (own_session here who) text from ≡ Runs own → answered (by_history coming) w (line text) ≡ with_turn here who (turn (by_history coming) here.definitions here.names (shared_of (by_history coming).opens w) (own_session here who) own)
  pub refused : (refusal : Refusal) → asked here.definitions (own_session here who) text from ≡ Refused refusal → answered (by_history coming) w (line text) ≡ refused_so (name_at here.names who) refusal (with_own here who (own_session here who))

-- of one of the first 64 sessions, where no definition is open, in the world in which the definitions are closed and the session
-- is there
abbrev pub LinesTakeTurns : List Outcome → HistoryWorld → Type 0
LinesTakeTurns coming w =
    (text name : List ℕ) (from : ℕ) → w.open_lines ≡ [] → line_form text ≡ form.Session name from → session_place w name < 64 →
    TakesTurn coming w (with_session (closed (by_history coming).opens w) name) text from (session_place w name)
