-- A session's line is answered by a turn of this session, or refused and leaves it.
use Rattle.std.specs.Prelude.{◌≡◌, ℕ, Bool, List, length, Option, Some, nat_lt, slice_set, unwrap_or, if◌then◌else◌, refl}
use Rattle.std.proofs.Common.{◌∙◌, ap}
use Rattle.std.proofs.lemmas.Bool.{lt-ltb}
use Rattle.ses_step.specs.declared.command.Asked.{Asked}
use Rattle.ses_step.specs.declared.command.Asked.TheVariants.{Runs, Refused}
use Rattle.ses_step.specs.declared.command.Command.{Command}
use Rattle.ses_step.specs.declared.line.LineForm.{LineForm}
use Rattle.ses_step.specs.declared.session.Begun.{Begun}
use Rattle.ses_step.specs.declared.session.Begun.TheVariants.{Said, Ask}
use Rattle.ses_step.specs.declared.session.Session.{Session as Waiting}
use Rattle.ses_step.specs.Answers.{answer_of}
use Rattle.ses_step.specs.SessionLines.{asked, line_begun}
use Rattle.ses_step.specs.Sessions.{begun, kept_waiting}
use Rattle.script_world.specs.Worlds.{World, Machine, line, answers, answered, name_at, answered_so, session_place, with_name, with_session, own_session, begun_so, commanded, crowded_out, shared_of, closed, form_planned, settled}
use Rattle.script_world.specs.Outcomes.{Outcome}
use Rattle.script_world.proofs.callers.Moves.{if-holds}
use Rattle.script_meaning.specs.Language.{language, Written, form_of, form, begun_of, begin_asked, HistoryDisk, HistoryWorld, by_history}
use Rattle.script_meaning.specs.Turns.{with_turn, LinesTakeTurns, turn_from, turn, line_turn}

module _ {S : Type 0} (machine : Machine language S) (w : World language S) (who : ℕ) (shared : S) (is_open : w.shared ≡ Some shared) where
  -- whatever a session begins
  begun-turn : (b : Begun × Waiting) → settled machine (begun_so w shared who (begun_of b)) ≡ with_turn w who (turn_from machine w.definitions w.names shared b)
  begun-turn b = by_begun b.0 b.1
    where
      by_begun : (first : Begun) (session : Waiting) → settled machine (begun_so w shared who (begun_of (first, session))) ≡ with_turn w who (turn_from machine w.definitions w.names shared (first, session))
      by_begun (Said answer) session =
          ap (λ those. let it : World language S = record w { shared = those; sessions = slice_set w.sessions who session.known } in answered_so (name_at w.names who) (answer_of answer) it) is_open
      by_begun (Ask entry) session = refl

  pub commanded-turn : (own : Command) → settled machine (begun_so w shared who (begun_of (kept_waiting own (begun w.definitions (own_session w who) own)))) ≡ with_turn w who (turn machine w.definitions w.names shared (own_session w who) own)
  commanded-turn own = begun-turn (kept_waiting own (begun w.definitions (own_session w who) own))

  pub line-turn : (written : Written) → settled machine (commanded w shared who written) ≡ with_turn w who (line_turn machine w.definitions w.names shared (own_session w who) written)
  line-turn written = begun-turn (line_begun w.definitions (own_session w who) written.line written.from)

pub lines_take_turns : (coming : List Outcome) (w : HistoryWorld) → LinesTakeTurns coming w
lines_take_turns coming w text name from whole is room = record {
  runs = λ own asks. begins ∙ by_asked (Runs own) asks ∙ commanded-turn machine here who disk is_open own;
  refused = λ refusal asks. begins ∙ by_asked (Refused refusal) asks;
}
  where
    machine : Machine language HistoryDisk
    machine = by_history coming

    who : ℕ
    who = session_place w name

    open_world : HistoryWorld
    open_world = closed machine.opens w

    here : HistoryWorld
    here = with_session open_world name

    disk : HistoryDisk
    disk = shared_of machine.opens w

    written : Written
    written = record { line = text; from = from }

    is_open : here.shared ≡ Some disk
    is_open =
        if-holds (λ (those : HistoryWorld). those.shared ≡ Some disk) (nat_lt who (length w.names)) open_world (with_name open_world name) refl refl

    same : shared_of machine.opens here ≡ disk
    same = ap (λ (shared : Option HistoryDisk). unwrap_or shared (machine.opens here.definitions)) is_open

    begins : answered machine w (line text) ≡ settled machine (commanded here disk who written)
    begins =
        ap (λ (lines : List (List ℕ)). settled machine (form_planned machine.opens w text (form lines text))) whole
        ∙ ap (λ (l : LineForm). settled machine (form_planned machine.opens w text (form_of text l))) is
        ∙ ap (λ (test : Bool). settled machine (if test then commanded here (shared_of machine.opens here) who written else answers (crowded_out here who))) (lt-ltb who 64 room)
        ∙ ap (λ disk. settled machine (commanded here disk who written)) same

    by_asked : (a : Asked) → asked here.definitions (own_session here who) text from ≡ a → settled machine (commanded here disk who written) ≡ settled machine (begun_so here disk who (begin_asked here.definitions (own_session here who) a))
    by_asked a asks = ap (λ (it : Asked). settled machine (begun_so here disk who (begin_asked here.definitions (own_session here who) it))) asks
