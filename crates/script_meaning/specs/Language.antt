-- The lines of a script as a meaning: definitions of one line and blocks, and sessions' lines.
use Rattle.std.specs.Prelude.{◌&&◌, ℕ, Bool, true, false, List, [], ◌∷◌, length, min, nat_lt, Some, None, if◌then◌else◌}
use Rattle.aw_schema.specs.declared.definition.Def.{Def}
use Rattle.aw_body.specs.KeptBodies.{bodies_of}
use Rattle.aw_codec.specs.declared.record.Decoded.{Decoded}
use Rattle.aw_codec.specs.declared.record.Decoded.TheVariants as stored
use Rattle.aw_codec.specs.Records.{spelled}
use Rattle.mv_core.specs.declared.entry.Entry.{Entry}
use Rattle.mv_core.specs.declared.entry.Reply.{Reply}
use Rattle.mv_core.specs.declared.entry.Reply.TheVariants.{TooLarge, Fault}
use Rattle.mv_core.specs.SharedStep.{writes, shared_step, table_step}
use Rattle.mv_core.specs.Workspace.{Workspace, Table, opened, table_of}
use Rattle.aw_store.specs.Stores.{record_of}
use Rattle.ses_report.specs.Refusals.{too_many_sessions}
use Rattle.ses_report.specs.Reports as report
use Rattle.ses_step.specs.declared.line.LineForm.{LineForm}
use Rattle.ses_step.specs.declared.line.LineForm.TheVariants as line
use Rattle.ses_step.specs.declared.command.Asked.{Asked}
use Rattle.ses_step.specs.declared.session.Begun.{Begun}
use Rattle.ses_step.specs.declared.session.Begun.TheVariants.{Said, Ask}
use Rattle.ses_step.specs.declared.session.Known.{Known as Session}
use Rattle.ses_step.specs.declared.session.Session.{Session as Waiting}
use Rattle.ses_step.specs.Lines.{opens_block, is_end, line_form}
use Rattle.ses_step.specs.Answers.{answer_of}
use Rattle.ses_step.specs.SessionLines.{asked, begun_as}
use Rattle.ses_step.specs.Sessions.{new_session, finished}
use Rattle.script_world.specs.Meaning as world
use Rattle.script_world.specs.Worlds.{World, Machine}
use Rattle.script_world.specs.Outcomes.{Outcome, OnDisk, Writing, by_list}
use Rattle.script_meaning.specs.DefinitionLines.{define, late}

-- ---- a line

-- a session's line, and the place in it from which its statement stands
pub record Written : Type 0 where
  pub line : List ℕ
  pub from : ℕ

abbrev pub written : List ℕ → ℕ → Written
written line from = record { line = line; from = from }

-- a definition is one line, or a block
abbrev pub form_of : List ℕ → LineForm → world.Form Written
form_of text line.Blank = world.nothing
form_of text line.Definition = if opens_block text then world.joins else world.ends
form_of text (line.Session name from) = world.under name (written text from)
form_of text (line.Bad refusal) = world.malformed refusal

-- a block goes on to the first line that is only END, whatever its lines are
abbrev pub block_form : List ℕ → world.Form Written
block_form text = if is_end text then world.ends else world.joins

abbrev pub form : List (List ℕ) → List ℕ → world.Form Written
form [] text = form_of text (line_form text)
form (first ∷ lines) text = block_form text

abbrev pub is_any : List Def → Bool
is_any [] = false
is_any (def ∷ definitions) = true

-- ---- a session's line

-- a session that waits keeps the command by which it asked
abbrev pub begun_of : Begun × Waiting → world.Begun Entry Session Waiting
begun_of (Said answer, session) = world.said (answer_of answer) session.known
begun_of (Ask entry, waiting) = world.ask entry waiting

-- what is asked, as a session begins it
abbrev pub begin_asked : List Def → Session → Asked → world.Begun Entry Session Waiting
begin_asked definitions s it = begun_of (begun_as definitions s it)

abbrev pub begin : List Def → Session → Written → world.Begun Entry Session Waiting
begin definitions s written = begin_asked definitions s (asked definitions s written.line written.from)

abbrev pub finish : List Def → List (List ℕ) → Waiting → Reply → report.Answer × Session
finish definitions names waiting reply =
    let f = finished definitions names waiting reply in
    (answer_of f.0, f.1)

abbrev pub language : world.Meaning
language = record {
  Definitions = List Def;
  Session = Session;
  Waiting = Waiting;
  Statement = Written;
  Entry = Entry;
  Reply = Reply;
  form = form;
  define = define;
  none_defined = [];
  is_any = is_any;
  new_session = new_session;
  begin = begin;
  finish = finish;
  late = late;
  crowded = too_many_sessions;
  crowded_prefix = λ name. name;
}

-- ---- the shared state, and its records

-- a record of the definitions, and one of each commit with changes that is granted
abbrev pub store_writing : Writing language Decoded
store_writing = record {
  of_definitions = λ definitions. stored.Definitions definitions;
  of_step = λ entry reply. if writes entry reply then Some (record_of entry) else None;
  fault = Fault;
}

-- how many bytes a record has
abbrev pub bytes_of : Decoded → ℕ
bytes_of attempted = length (spelled attempted)

-- the commit is granted, but its record would have more than 67,108,864 bytes
abbrev pub is_cut_off : Entry → Reply → Bool
is_cut_off entry reply = writes entry reply && nat_lt 67108864 (bytes_of (record_of entry))

-- such a commit leaves the state as it was, and is answered how many bytes its record would have
abbrev pub cut_off : {S : Type 0} → S → Entry → Reply × S → Reply × S
cut_off state entry r =
    if is_cut_off entry r.0
    then (TooLarge (min (bytes_of (record_of entry)) 18446744073709551615), state)
    else r

-- the definitions, the commits and the owners, from which the generations follow
abbrev pub kept_step : Workspace → Entry → Reply × Workspace
kept_step w entry = cut_off w entry (shared_step (bodies_of w.definitions) w entry)

abbrev pub history_machine : Machine language Workspace
history_machine = record { opens = opened; step = kept_step }

-- each object as it stands
abbrev pub standing_step : Table → Entry → Reply × Table
standing_step table entry = cut_off table entry (table_step table entry)

abbrev pub objects_machine : Machine language Table
objects_machine = record { opens = λ definitions. table_of (bodies_of definitions) (opened definitions); step = standing_step }

abbrev pub HistoryDisk : Type 0
HistoryDisk = OnDisk Decoded Workspace

abbrev pub ObjectsDisk : Type 0
ObjectsDisk = OnDisk Decoded Table

abbrev pub HistoryWorld : Type 0
HistoryWorld = World language HistoryDisk

abbrev pub ObjectsWorld : Type 0
ObjectsWorld = World language ObjectsDisk

abbrev pub by_history : List Outcome → Machine language HistoryDisk
by_history coming = by_list store_writing history_machine coming

abbrev pub by_objects : List Outcome → Machine language ObjectsDisk
by_objects coming = by_list store_writing objects_machine coming
