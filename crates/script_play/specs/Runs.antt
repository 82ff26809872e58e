-- A run of the program: the words of the command line, the statuses, and how `play` ends: what it took of the script, what
-- it wrote, and what it left on the disk.
use Rattle.std.specs.Prelude.{◌≡◌, ◌≤◌, ◌<◌, ◌+◌, ◌++◌, ◌⊎◌, ◌↔◌, ◌∷◌, ℕ, suc, min, Bool, true, false, List, [], length, take, Option, None, IfSome, IsSome, codes, if◌then◌else◌, Some}
use Rattle.std.specs.Io.KnownBytes.{IsAtEnd}
use Rattle.std.specs.List.{count_by}
use Rattle.std.specs.Str.{bytes_eq}
use Rattle.aw_lists.specs.Faults.{Rose}
use Rattle.aw_io.specs.Known.{Gives, Grows}
use Rattle.aw_feed.specs.Listener.{Note}
use Rattle.aw_feed.specs.Feed.{Listening, HaveHeard}
use Rattle.aw_codec.specs.Records.{spelled}
use Rattle.aw_codec.specs.declared.record.Decoded.{Decoded}
use Rattle.aw_codec.specs.declared.record.Decoded.TheVariants.{Definitions}
use Rattle.aw_store.specs.StoredRecords.{HoldsRecords, CanBeOpened}
use Rattle.ses_report.specs.Reports.{Answer}
use Rattle.script_world.specs.Worlds.{answers_of, NoneRefused, SomeRefused, Closes, World, Machine, Event, answered, text_of, ended_events, script_events}
use Rattle.script_world.specs.Outcomes.{Outcome, faulted, Attempt, done_records, has_faulted, AreDone}
use Rattle.script_world.specs.Meaning.{Meaning}
use Rattle.script_meaning.specs.Transcript.{HoldsLeft, Rise, ended_by, SameRecords, opening, world_at, attempts, transcript, has_refusal, ended_transcript}
use Rattle.script_meaning.specs.Language.{by_history}
use Rattle.script_disk.specs.declared.opening.Unopened.{Unopened}
use Rattle.script_disk.specs.WhyUnopened.{IsUnopened, AreFormatted, ExplainsContent, status_of as unopened_status}
use Rattle.script_play.specs.declared.ending.Ending.{Ending}
use Rattle.script_play.specs.declared.ending.Ending.TheVariants.{Accepted, Refusing, SourceFault, SinkFault, DiskFault, NoMemory, TooLong}
use Rattle.script_play.specs.declared.command_line.Subcommand.{Subcommand}
use Rattle.script_play.specs.declared.command_line.Subcommand.TheVariants.{Play, New, Dump, Other}
use Rattle.aw_schema.specs.declared.definition.Def.{Def}

-- ---- the command line

-- the one word is this one
abbrev pub is_word : List ℕ → List (List ℕ) → Bool
is_word wanted (word ∷ []) = bytes_eq word wanted
is_word wanted _ = false

-- what the words ask for
abbrev pub subcommand_of : List (List ℕ) → Subcommand
subcommand_of words =
    if is_word (codes "play") words then Play else if is_word (codes "new") words then New else if is_word (codes "dump") words then Dump else Other

abbrev pub usage : List ℕ
usage = codes "usage: play, new, dump, make N" ++ 10 ∷ []

-- ---- the statuses

-- how many bytes a script may have
abbrev pub most_bytes : ℕ
most_bytes = 67108864

abbrev pub status_of : Ending → ℕ
status_of Accepted = 0
status_of Refusing = 1
status_of SourceFault = 3
status_of SinkFault = 4
status_of DiskFault = 5
status_of NoMemory = 6
status_of TooLong = 10

-- ---- a run

-- what the source had left and has now, and what the sink held and holds now, each where it tells
pub record Streams : Type 0 where
  pub left_before : Option (List ℕ)
  pub left_now : Option (List ℕ)
  pub written_before : Option (List ℕ)
  pub written_now : Option (List ℕ)

abbrev pub streams : Option (List ℕ) → Option (List ℕ) → Option (List ℕ) → Option (List ℕ) → Streams
streams left_before left_now written_before written_now =
    record { left_before = left_before; left_now = left_now; written_before = written_before; written_now = written_now }

-- how often the source and the sink had failed, and have
pub record StreamFaults : Type 0 where
  pub source_before : ℕ
  pub source_now : ℕ
  pub sink_before : ℕ
  pub sink_now : ℕ

-- A run by what was before it and is after it: the source and the sink; what the disk tells of its content, how often it had
-- failed, the moment, and what a crash leaves at each moment; and what each listener tells of itself.
pub record Run : Type 1 where
  pub streams : Streams
  pub stream_faults : StreamFaults
  pub content_before : Option (List ℕ)
  pub content_now : Option (List ℕ)
  pub faults_before : ℕ
  pub faults_now : ℕ
  pub clock_before : ℕ
  pub clock_now : ℕ
  pub crash_before : ℕ → List ℕ → Type 0
  pub crash_now : ℕ → List ℕ → Type 0
  pub heard_before : List Listening
  pub heard_now : List Listening

-- the run on a disk that was so and is so, with these listeners
module _ {D : Type 0} (content : D → Option (List ℕ)) (faults clock : D → ℕ) (crash : D → ℕ → List ℕ → Type 0) where
  abbrev pub run_on : Streams → StreamFaults → D → D → List Listening → List Listening → Run
  run_on streams stream_faults old new heard heard_now = record {
    streams = streams;
    stream_faults = stream_faults;
    content_before = content old;
    content_now = content new;
    faults_before = faults old;
    faults_now = faults new;
    clock_before = clock old;
    clock_now = clock new;
    crash_before = crash old;
    crash_now = crash new;
    heard_before = heard;
    heard_now = heard_now;
  }

-- the run of these devices, with these listeners
module _ {S K D : Type 0} (left : S → Option (List ℕ)) (source_faults : S → ℕ) (written : K → Option (List ℕ)) (sink_faults : K → ℕ)
    (content : D → Option (List ℕ)) (faults clock : D → ℕ) (crash : D → ℕ → List ℕ → Type 0) where
  abbrev pub run_of : S → S → K → K → D → D → List Listening → List Listening → Run
  run_of script script_now out out_now disk disk_now heard heard_now =
      run_on content faults clock crash
      (streams (left script) (left script_now) (written out) (written out_now))
      (record { source_before = source_faults script; source_now = source_faults script_now; sink_before = sink_faults out; sink_now = sink_faults out_now })
      disk disk_now heard heard_now

-- ---- what is written of a run that is cut off: all that some events were answered, and a front of what one more was answered

-- these events, and perhaps one more
abbrev pub with_last : List Event → Option Event → List Event
with_last events None = events
with_last events (Some event) = events ++ event ∷ []

-- what the one more is answered, in the world that the others left
abbrev pub last_text : {m : Meaning} {S : Type 0} → Machine m S → World m S → Option Event → List ℕ
last_text machine w None = []
last_text machine w (Some event) = (answered machine w event).text

-- what was written grew by all of these bytes, and then by a front of those
pub record GrowsBehind (before now : Option (List ℕ)) (whole last : List ℕ) : Type 0 where
  pub front : List ℕ
  pub rest : List ℕ
  pub splits : last ≡ front ++ rest
  pub grows : Grows before now (whole ++ front)

-- ---- a run whose disk was opened with records

-- an attempt to write these definitions
abbrev pub defining : List Def → Outcome → Attempt Decoded
defining definitions outcome = record { attempted = Definitions definitions; outcome = outcome }

-- the first of these events
pub record IsFront (events all : List Event) : Type 0 where
  pub rest : List Event
  pub is : all ≡ events ++ rest

-- a front of the lines that ended in the bytes taken, and at the script's end of all its events
abbrev pub AreEvents : Streams → List ℕ → List Event → Type 0
AreEvents s taken events = IsFront events (ended_events taken) ⊎ (IsAtEnd s.left_now × IsFront events (script_events taken))

module _ (s : Streams) (records : List Decoded) (outcomes : List Outcome) (made : List (Attempt Decoded)) (taken : List ℕ) where
  -- the source gave all that it had, the whole transcript was written, and all of the script's attempts were made
  pub record IsWhole (refused : Bool) : Type 0 where
    pub at_end : IsAtEnd s.left_now
    pub size : length taken ≤ most_bytes
    pub wrote : Grows s.written_before s.written_now (transcript [] records outcomes taken)
    pub refuses : has_refusal [] records outcomes taken ≡ refused
    pub attempted : attempts [] records outcomes (script_events taken) ≡ made

  -- Some events were answered, and the answers written. Perhaps one more was taken up, and a front of its answer was written.
  -- They made these attempts.
  pub record IsCut : Type 0 where
    pub size : length taken ≤ most_bytes
    pub events : List Event
    pub last : Option Event
    pub are : AreEvents s taken (with_last events last)
    pub wrote : GrowsBehind s.written_before s.written_now (text_of (by_history outcomes) (opening [] records) events) (last_text (by_history outcomes) (world_at [] records outcomes events) last)
    pub attempted : attempts [] records outcomes (with_last events last) ≡ made

  -- the lines that ended in the bytes taken were answered
  pub record IsBroken : Type 0 where
    pub size : length taken ≤ most_bytes
    pub wrote : Grows s.written_before s.written_now (ended_transcript [] records outcomes taken)
    pub attempted : attempts [] records outcomes (ended_events taken) ≡ made

  -- one byte more was taken than a script may have, and the lines that ended before it were answered
  pub record IsTooLong : Type 0 where
    pub size : length taken ≡ most_bytes + 1
    pub wrote : Grows s.written_before s.written_now (ended_transcript [] records outcomes (take most_bytes taken))
    pub attempted : attempts [] records outcomes (ended_events (take most_bytes taken)) ≡ made

  -- Some events were answered, which left nothing open. The next one closes the definitions: the record of all that were
  -- accepted is the one attempt, and faulted.
  pub record IsUndefined : Type 0 where
    pub size : length taken ≤ most_bytes
    pub events : List Event
    pub next : Event
    pub are : AreEvents s taken (events ++ next ∷ [])
    pub wrote : Grows s.written_before s.written_now (text_of (by_history outcomes) (opening [] records) events)
    pub no_commits : outcomes ≡ []
    pub unopened : (world_at [] records outcomes events).shared ≡ None
    pub closes : Closes (world_at [] records outcomes events) next
    pub attempted : made ≡ defining (world_at [] records outcomes events).definitions faulted ∷ []

  abbrev pub EndsSo : Ending → Type 0
  EndsSo Accepted = IsWhole false
  EndsSo Refusing = IsWhole true
  EndsSo SourceFault = IsBroken
  EndsSo SinkFault = IsCut
  EndsSo DiskFault = IsUndefined
  EndsSo NoMemory = IsCut
  EndsSo TooLong = IsTooLong

-- ---- faults

-- a count of faults rose by as many as these are faults, or stands at its last value
abbrev pub FewFaults : List Outcome → ℕ → ℕ → Type 0
FewFaults told before now = (count_by has_faulted told + before ≤ now) ⊎ (18446744073709551615 ≤ now)

-- ---- what listeners are told

-- The notes of records that stand behind so many others on the disk: the number of each, counted from 1 with those others,
-- and its payload. Numbers end at 2 ^ 64 - 1.
abbrev pub notes_behind : ℕ → List Decoded → List Note
notes_behind others [] = []
notes_behind others (r ∷ records) = (min (suc others) 18446744073709551615, spelled r) ∷ notes_behind (suc others) records

-- ---- how `play` ends

-- The disk was opened with records, the script was read to its end, and what all of it is answered was written; P holds of
-- these answers.
pub record AnswersAll (r : Run) (P : List (Option Answer) → Type 0) : Type 0 where
  pub records : List Decoded
  pub holds : IfSome r.content_before (λ image. HoldsRecords image records)
  pub taken : List ℕ
  pub gives : Gives r.streams.left_before r.streams.left_now taken
  pub at_end : IsAtEnd r.streams.left_now
  pub outcomes : List Outcome
  pub wrote : Grows r.streams.written_before r.streams.written_now (transcript [] records outcomes taken)
  pub answers : P (answers_of (by_history outcomes) (opening [] records) (script_events taken))

module _ (r : Run) where
  -- The disk was opened with records; lines were taken up, with these outcomes of their commits and these attempts, each of
  -- which ended at a moment. Moments before the call keep their images. Until the end of the load a crash leaves what it might
  -- have left at the beginning, and from then on the records that these attempts may leave. The listeners were told the
  -- records of the attempts that were done.
  pub record WasOpened (status : ℕ) : Type 0 where
    pub records : List Decoded
    pub can_be_opened : CanBeOpened records
    pub holds : IfSome r.content_before (λ image. HoldsRecords image records)
    pub ending : Ending
    pub is : status ≡ status_of ending
    pub taken : List ℕ
    pub gives : Gives r.streams.left_before r.streams.left_now taken
    pub outcomes : List Outcome
    pub made : List (Attempt Decoded)
    pub ends_so : EndsSo r.streams records outcomes made taken ending
    pub few : FewFaults outcomes r.faults_before r.faults_now
    pub start : ℕ
    pub ends : List ℕ
    pub as_many : length ends ≡ length made
    pub from : r.clock_before ≤ start
    pub rise : Rise start ends r.clock_now
    pub kept : (moment : ℕ) (image : List ℕ) → moment < r.clock_before → r.crash_now moment image ↔ r.crash_before moment image
    pub loading : (moment : ℕ) (image : List ℕ) → r.clock_before ≤ moment → moment < start → r.crash_now moment image → r.crash_before r.clock_before image
    pub crash : (moment : ℕ) (image : List ℕ) → start ≤ moment → moment ≤ r.clock_now → r.crash_now moment image → HoldsLeft SameRecords records made (ended_by moment ends) image
    pub leaves : IfSome r.content_now (λ image. HoldsLeft SameRecords records made (length made) image)
    pub told : HaveHeard (notes_behind (length records) (done_records made)) r.heard_before r.heard_now

  -- It wasn't, and the source, the content and the listeners are as before. A crash leaves what it might have left at the
  -- beginning.
  pub record NotOpened (status : ℕ) : Type 0 where
    pub why : Unopened
    pub is : status ≡ unopened_status why
    pub tells : IsUnopened why r.content_before r.streams.written_before r.streams.written_now
    pub left : r.streams.left_now ≡ r.streams.left_before
    pub content : r.content_now ≡ r.content_before
    pub kept : (moment : ℕ) (image : List ℕ) → moment < r.clock_before → r.crash_now moment image ↔ r.crash_before moment image
    pub undisturbed : (moment : ℕ) (image : List ℕ) → r.clock_before ≤ moment → moment ≤ r.clock_now → r.crash_now moment image → r.crash_before r.clock_before image
    pub untold : r.heard_now ≡ r.heard_before

  abbrev pub Ends : ℕ → Type 0
  Ends status = NotOpened status ⊎ WasOpened status

  -- The disk was opened, and each commit that reached it was done. The whole script was answered, and what was written is
  -- what it means with no faults at all; or memory ran out, or the script was too long.
  pub record HasCompleted (status : ℕ) : Type 0 where
    pub opened : WasOpened status
    pub all_done : AreDone opened.outcomes
    pub status_is : (status ≡ 0) ⊎ (status ≡ 1) ⊎ (status ≡ 6) ⊎ (status ≡ 10)
    pub whole : (status ≡ 0) ⊎ (status ≡ 1) → Grows r.streams.written_before r.streams.written_now (transcript [] opened.records [] opened.taken)

  -- or there was no memory to open it
  abbrev pub Completes : ℕ → Type 0
  Completes status = HasCompleted status ⊎ (status ≡ 6)

  -- What a run of `play` does. It ends in one of these ways. It completes where the disk tells its content, each crash would
  -- have left it a workspace, and no device failed. The status explains the content, and whether a line was refused.
  pub record Plays (status : ℕ) : Type 0 where
    pub ends : Ends status
    pub completes : AreFormatted (r.crash_before r.clock_before) → IsSome r.content_before
        → ¬ (Rose r.stream_faults.source_before r.stream_faults.source_now) → ¬ (Rose r.stream_faults.sink_before r.stream_faults.sink_now) → ¬ (Rose r.faults_before r.faults_now)
        → Completes status
    pub explains : IfSome r.content_before (ExplainsContent status)
    pub accepted : status ≡ 0 → AnswersAll r NoneRefused
    pub refused : status ≡ 1 → AnswersAll r SomeRefused
