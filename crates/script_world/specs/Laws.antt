-- What the laws on events say, over any meaning.
use Rattle.std.specs.Prelude.{◌≡◌, ◌≢◌, ◌||◌, ◌++◌, ◌↔◌, ◌+◌, ℕ, true, cond, List, [], ◌∷◌, length, nat_lt, None, Some, is_some, IsSome, if◌then◌else◌, slice_get, ◌==◌, Bool, not, map}
use Rattle.std.specs.Option.{ForSome}
use Rattle.std.specs.List.{list_all}
use Rattle.std.specs.Str.Lines.{strip_carriage_return}
use Rattle.script_world.specs.Meaning.{malformed, Meaning}
use Rattle.ses_report.specs.declared.refusal.Refusal.{Refusal}
use Rattle.ses_report.specs.Reports.{Answer, answer_text}
use Rattle.script_world.specs.Worlds.{World, Machine, Event, line, script_ends, no_session, name_at, with_lines, refused_so, session_of, answered, text_of, any_refused, is_refused, world_after, Closes}
use Rattle.script_world.specs.Outcomes.{Outcome, Writing, OnDisk, on_disk, by_list}
use Rattle.script_world.specs.Script.{ended_lines, open_line}

-- an event that isn't of a session leaves what the session holds
abbrev pub KeepsOthers : {m : Meaning} {S : Type 0} → Machine m S → World m S → Event → Type 0
KeepsOthers {m} {S} machine w event =
    (who : ℕ) (session : m.Session) → ForSome (session_of w event) (λ own. who ≢ own.0) → slice_get w.sessions who ≡ Some session → slice_get (answered machine w event).world.sessions who ≡ Some session

-- two machines write the same text for these events, refuse one or none, and leave the same world
pub record SameOf {m : Meaning} {S : Type 0} (one other : Machine m S) (w : World m S) (events : List Event) : Type 0 where
  pub text : text_of other w events ≡ text_of one w events
  pub refused : any_refused other w events ≡ any_refused one w events
  pub world : world_after other w events ≡ world_after one w events

-- what these events and one more are answered, by what the one more is answered behind them
pub record GoesOn {m : Meaning} {R S : Type 0} (writing : Writing m R) (machine : Machine m S) (w : World m (OnDisk R S)) (coming new : List Outcome) (events : List Event) (event : Event) : Type 0 where
  pub text : text_of (by_list writing machine (coming ++ new)) w (events ++ event ∷ []) ≡ text_of (by_list writing machine coming) w events ++ (answered (by_list writing machine (coming ++ new)) (world_after (by_list writing machine coming) w events) event).text
  pub refused : any_refused (by_list writing machine (coming ++ new)) w (events ++ event ∷ []) ≡ (any_refused (by_list writing machine coming) w events || is_refused (answered (by_list writing machine (coming ++ new)) (world_after (by_list writing machine coming) w events) event).answer)
  pub world : world_after (by_list writing machine (coming ++ new)) w (events ++ event ∷ []) ≡ (answered (by_list writing machine (coming ++ new)) (world_after (by_list writing machine coming) w events) event).world

-- The definitions and what each session holds are as before, and the shared state is the same; sessions may be new, and the
-- definitions closed, which opens what these definitions open.
pub record ChangesNothing {m : Meaning} {S : Type 0} (Same : S → S → Type 0) (opens : m.Definitions → S) (before after : World m S) : Type 0 where
  pub definitions : after.definitions ≡ before.definitions
  pub shared : ForSome before.shared (λ old. (new : S) × (after.shared ≡ Some new) × Same old new)
  pub unopened : before.shared ≡ None → ForSome after.shared (Same (opens before.definitions))
  pub sessions : (who : ℕ) → ForSome (slice_get before.sessions who) (λ session. slice_get after.sessions who ≡ Some session)

abbrev pub RefusalChangesNothing : {m : Meaning} {S : Type 0} → (S → S → Type 0) → Machine m S → World m S → Event → Type 0
RefusalChangesNothing Same machine w event =
    is_refused (answered machine w event).answer ≡ true → ChangesNothing Same machine.opens w (answered machine w event).world

-- ---- what is answered

-- the prefix of what a session's line is answered: its name as it was first written, or for a session past the 64th what the
-- language has
abbrev pub session_prefix : {m : Meaning} {S : Type 0} → World m S → ℕ → List ℕ
session_prefix {m} w who = if nat_lt who 64 then name_at w.names who else m.crowded_prefix (name_at w.names who)

-- in how many lines an answer is printed
abbrev pub lines_in : Answer → ℕ
lines_in answer = length answer.output + cond (is_some answer.refusal) 1 0

-- an event of a session has one answer, of which P holds, and what is written is this answer under the session's name
pub record IsAnswered {m : Meaning} {S : Type 0} (P : Answer → Type 0) (machine : Machine m S) (w : World m S) (event : Event) (who : ℕ) : Type 0 where
  pub answer : Answer
  pub is : (answered machine w event).answer ≡ Some answer
  pub text : (answered machine w event).text ≡ answer_text (session_prefix (answered machine w event).world who) answer
  pub holds : P answer

abbrev pub SessionsAreAnswered : {m : Meaning} {S : Type 0} → (Answer → Type 0) → Machine m S → World m S → Event → Type 0
SessionsAreAnswered P machine w event = ForSome (session_of w event) (λ own. IsAnswered P machine w event own.0)

-- ---- lines that are of no session

-- the names, the sessions and the shared state stay: definitions that were open stay open
pub record StaysApart {m : Meaning} {S : Type 0} (before after : World m S) : Type 0 where
  pub shared : after.shared ≡ before.shared
  pub names : after.names ≡ before.names
  pub sessions : after.sessions ≡ before.sessions

abbrev pub LeavesApart : {m : Meaning} {S : Type 0} → Machine m S → World m S → Event → Type 0
LeavesApart machine w event =
    session_of w event ≡ None → event ≢ script_ends → StaysApart w (answered machine w event).world

-- a line of no form is refused, and leaves the rest of the world as it was
abbrev pub MalformedIsRefused : {m : Meaning} {S : Type 0} → Machine m S → World m S → List ℕ → Type 0
MalformedIsRefused {m} machine w text =
    (refusal : Refusal) → m.form w.open_lines text ≡ malformed refusal → answered machine w (line text) ≡ refused_so no_session refusal (with_lines w [])

-- they are closed exactly then
abbrev pub ClosesExactly : {m : Meaning} {S : Type 0} → Machine m S → World m S → Event → Type 0
ClosesExactly machine w event = w.shared ≡ None → IsSome (answered machine w event).world.shared ↔ Closes w event

-- ---- the text and the outcomes

-- rows of outcomes with which these events write the same text leave the same world: the same attempts with the same outcomes
abbrev pub TextFixesWorld : {m : Meaning} {R S : Type 0} → Writing m R → Machine m S → (ℕ → Outcome) → (ℕ → Outcome) → World m (OnDisk R S) → List Event → Type 0
TextFixesWorld writing machine one other w events =
    text_of (on_disk writing one machine) w events ≡ text_of (on_disk writing other machine) w events → world_after (on_disk writing one machine) w events ≡ world_after (on_disk writing other machine) w events

-- ---- the lines of a script
-- what lines are in a script, each with the LF that ends it
abbrev pub joined : List (List ℕ) → List ℕ
joined [] = []
joined (part ∷ parts) = (part ++ 10 ∷ []) ++ joined parts

abbrev pub has_no_end : List ℕ → Bool
has_no_end part = list_all (λ b. not (b == 10)) part

-- A script is lines, each of them ended by a LF, and an open line behind the last LF. No LF stands within a line.
pub record IsSplit (bytes : List ℕ) (parts : List (List ℕ)) (last : List ℕ) : Type 0 where
  pub whole : bytes ≡ joined parts ++ last
  pub ends : list_all has_no_end parts ≡ true
  pub open_end : has_no_end last ≡ true

-- these are its lines, each without the one CR before its LF
pub record LinesAreSplit (bytes : List ℕ) : Type 0 where
  pub parts : List (List ℕ)
  pub last : List ℕ
  pub split : IsSplit bytes parts last
  pub ended : ended_lines bytes ≡ map strip_carriage_return parts
  pub open_is : open_line bytes ≡ last
