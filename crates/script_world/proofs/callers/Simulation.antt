-- A machine whose states stand for those of another one by a map answers events as that one does.
use Rattle.std.specs.Prelude.{◌≡◌, ◌||◌, ◌++◌, ℕ, Bool, true, false, List, [], ◌∷◌, length, nat_lt, Option, Some, None, Result, Ok, Err, unwrap_or, if◌then◌else◌, refl}
use Rattle.std.specs.Option.{option_map}
use Rattle.std.proofs.Common.{◌∙◌, ap}
use Rattle.ses_report.specs.declared.refusal.Refusal.{Refusal}
use Rattle.script_world.specs.Meaning.{Begun, said, ask, Form, nothing, malformed, joins, ends, under, Meaning}
use Rattle.script_world.specs.Outcomes.{Outcome, done, faulted, Writing, OnDisk, written, on_disk}
use Rattle.script_world.specs.Worlds.{World, with_shared, Machine, Event, line, block_ends, script_ends, Answered, Planned, answers, asks, silent, crowded_out, defined_so, defined_before, defined, session_place, with_name, with_session, own_session, begun_so, commanded, shared_of, closed, session_planned, form_planned, block_ended, planned, turned, settled, answered, text_of, any_refused, is_refused, world_after}

if-map : {A B : Type 0} (g : A → B) (test : Bool) (yes_case no_case : A) → (if test then g yes_case else g no_case) ≡ g (if test then yes_case else no_case)
if-map g true yes_case no_case = refl
if-map g false yes_case no_case = refl

module _ {m : Meaning} {S T : Type 0} (f : T → S) where
  abbrev pub mapped_answer : Answered m T → Answered m S
  mapped_answer a = record { answer = a.answer; text = a.text; world = with_shared f a.world }

  abbrev pub mapped_plan : Planned m T → Planned m S
  mapped_plan (answers a) = answers (mapped_answer a)
  mapped_plan (asks w t who waiting entry) = asks (with_shared f w) (f t) who waiting entry

-- to open and to step is the same through f
pub record MachinesAlike {m : Meaning} {S T : Type 0} (coarse : Machine m S) (fine : Machine m T) (f : T → S) : Type 0 where
  pub opens : (definitions : m.Definitions) → coarse.opens definitions ≡ f (fine.opens definitions)
  pub step : (t : T) (entry : m.Entry) → coarse.step (f t) entry ≡ ((fine.step t entry).0, f (fine.step t entry).1)

pub record EventsAlike {m : Meaning} {S T : Type 0} (coarse : Machine m S) (fine : Machine m T) (f : T → S) (w : World m T) (events : List Event) : Type 0 where
  pub text : text_of coarse (with_shared f w) events ≡ text_of fine w events
  pub refused : any_refused coarse (with_shared f w) events ≡ any_refused fine w events
  pub world : world_after coarse (with_shared f w) events ≡ with_shared f (world_after fine w events)

module _ {m : Meaning} {S T : Type 0} (coarse : Machine m S) (fine : Machine m T) (f : T → S) (alike : MachinesAlike coarse fine f) where
  abbrev mapped : World m T → World m S
  mapped w = with_shared f w

  shared_of-mapped : (w : World m T) → shared_of coarse.opens (mapped w) ≡ f (shared_of fine.opens w)
  shared_of-mapped w = by_shared w.shared
    where
      by_shared : (shared : Option T) → unwrap_or (option_map f shared) (coarse.opens w.definitions) ≡ f (unwrap_or shared (fine.opens w.definitions))
      by_shared None = alike.opens w.definitions
      by_shared (Some t) = refl

  closed-mapped : (w : World m T) → closed coarse.opens (mapped w) ≡ mapped (closed fine.opens w)
  closed-mapped w = ap (λ shared. let it : World m S = record (mapped w) { shared = Some shared } in it) (shared_of-mapped w)

  defined-mapped : (w : World m T) (lines : List (List ℕ)) → defined (mapped w) lines ≡ mapped_answer f (defined w lines)
  defined-mapped w lines = by_shared w.shared
    where
      by_result : (shared : Option T) (result : Result m.Definitions Refusal) →
          let it : World m T = record w { shared = shared } in
          defined_so (mapped it) result ≡ mapped_answer f (defined_so it result)
      by_result shared (Ok definitions) = refl
      by_result shared (Err refusal) = refl

      by_shared : (shared : Option T) →
          let it : World m T = record w { shared = shared } in
          defined_before (mapped it) (option_map f shared) lines ≡ mapped_answer f (defined_before it shared lines)
      by_shared None = by_result None (m.define w.definitions lines)
      by_shared (Some t) = refl

  with_session-mapped : (w : World m T) (name : List ℕ) → with_session (mapped w) name ≡ mapped (with_session w name)
  with_session-mapped w name = if-map mapped (nat_lt (session_place w name) (length w.names)) w (with_name w name)

  session-mapped : (w : World m T) (who : ℕ) (statement : m.Statement) → session_planned coarse.opens (mapped w) who statement ≡ mapped_plan f (session_planned fine.opens w who statement)
  session-mapped w who statement = by_room (nat_lt who 64)
    where
      by_begun : (b : Begun m.Entry m.Session m.Waiting) → begun_so (mapped w) (f (shared_of fine.opens w)) who b ≡ mapped_plan f (begun_so w (shared_of fine.opens w) who b)
      by_begun (said answer session) = refl
      by_begun (ask entry waiting) = refl

      by_room : (room : Bool) → (if room then commanded (mapped w) (shared_of coarse.opens (mapped w)) who statement else answers (crowded_out (mapped w) who)) ≡ mapped_plan f (if room then commanded w (shared_of fine.opens w) who statement else answers (crowded_out w who))
      by_room true =
          ap (λ shared. commanded (mapped w) shared who statement) (shared_of-mapped w) ∙ by_begun (m.begin w.definitions (own_session w who) statement)
      by_room false = refl

  form-mapped : (w : World m T) (text : List ℕ) (form : Form m.Statement) → form_planned coarse.opens (mapped w) text form ≡ mapped_plan f (form_planned fine.opens w text form)
  form-mapped w text nothing = refl
  form-mapped w text (malformed refusal) = refl
  form-mapped w text joins = refl
  form-mapped w text ends = ap answers (defined-mapped w (w.open_lines ++ text ∷ []))
  form-mapped w text (under name statement) =
      ap (λ it. session_planned coarse.opens (with_session it name) (session_place w name) statement) (closed-mapped w)
      ∙ ap (λ it. session_planned coarse.opens it (session_place w name) statement) (with_session-mapped (closed fine.opens w) name)
      ∙ session-mapped (with_session (closed fine.opens w) name) (session_place w name) statement

  block-mapped : (w : World m T) (lines : List (List ℕ)) → block_ended (mapped w) lines ≡ mapped_answer f (block_ended w lines)
  block-mapped w [] = refl
  block-mapped w (text ∷ lines) = defined-mapped w (text ∷ lines)

  planned-mapped : (w : World m T) (event : Event) → planned coarse.opens (mapped w) event ≡ mapped_plan f (planned fine.opens w event)
  planned-mapped w (line text) = form-mapped w text (m.form w.open_lines text)
  planned-mapped w block_ends = ap answers (block-mapped w w.open_lines)
  planned-mapped w script_ends =
      ap (λ it. answers (silent (if m.is_any w.definitions then it else mapped w))) (closed-mapped w)
      ∙ ap (λ it. answers (silent it)) (if-map mapped (m.is_any w.definitions) (closed fine.opens w) w)

  settled-mapped : (p : Planned m T) → settled coarse (mapped_plan f p) ≡ mapped_answer f (settled fine p)
  settled-mapped (answers a) = refl
  settled-mapped (asks w t who waiting entry) = ap (turned (mapped w) who waiting) (alike.step t entry)

  pub answered-mapped : (w : World m T) (event : Event) → answered coarse (mapped w) event ≡ mapped_answer f (answered fine w event)
  answered-mapped w event = ap (settled coarse) (planned-mapped w event) ∙ settled-mapped (planned fine.opens w event)

  pub events_alike : (w : World m T) (events : List Event) → EventsAlike coarse fine f w events
  events_alike w [] = record { text = refl; refused = refl; world = refl }
  events_alike w (event ∷ events) =
      let a = answered fine w event in
      let first = answered-mapped w event in
      let rest = events_alike a.world events in
      record {
        text = ap (λ b. b.text ++ text_of coarse b.world events) first ∙ ap (λ text. a.text ++ text) rest.text;
        refused = ap (λ b. is_refused b.answer || any_refused coarse b.world events) first ∙ ap (λ refused. is_refused a.answer || refused) rest.refused;
        world = ap (λ b. world_after coarse b.world events) first ∙ rest.world;
      }

-- ---- on a disk

-- the state of a machine by another one
abbrev pub with_state : {R S T : Type 0} → (T → S) → OnDisk R T → OnDisk R S
with_state f disk = record { state = f disk.state; opened = disk.opened; tried = disk.tried }

module _ {m : Meaning} {R S T : Type 0} (f : T → S) (writing : Writing m R) where
  written-with_state : (outcome : Outcome) (disk : OnDisk R T) (r : m.Reply × T) (attempted : Option R) → written writing outcome (with_state f disk) (r.0, f r.1) attempted ≡ ((written writing outcome disk r attempted).0, with_state f (written writing outcome disk r attempted).1)
  written-with_state outcome disk r None = refl
  written-with_state done disk r (Some attempted) = refl
  written-with_state faulted disk r (Some attempted) = refl

  pub disks_alike : (next : ℕ → Outcome) (coarse : Machine m S) (fine : Machine m T) → MachinesAlike coarse fine f → MachinesAlike (on_disk writing next coarse) (on_disk writing next fine) (with_state f)
  disks_alike next coarse fine alike = record {
    opens = λ definitions. ap (λ state. let it : OnDisk R S = record { state = state; opened = Some (writing.of_definitions definitions); tried = [] } in it) (alike.opens definitions);
    step = λ disk entry.
        let r = fine.step disk.state entry in
        ap (λ (given : m.Reply × S). written writing (next (length disk.tried)) (with_state f disk) given (writing.of_step entry given.0)) (alike.step disk.state entry) ∙ written-with_state (next (length disk.tried)) disk r (writing.of_step entry r.0);
  }
