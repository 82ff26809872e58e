-- What each move of a world keeps, an event keeps.
use Rattle.std.specs.Prelude.{◌≡◌, ◌<◌, ◌≤◌, ℕ, Bool, true, false, List, [], ◌∷◌, ◌++◌, length, nat_lt, Option, Some, None, Result, Ok, Err, unwrap_or, position, if◌then◌else◌, refl}
use Rattle.std.specs.Option.{ForSome}
use Rattle.std.proofs.Common.{subst, arith, length-append}
use Rattle.std.proofs.lemmas.Bool.{ltb-true}
use Rattle.std.proofs.lemmas.Option.{none-some, same_Some}
use Rattle.std.specs.List.{position_or_len}
use Rattle.std.proofs.lemmas.Option.{cond_some}
use Rattle.aw_cell.specs.Names.{same_word}
use Rattle.ses_report.specs.declared.refusal.Refusal.{Refusal}
use Rattle.ses_report.specs.Reports.{Answer}
use Rattle.script_world.specs.Meaning.{Begun, said, ask, Form, nothing, malformed, joins, ends, under, Meaning}
use Rattle.script_world.specs.Worlds.{World, Machine, Event, line, block_ends, script_ends, Planned, answers, asks, crowded_out, with_lines, with_definitions, defined_so, defined_before, defined, session_place, session_in, session_of, with_name, with_session, with_own, own_session, begun_so, commanded, shared_of, closed, session_planned, form_planned, block_ended, planned, turned, settled, answered, world_after}

pub if-holds : {A : Type 0} (P : A → Type 0) (test : Bool) (yes_case no_case : A) → P yes_case → P no_case → P (if test then yes_case else no_case)
if-holds P true yes_case no_case it other = it
if-holds P false yes_case no_case it other = other

pub position-le : {A : Type 0} (test : A → Bool) (xs : List A) → unwrap_or (position test xs) (length xs) ≤ length xs
position-le test xs = by_place (position test xs) refl
  where
    first : ℕ
    first = position_or_len test xs

    by_place : (found : Option ℕ) → position test xs ≡ found → unwrap_or found (length xs) ≤ length xs
    by_place None is = omega arith
    by_place (Some at) is =
        let there = cond_some (nat_lt first (length xs)) first at is in
        omega (arith, ltb-true first (length xs) there.0, there.1)

module _ {m : Meaning} {S : Type 0} (machine : Machine m S) where
  -- a session's line is taken up in such a world
  pub record MayTurn (w : World m S) (who : ℕ) (shared : S) : Type 0 where
    pub room : who < 64
    pub named : who < length w.names
    pub open_so : w.shared ≡ Some shared

  -- P is kept by each move; those of a session, by the sessions that are Own
  pub record Keeps (P : World m S → Type 0) (Own : ℕ → m.Statement → Type 0) : Type 0 where
    pub lines : (w : World m S) (lines : List (List ℕ)) → P w → P (with_lines w lines)
    pub defines : (w : World m S) (lines : List (List ℕ)) (definitions : m.Definitions) → w.shared ≡ None → m.define w.definitions lines ≡ Ok definitions → P w → P (with_definitions w definitions)
    pub closes : (w : World m S) → w.shared ≡ None → P w → P (record w { shared = Some (machine.opens w.definitions) })
    pub appears : (w : World m S) (name : List ℕ) (shared : S) → w.shared ≡ Some shared → P w → P (with_name w name)
    pub begins : (w : World m S) (who : ℕ) (shared : S) (statement : m.Statement) (answer : Answer) (session : m.Session) → Own who statement → MayTurn w who shared → m.begin w.definitions (own_session w who) statement ≡ said answer session → P w → P (with_own w who session)
    pub steps : (w : World m S) (who : ℕ) (shared : S) (statement : m.Statement) (entry : m.Entry) (waiting : m.Waiting) → Own who statement → MayTurn w who shared → m.begin w.definitions (own_session w who) statement ≡ ask entry waiting → P w → P (turned w who waiting (machine.step shared entry)).world

  module _ (P : World m S → Type 0) (Own : ℕ → m.Statement → Type 0) (keeps : Keeps P Own) where
    defined-keeps : (w : World m S) (lines : List (List ℕ)) → P w → P (defined w lines).world
    defined-keeps w lines it = by_shared w.shared refl
      where
        by_result : w.shared ≡ None → (result : Result m.Definitions Refusal) → m.define w.definitions lines ≡ result → P (defined_so w result).world
        by_result none (Ok definitions) is = keeps.defines w lines definitions none is it
        by_result none (Err refusal) is = keeps.lines w [] it

        by_shared : (shared : Option S) → w.shared ≡ shared → P (defined_before w shared lines).world
        by_shared None is = by_result is (m.define w.definitions lines) refl
        by_shared (Some shared) is = keeps.lines w [] it

    closed-keeps : (w : World m S) → P w → P (closed machine.opens w)
    closed-keeps w it = by_shared w.shared refl
      where
        by_shared : (shared : Option S) → w.shared ≡ shared → P (record w { shared = Some (unwrap_or shared (machine.opens w.definitions)) })
        by_shared None is = keeps.closes w is it
        by_shared (Some shared) is = subst (λ (those : Option S). P (record w { shared = those })) is it

    -- the world in which a session's line is taken up
    record Taken (w : World m S) (who : ℕ) : Type 0 where
      holds : P w
      named : who < length w.names
      is_open : w.shared ≡ Some (shared_of machine.opens w)

    taken : (w : World m S) (name : List ℕ) → w.shared ≡ Some (shared_of machine.opens w) → P w → Taken (with_session w name) (session_place w name)
    taken w name is_open it = by_test (nat_lt (session_place w name) (length w.names)) refl
      where
        by_test : (there : Bool) → nat_lt (session_place w name) (length w.names) ≡ there → Taken (if there then w else with_name w name) (session_place w name)
        by_test true is = record { holds = it; named = ltb-true (session_place w name) (length w.names) is; is_open = is_open }
        by_test false is = record {
          holds = keeps.appears w name (shared_of machine.opens w) is_open it;
          named = omega (arith, position-le (same_word name) w.names, length-append w.names (name ∷ []));
          is_open = is_open;
        }

    -- the world in which a session's line is taken up
    pub taken_up-keeps : (w : World m S) (name : List ℕ) → P w → P (with_session (closed machine.opens w) name)
    taken_up-keeps w name it = (taken (closed machine.opens w) name refl (closed-keeps w it)).holds

    commanded-keeps : (w : World m S) (who : ℕ) (shared : S) (statement : m.Statement) → Own who statement → MayTurn w who shared → P w → P (settled machine (commanded w shared who statement)).world
    commanded-keeps w who shared statement own may it = by_begun (m.begin w.definitions (own_session w who) statement) refl
      where
        by_begun : (b : Begun m.Entry m.Session m.Waiting) → m.begin w.definitions (own_session w who) statement ≡ b → P (settled machine (begun_so w shared who b)).world
        by_begun (said answer session) is = keeps.begins w who shared statement answer session own may is it
        by_begun (ask entry waiting) is = keeps.steps w who shared statement entry waiting own may is it

    session-keeps : (w : World m S) (who : ℕ) (statement : m.Statement) → Own who statement → Taken w who → P (settled machine (session_planned machine.opens w who statement)).world
    session-keeps w who statement own t = by_room (nat_lt who 64) refl
      where
        by_room : (room : Bool) → nat_lt who 64 ≡ room → P (settled machine (if room then commanded w (shared_of machine.opens w) who statement else answers (crowded_out w who))).world
        by_room true is =
            commanded-keeps w who (shared_of machine.opens w) statement own (record { room = ltb-true who 64 is; named = t.named; open_so = t.is_open }) t.holds
        by_room false is = t.holds

    form-keeps : (w : World m S) (text : List ℕ) (form : Form m.Statement) → ForSome (session_in w form) (λ own. Own own.0 own.1) → P w → P (settled machine (form_planned machine.opens w text form)).world
    form-keeps w text nothing own it = it
    form-keeps w text (malformed refusal) own it = keeps.lines w [] it
    form-keeps w text joins own it = keeps.lines w (w.open_lines ++ text ∷ []) it
    form-keeps w text ends own it = defined-keeps w (w.open_lines ++ text ∷ []) it
    form-keeps w text (under name statement) own it =
        session-keeps (with_session (closed machine.opens w) name) (session_place w name) statement (own (session_place w name, statement) refl) (taken (closed machine.opens w) name refl (closed-keeps w it))

    block-keeps : (w : World m S) (lines : List (List ℕ)) → P w → P (block_ended w lines).world
    block-keeps w [] it = it
    block-keeps w (text ∷ lines) it = defined-keeps w (text ∷ lines) it

    -- an event keeps it
    pub answered-keeps : (w : World m S) (event : Event) → ForSome (session_of w event) (λ own. Own own.0 own.1) → P w → P (answered machine w event).world
    answered-keeps w (line text) own it = form-keeps w text (m.form w.open_lines text) own it
    answered-keeps w block_ends own it = block-keeps w w.open_lines it
    answered-keeps w script_ends own it = if-holds P (m.is_any w.definitions) (closed machine.opens w) w (closed-keeps w it) it

  -- all events keep what the moves of every session keep, by statements that a line can have
  module _ (Spoken : m.Statement → Type 0) (spoken : (lines : List (List ℕ)) (text name : List ℕ) (statement : m.Statement) → m.form lines text ≡ under name statement → Spoken statement) where
    event-spoken : (w : World m S) (event : Event) → ForSome (session_of w event) (λ own. Spoken own.1)
    event-spoken w (line text) = by_form (m.form w.open_lines text) refl
      where
        by_form : (form : Form m.Statement) → m.form w.open_lines text ≡ form → ForSome (session_in w form) (λ own. Spoken own.1)
        by_form (under name statement) is = λ own same.
            subst (λ (it : ℕ × m.Statement). Spoken it.1) (same_Some (session_place w name, statement) own same) (spoken w.open_lines text name statement is)
        by_form _ is = λ own same. absurd (none-some own same)
    event-spoken w _ = λ own same. absurd (none-some own same)

    pub lifts : (P : World m S → Type 0) → Keeps P (λ who. Spoken) → (w : World m S) (events : List Event) → P w → P (world_after machine w events)
    lifts P keeps w [] it = it
    lifts P keeps w (event ∷ events) it =
        lifts P keeps (answered machine w event).world events (answered-keeps P (λ who. Spoken) keeps w event (event-spoken w event) it)

-- ---- what an entry asks

-- P of the state that is asked
abbrev pub AsksWith : {m : Meaning} {S : Type 0} → (S → Type 0) → Planned m S → Type 0
AsksWith P (answers a) = Unit {0}
AsksWith P (asks w shared who waiting entry) = P shared

-- that is the state in which the event is taken up
module _ {m : Meaning} {S : Type 0} (P : S → Type 0) (opens : m.Definitions → S) where
  session-asks : (w : World m S) (who : ℕ) (statement : m.Statement) → P (shared_of opens w) → AsksWith P (session_planned opens w who statement)
  session-asks w who statement it = by_room (nat_lt who 64)
    where
      by_begun : (b : Begun m.Entry m.Session m.Waiting) → AsksWith P (begun_so w (shared_of opens w) who b)
      by_begun (said answer session) = tt
      by_begun (ask entry waiting) = it

      by_room : (room : Bool) → AsksWith P (if room then commanded w (shared_of opens w) who statement else answers (crowded_out w who))
      by_room true = by_begun (m.begin w.definitions (own_session w who) statement)
      by_room false = tt

  form-asks : (w : World m S) (text : List ℕ) (form : Form m.Statement) → P (shared_of opens w) → AsksWith P (form_planned opens w text form)
  form-asks w text nothing it = tt
  form-asks w text (malformed refusal) it = tt
  form-asks w text joins it = tt
  form-asks w text ends it = tt
  form-asks w text (under name statement) it =
      session-asks (with_session (closed opens w) name) (session_place w name) statement (if-holds (λ (those : World m S). P (shared_of opens those)) (nat_lt (session_place w name) (length w.names)) (closed opens w) (with_name (closed opens w) name) it it)

  pub asks_with : (w : World m S) (event : Event) → P (shared_of opens w) → AsksWith P (planned opens w event)
  asks_with w (line text) it = form-asks w text (m.form w.open_lines text) it
  asks_with w block_ends it = tt
  asks_with w script_ends it = tt
