-- What an event comes to, by cases: one walk for each law on events.
use Rattle.std.specs.Prelude.{◌≡◌, ◌≤◌, ◌<◌, ◌⊎◌, ◌++◌, ℕ, Bool, true, false, List, [], ◌∷◌, length, nat_lt, Option, Some, None, Result, Ok, Err, unwrap_or, if◌then◌else◌, refl}
use Rattle.std.specs.Option.{ForSome}
use Rattle.std.proofs.Common.{◌∙◌, ap, sym, subst, inl, inr, arith, length-append}
use Rattle.std.proofs.lemmas.Bool.{ltb-true, ltb-false}
use Rattle.std.proofs.lemmas.Option.{none-some, same_Some}
use Rattle.aw_cell.specs.Names.{same_word}
use Rattle.ses_report.specs.declared.refusal.Refusal.{Refusal}
use Rattle.script_world.specs.Meaning.{Form, nothing, malformed, joins, ends, under, Meaning}
use Rattle.script_world.specs.Worlds.{World, Machine, Event, line, block_ends, script_ends, Answered, answers, no_session, name_at, silent, refused_so, crowded_out, with_lines, with_definitions, defined_so, defined_before, defined, session_place, session_in, session_of, with_name, with_session, commanded, shared_of, closed, session_planned, form_planned, block_ended, settled, answered}
use Rattle.script_world.proofs.callers.Moves.{if-holds, position-le, MayTurn}

module _ {m : Meaning} {S : Type 0} (machine : Machine m S) where
  -- why an event that isn't a session's turn is refused
  pub data Why (w : World m S) (refusal : Refusal) : Type 0 where
    it_is_late : (lines : List (List ℕ)) → refusal ≡ m.late lines → Why w refusal
    it_is_crowded : refusal ≡ m.crowded → Why w refusal
    of_definition : (lines : List (List ℕ)) → m.define w.definitions lines ≡ Err refusal → Why w refusal
    of_form : (text : List ℕ) → m.form w.open_lines text ≡ malformed refusal → Why w refusal

  -- the world but for open lines, closed or not, with one more name or not
  pub record Rests (w after : World m S) : Type 0 where
    pub definitions : after.definitions ≡ w.definitions
    pub shared : (after.shared ≡ w.shared) ⊎ (after.shared ≡ Some (shared_of machine.opens w))
    pub sessions : (after.sessions ≡ w.sessions) ⊎ (after.sessions ≡ w.sessions ++ m.new_session (length w.names) ∷ [])

  -- what an event comes to: nothing; a definition; a refusal, if of a session then of one past the 64th; or a turn
  pub record Cases (w : World m S) (event : Event) (Q : Answered m S → Type 0) : Type 0 where
    pub passes : (after : World m S) → session_of w event ≡ None → Rests w after → Q (silent after)
    pub defines : (lines : List (List ℕ)) (definitions : m.Definitions) → session_of w event ≡ None → w.shared ≡ None → m.define w.definitions lines ≡ Ok definitions → Q (silent (with_definitions w definitions))
    pub refuses : (after : World m S) (prefix : List ℕ) (refusal : Refusal) → ForSome (session_of w event) (λ own. 64 ≤ own.0) → Why w refusal → Rests w after → Q (refused_so prefix refusal after)
    pub turns : (after : World m S) (name : List ℕ) (who : ℕ) (statement : m.Statement) → after ≡ with_session (closed machine.opens w) name → session_of w event ≡ Some (who, statement) → Rests w after → MayTurn machine after who (shared_of machine.opens w) → Q (settled machine (commanded after (shared_of machine.opens w) who statement))

  lines_rest : (w : World m S) (lines : List (List ℕ)) → Rests w (with_lines w lines)
  lines_rest w lines = record { definitions = refl; shared = inl refl; sessions = inl refl }

  closed_rest : (w : World m S) → Rests w (closed machine.opens w)
  closed_rest w = record { definitions = refl; shared = inr refl; sessions = inl refl }

  -- the world in which a session's line is taken up
  record Taken (w after : World m S) (who : ℕ) : Type 0 where
    rests : Rests w after
    named : who < length after.names
    is_open : after.shared ≡ Some (shared_of machine.opens w)

  taken : (w : World m S) (name : List ℕ) → Taken w (with_session (closed machine.opens w) name) (session_place w name)
  taken w name = by_test (nat_lt (session_place w name) (length w.names)) refl
    where
      by_room : (room : Bool) → ((if room then w.sessions ++ m.new_session (length w.names) ∷ [] else w.sessions) ≡ w.sessions) ⊎ ((if room then w.sessions ++ m.new_session (length w.names) ∷ [] else w.sessions) ≡ w.sessions ++ m.new_session (length w.names) ∷ [])
      by_room true = inr refl
      by_room false = inl refl

      by_test : (there : Bool) → nat_lt (session_place w name) (length w.names) ≡ there → Taken w (if there then closed machine.opens w else with_name (closed machine.opens w) name) (session_place w name)
      by_test true is = record { rests = closed_rest w; named = ltb-true (session_place w name) (length w.names) is; is_open = refl }
      by_test false is = record {
        rests = record { definitions = refl; shared = inr refl; sessions = by_room (nat_lt (length w.names) 64) };
        named = omega (arith, position-le (same_word name) w.names, length-append w.names (name ∷ []));
        is_open = refl;
      }

  module _ (w : World m S) (event : Event) (Q : Answered m S → Type 0) (cases : Cases w event Q) where
    of_none : session_of w event ≡ None → ForSome (session_of w event) (λ own. 64 ≤ own.0)
    of_none none own is = absurd (none-some own (sym none ∙ is))

    defined_walk : session_of w event ≡ None → (lines : List (List ℕ)) → Q (defined w lines)
    defined_walk of_no lines = by_shared w.shared refl
      where
        by_result : w.shared ≡ None → (result : Result m.Definitions Refusal) → m.define w.definitions lines ≡ result → Q (defined_so w result)
        by_result none (Ok definitions) is = cases.defines lines definitions of_no none is
        by_result none (Err refusal) is = cases.refuses (with_lines w []) no_session refusal (of_none of_no) (of_definition lines is) (lines_rest w [])

        by_shared : (shared : Option S) → w.shared ≡ shared → Q (defined_before w shared lines)
        by_shared None is = by_result is (m.define w.definitions lines) refl
        by_shared (Some shared) is = cases.refuses (with_lines w []) no_session (m.late lines) (of_none of_no) (it_is_late lines refl) (lines_rest w [])

    session_walk : (after : World m S) (name : List ℕ) (who : ℕ) (statement : m.Statement) → after ≡ with_session (closed machine.opens w) name → session_of w event ≡ Some (who, statement) → Taken w after who → Q (settled machine (session_planned machine.opens after who statement))
    session_walk after name who statement taken_up own t = by_room (nat_lt who 64) refl
      where
        same : shared_of machine.opens after ≡ shared_of machine.opens w
        same = ap (λ (shared : Option S). unwrap_or shared (machine.opens after.definitions)) t.is_open

        by_room : (room : Bool) → nat_lt who 64 ≡ room → Q (settled machine (if room then commanded after (shared_of machine.opens after) who statement else answers (crowded_out after who)))
        by_room true is =
            subst (λ (shared : S). Q (settled machine (commanded after shared who statement))) (sym same) (cases.turns after name who statement taken_up own t.rests (record { room = ltb-true who 64 is; named = t.named; open_so = t.is_open }))
        by_room false is = cases.refuses after (m.crowded_prefix (name_at after.names who)) m.crowded (λ those same. omega (arith, ltb-false who 64 is, ap (λ (it : ℕ × m.Statement). it.0) (same_Some (who, statement) those (sym own ∙ same)))) (it_is_crowded refl) t.rests

    block_walk : session_of w event ≡ None → (lines : List (List ℕ)) → Q (block_ended w lines)
    block_walk none [] = cases.passes w none (lines_rest w w.open_lines)
    block_walk none (text ∷ lines) = defined_walk none (text ∷ lines)

  form_walk : (w : World m S) (text : List ℕ) (Q : Answered m S → Type 0) → Cases w (line text) Q → (form : Form m.Statement) → m.form w.open_lines text ≡ form → Q (settled machine (form_planned machine.opens w text form))
  form_walk w text Q cases nothing is = cases.passes w (ap (session_in w) is) (lines_rest w w.open_lines)
  form_walk w text Q cases (malformed refusal) is = cases.refuses (with_lines w []) no_session refusal (of_none w (line text) Q cases (ap (session_in w) is)) (of_form text is) (lines_rest w [])
  form_walk w text Q cases joins is = cases.passes (with_lines w (w.open_lines ++ text ∷ [])) (ap (session_in w) is) (lines_rest w (w.open_lines ++ text ∷ []))
  form_walk w text Q cases ends is = defined_walk w (line text) Q cases (ap (session_in w) is) (w.open_lines ++ text ∷ [])
  form_walk w text Q cases (under name statement) is =
      session_walk w (line text) Q cases (with_session (closed machine.opens w) name) name (session_place w name) statement refl (ap (session_in w) is) (taken w name)

  -- what holds of each case holds of what an event is answered
  pub walk : (w : World m S) (event : Event) (Q : Answered m S → Type 0) → Cases w event Q → Q (answered machine w event)
  walk w (line text) Q cases = form_walk w text Q cases (m.form w.open_lines text) refl
  walk w block_ends Q cases = block_walk w block_ends Q cases refl w.open_lines
  walk w script_ends Q cases =
      if-holds (λ (after : World m S). Q (silent after)) (m.is_any w.definitions) (closed machine.opens w) w (cases.passes (closed machine.opens w) refl (closed_rest w)) (cases.passes w refl (lines_rest w w.open_lines))
