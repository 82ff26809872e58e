-- What events of no session leave, how a session's line is answered, and which events close the definitions.
use Rattle.std.specs.Prelude.{◌≡◌, ◌⊎◌, ◌↔◌, ◌++◌, ℕ, Bool, true, false, List, [], ◌∷◌, length, nat_lt, Option, Some, None, Result, Ok, Err, is_some, IsSome, if◌then◌else◌, refl}
use Rattle.std.specs.Option.{ForSome}
use Rattle.std.proofs.Common.{◌∙◌, ap, sym, subst, inl, inr, ⊎_elim}
use Rattle.std.proofs.lemmas.Bool.{true≢false}
use Rattle.std.proofs.lemmas.Option.{none-some, same_Some}
use Rattle.ses_report.specs.declared.refusal.Refusal.{Refusal}
use Rattle.ses_report.specs.Reports.{Answer, answer_text}
use Rattle.script_world.specs.Meaning.{Begun, said, ask, Form, nothing, malformed, joins, ends, under, Meaning}
use Rattle.script_world.specs.Laws.{SessionsAreAnswered, session_prefix, StaysApart, LeavesApart, MalformedIsRefused, ClosesExactly}
use Rattle.script_world.specs.Worlds.{Closes, World, Machine, Event, line, block_ends, script_ends, Answered, answers, name_at, crowded_out, defined_so, defined_before, defined, session_place, session_in, session_of, with_name, with_session, own_session, begun_so, commanded, shared_of, closed, session_planned, form_planned, block_ended, settled}
use Rattle.script_world.proofs.callers.Moves.{if-holds}

module _ {m : Meaning} {S : Type 0} (machine : Machine m S) where
  -- ---- events of no session

  defined-apart : (w : World m S) (lines : List (List ℕ)) → StaysApart w (defined w lines).world
  defined-apart w lines = by_shared w.shared
    where
      by_result : (result : Result m.Definitions Refusal) → StaysApart w (defined_so w result).world
      by_result (Ok definitions) = record { shared = refl; names = refl; sessions = refl }
      by_result (Err refusal) = record { shared = refl; names = refl; sessions = refl }

      by_shared : (shared : Option S) → StaysApart w (defined_before w shared lines).world
      by_shared None = by_result (m.define w.definitions lines)
      by_shared (Some shared) = record { shared = refl; names = refl; sessions = refl }

  block-apart : (w : World m S) (lines : List (List ℕ)) → StaysApart w (block_ended w lines).world
  block-apart w [] = record { shared = refl; names = refl; sessions = refl }
  block-apart w (text ∷ lines) = defined-apart w (text ∷ lines)

  form-apart : (w : World m S) (text : List ℕ) (form : Form m.Statement) → session_in w form ≡ None → StaysApart w (settled machine (form_planned machine.opens w text form)).world
  form-apart w text nothing none = record { shared = refl; names = refl; sessions = refl }
  form-apart w text (malformed refusal) none = record { shared = refl; names = refl; sessions = refl }
  form-apart w text joins none = record { shared = refl; names = refl; sessions = refl }
  form-apart w text ends none = defined-apart w (w.open_lines ++ text ∷ [])
  form-apart w text (under name statement) none = absurd (none-some (session_place w name, statement) (sym none))

  pub leaves_apart : (w : World m S) (event : Event) → LeavesApart machine w event
  leaves_apart w (line text) none other = form-apart w text (m.form w.open_lines text) none
  leaves_apart w block_ends none other = block-apart w w.open_lines
  leaves_apart w script_ends none other = absurd (other refl)

  pub malformed_is_refused : (w : World m S) (text : List ℕ) → MalformedIsRefused machine w text
  malformed_is_refused w text refusal is = ap (λ form. settled machine (form_planned machine.opens w text form)) is

  -- ---- which events close the definitions

  -- the world in which a session's line is taken up is open
  named-open : (w : World m S) (name : List ℕ) → (with_session (closed machine.opens w) name).shared ≡ Some (shared_of machine.opens w)
  named-open w name =
      if-holds (λ (those : World m S). those.shared ≡ Some (shared_of machine.opens w)) (nat_lt (session_place w name) (length w.names)) (closed machine.opens w) (with_name (closed machine.opens w) name) refl refl

  session-opens : (w : World m S) (shared : S) (who : ℕ) (statement : m.Statement) → w.shared ≡ Some shared → IsSome (settled machine (session_planned machine.opens w who statement)).world.shared
  session-opens w shared who statement is = by_room (nat_lt who 64)
    where
      by_begun : (b : Begun m.Entry m.Session m.Waiting) → IsSome (settled machine (begun_so w (shared_of machine.opens w) who b)).world.shared
      by_begun (said answer session) = ap is_some is
      by_begun (ask entry waiting) = refl

      by_room : (room : Bool) → IsSome (settled machine (if room then commanded w (shared_of machine.opens w) who statement else answers (crowded_out w who))).world.shared
      by_room true = by_begun (m.begin w.definitions (own_session w who) statement)
      by_room false = ap is_some is

  form-opens : (w : World m S) (text : List ℕ) (form : Form m.Statement) → IsSome (session_in w form) → IsSome (settled machine (form_planned machine.opens w text form)).world.shared
  form-opens w text nothing some = absurd (true≢false (sym some))
  form-opens w text (malformed refusal) some = absurd (true≢false (sym some))
  form-opens w text joins some = absurd (true≢false (sym some))
  form-opens w text ends some = absurd (true≢false (sym some))
  form-opens w text (under name statement) some =
      session-opens (with_session (closed machine.opens w) name) (shared_of machine.opens w) (session_place w name) statement (named-open w name)

  none-or : {A : Type 0} (found : Option A) → (found ≡ None) ⊎ IsSome found
  none-or None = inl refl
  none-or (Some it) = inr refl

  still-none : (w after : World m S) → w.shared ≡ None → StaysApart w after → IsSome after.shared → ⊥
  still-none w after none apart some = true≢false (sym some ∙ ap is_some (apart.shared ∙ none))

  line_or_not : (text : List ℕ) → line text ≡ script_ends → ⊥
  line_or_not text same = true≢false (ap is_line same)
    where
      is_line : Event → Bool
      is_line (line text) = true
      is_line block_ends = false
      is_line script_ends = false

  pub closes_exactly : (w : World m S) (event : Event) → ClosesExactly machine w event
  closes_exactly w (line text) none = (
    λ some. ⊎_elim (λ of_none. absurd (still-none w _ none (leaves_apart w (line text) of_none (line_or_not text)) some)) (λ own. let it : Closes w (line text) = inl own in it) (none-or (session_of w (line text))),
    λ closes. ⊎_elim (λ own. form-opens w text (m.form w.open_lines text) own) (λ ended. absurd (line_or_not text ended.0)) closes,
  )
  closes_exactly w block_ends none = (
    λ some. absurd (still-none w _ none (block-apart w w.open_lines) some),
    λ closes. ⊎_elim (λ own. absurd (true≢false (sym own))) (λ ended. absurd (block_or_not ended.0)) closes,
  )
    where
      is_block : Event → Bool
      is_block block_ends = true
      is_block (line text) = false
      is_block script_ends = false

      block_or_not : block_ends ≡ script_ends → ⊥
      block_or_not same = true≢false (ap is_block same)
  closes_exactly w script_ends none = by_any (m.is_any w.definitions) refl
    where
      by_any : (any : Bool) → m.is_any w.definitions ≡ any → IsSome (if any then closed machine.opens w else w).shared ↔ Closes w script_ends
      by_any true is = (λ some. inr (refl, is), λ closes. refl)
      by_any false is = (λ some. absurd (true≢false (sym some ∙ ap is_some none)), λ closes. ⊎_elim (λ own. absurd (true≢false (sym own))) (λ ended. absurd (true≢false (sym ended.1 ∙ is))) closes)

  -- ---- how a session's line is answered

  module _ (P : Answer → Type 0) where
    -- P holds of each answer of the language
    pub record Speaks : Type 0 where
      pub begins : (d : m.Definitions) (s : m.Session) (statement : m.Statement) (answer : Answer) (after : m.Session) → m.begin d s statement ≡ said answer after → P answer
      pub finishes : (d : m.Definitions) (names : List (List ℕ)) (waiting : m.Waiting) (reply : m.Reply) → P (m.finish d names waiting reply).0
      pub crowded : P (record { output = []; refusal = Some m.crowded })

    module _ (speaks : Speaks) where
      -- what an answer is, and how it's written
      record Given (a : Answered m S) (who : ℕ) : Type 0 where
        answer : Answer
        is : a.answer ≡ Some answer
        text : a.text ≡ answer_text (session_prefix a.world who) answer
        holds : P answer

      session-given : (w : World m S) (who : ℕ) (statement : m.Statement) → Given (settled machine (session_planned machine.opens w who statement)) who
      session-given w who statement = by_room (nat_lt who 64) refl
        where
          prefix_is : (room : Bool) → nat_lt who 64 ≡ room → (if room then name_at w.names who else m.crowded_prefix (name_at w.names who)) ≡ session_prefix w who
          prefix_is room is = ap (λ (it : Bool). if it then name_at w.names who else m.crowded_prefix (name_at w.names who)) (sym is)

          by_begun : nat_lt who 64 ≡ true → (b : Begun m.Entry m.Session m.Waiting) → m.begin w.definitions (own_session w who) statement ≡ b → Given (settled machine (begun_so w (shared_of machine.opens w) who b)) who
          by_begun room (said answer session) is = record { answer = answer; is = refl; text = ap (λ prefix. answer_text prefix answer) (prefix_is true room); holds = speaks.begins w.definitions (own_session w who) statement answer session is }
          by_begun room (ask entry waiting) is =
              let f = m.finish w.definitions w.names waiting (machine.step (shared_of machine.opens w) entry).0 in
              record { answer = f.0; is = refl; text = ap (λ prefix. answer_text prefix f.0) (prefix_is true room); holds = speaks.finishes w.definitions w.names waiting (machine.step (shared_of machine.opens w) entry).0 }

          by_room : (room : Bool) → nat_lt who 64 ≡ room → Given (settled machine (if room then commanded w (shared_of machine.opens w) who statement else answers (crowded_out w who))) who
          by_room true room = by_begun room (m.begin w.definitions (own_session w who) statement) refl
          by_room false room =
              let given : Answer = record { output = []; refusal = Some m.crowded } in
              record { answer = given; is = refl; text = ap (λ prefix. answer_text prefix given) (prefix_is false room); holds = speaks.crowded }

      form-given : (w : World m S) (text : List ℕ) (form : Form m.Statement) → ForSome (session_in w form) (λ own. Given (settled machine (form_planned machine.opens w text form)) own.0)
      form-given w text (under name statement) own same =
          subst (λ (it : ℕ × m.Statement). Given (settled machine (form_planned machine.opens w text (under name statement))) it.0) (same_Some (session_place w name, statement) own same)
          (session-given (with_session (closed machine.opens w) name) (session_place w name) statement)
      form-given w text nothing own same = absurd (none-some own same)
      form-given w text (malformed refusal) own same = absurd (none-some own same)
      form-given w text joins own same = absurd (none-some own same)
      form-given w text ends own same = absurd (none-some own same)

      pub sessions_are_answered : (w : World m S) (event : Event) → SessionsAreAnswered P machine w event
      sessions_are_answered w (line text) own same =
          let it = form-given w text (m.form w.open_lines text) own same in
          record { answer = it.answer; is = it.is; text = it.text; holds = it.holds }
      sessions_are_answered w block_ends own same = absurd (none-some own same)
      sessions_are_answered w script_ends own same = absurd (none-some own same)
