-- A refused event changes nothing.
use Rattle.std.specs.Prelude.{◌≡◌, ℕ, zero, suc, true, List, [], ◌∷◌, length, Option, None, Some, is_some, unwrap_or, slice_get, slice_set, slice_index_or, refl}
use Rattle.std.specs.Option.{ForSome}
use Rattle.std.proofs.Common.{◌∙◌, ap, sym, subst, ⊎_elim}
use Rattle.std.proofs.lemmas.Bool.{true≢false}
use Rattle.std.proofs.lemmas.Option.{none-some, same_Some}
use Rattle.ses_report.specs.Reports.{Answer}
use Rattle.script_world.specs.Meaning.{Begun, said, ask, Meaning}
use Rattle.script_world.specs.Worlds.{World, Machine, Event, Answered, with_own, own_session, begun_so, commanded, shared_of, settled, is_refused}
use Rattle.script_world.specs.Laws.{ChangesNothing, RefusalChangesNothing}
use Rattle.script_world.proofs.callers.Walk.{Rests, walk}
use Rattle.script_world.proofs.callers.Elements.{slice_get-append}

-- a place that is set to what it holds
slice_get-set_held : {X : Type 0} (xs : List X) (i : ℕ) (d x y : X) (j : ℕ) → y ≡ slice_index_or xs i d → slice_get xs j ≡ Some x → slice_get (slice_set xs i y) j ≡ Some x
slice_get-set_held [] i d x y j held is = is
slice_get-set_held (z ∷ xs) zero d x y zero held is = ap Some held ∙ is
slice_get-set_held (z ∷ xs) zero d x y (suc j) held is = is
slice_get-set_held (z ∷ xs) (suc i) d x y zero held is = is
slice_get-set_held (z ∷ xs) (suc i) d x y (suc j) held is = slice_get-set_held xs i d x y j held is

module _ {m : Meaning} {S : Type 0} (Same : S → S → Type 0) where
  module _ (machine : Machine m S) where
    -- a session's refusal changes neither the session nor the shared state
    pub record Mild : Type 0 where
      pub same : (s : S) → Same s s
      pub begins : (d : m.Definitions) (s : m.Session) (statement : m.Statement) (answer : Answer) (after : m.Session) → m.begin d s statement ≡ said answer after → is_some answer.refusal ≡ true → after ≡ s
      pub steps : (d : m.Definitions) (names : List (List ℕ)) (shared : S) (s : m.Session) (statement : m.Statement) (entry : m.Entry) (waiting : m.Waiting) → m.begin d s statement ≡ ask entry waiting →
          let r = machine.step shared entry in
          let f = m.finish d names waiting r.0 in
          is_some f.0.refusal ≡ true → (f.1 ≡ s) × Same shared r.1

    module _ (mild : Mild) where
      abbrev Quiet : World m S → Answered m S → Type 0
      Quiet w a = is_refused a.answer ≡ true → ChangesNothing Same machine.opens w a.world

      -- as before, but for new sessions and closed definitions
      record Passed (before after : World m S) : Type 0 where
        definitions : after.definitions ≡ before.definitions
        shared : ForSome before.shared (λ old. after.shared ≡ Some old)
        unopened : before.shared ≡ None → ForSome after.shared (λ new. new ≡ machine.opens before.definitions)
        sessions : (who : ℕ) → ForSome (slice_get before.sessions who) (λ session. slice_get after.sessions who ≡ Some session)

      passed : (before after : World m S) → Passed before after → ChangesNothing Same machine.opens before after
      passed before after it = record {
        definitions = it.definitions;
        shared = λ old is. (old, it.shared old is, mild.same old);
        unopened = λ none new is. subst (Same (machine.opens before.definitions)) (sym (it.unopened none new is)) (mild.same (machine.opens before.definitions));
        sessions = it.sessions;
      }

      own-sessions : (before w : World m S) (who : ℕ) (s : m.Session) → Passed before w → s ≡ own_session w who → (other : ℕ) → ForSome (slice_get before.sessions other) (λ session. slice_get (slice_set w.sessions who s) other ≡ Some session)
      own-sessions before w who s it held other session is =
          slice_get-set_held w.sessions who (m.new_session who) session s other held (it.sessions other session is)

      commanded-quiet : (before w : World m S) (shared : S) (who : ℕ) (statement : m.Statement) → w.shared ≡ Some shared → Passed before w → Quiet before (settled machine (commanded w shared who statement))
      commanded-quiet before w shared who statement is_open it = by_begun (m.begin w.definitions s statement) refl
        where
          s : m.Session
          s = own_session w who

          by_begun : (b : Begun m.Entry m.Session m.Waiting) → m.begin w.definitions s statement ≡ b → Quiet before (settled machine (begun_so w shared who b))
          by_begun (said answer new) is refused =
              passed before (with_own w who new) (record { definitions = it.definitions; shared = it.shared; unopened = it.unopened; sessions = own-sessions before w who new it (mild.begins w.definitions s statement answer new is refused) })
          by_begun (ask entry waiting) is refused =
              let kept = mild.steps w.definitions w.names shared s statement entry waiting is refused in
              let r = machine.step shared entry in
              record {
                definitions = it.definitions;
                unopened = λ none new same. subst (Same (machine.opens before.definitions)) (same_Some r.1 new same) (subst (λ (from : S). Same from r.1) (it.unopened none shared is_open) kept.1);
                shared = λ old was. (r.1, refl, subst (λ (from : S). Same from r.1) (same_Some shared old (sym is_open ∙ it.shared old was)) kept.1);
                sessions = own-sessions before w who (m.finish w.definitions w.names waiting r.0).1 it kept.0;
              }

      pub refusal_changes_nothing : (w : World m S) (event : Event) → RefusalChangesNothing Same machine w event
      refusal_changes_nothing w event = walk machine w event (Quiet w) (record {
        passes = λ after none rests refused. absurd (true≢false (sym refused));
        defines = λ lines definitions of_no none is refused. absurd (true≢false (sym refused));
        refuses = λ after prefix refusal few why rests refused. passed w after (at_rest after rests);
        turns = λ after name who statement taken_up own rests may. commanded-quiet w after (shared_of machine.opens w) who statement may.open_so (at_rest after rests);
      })
        where
          at_rest : (after : World m S) → Rests machine w after → Passed w after
          at_rest after rests = record {
            definitions = rests.definitions;
            shared = λ old is. ⊎_elim (λ same. same ∙ is) (λ closed. closed ∙ ap (λ (those : Option S). Some (unwrap_or those (machine.opens w.definitions))) is) rests.shared;
            unopened = λ none new is.
                ⊎_elim (λ same. absurd (none-some new (sym none ∙ sym same ∙ is))) (λ closed. same_Some new (machine.opens w.definitions) (sym is ∙ closed ∙ ap (λ (those : Option S). Some (unwrap_or those (machine.opens w.definitions))) none)) rests.shared;
            sessions = λ who session is.
                ⊎_elim (λ same. ap (λ (those : List m.Session). slice_get those who) same ∙ is) (λ longer. ap (λ (those : List m.Session). slice_get those who) longer ∙ slice_get-append w.sessions (m.new_session (length w.names) ∷ []) who session is) rests.sessions;
          }
