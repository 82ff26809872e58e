-- What holds of each session by itself, as the shared state stands, holds of all sessions of every world that is reached.
use Rattle.std.specs.Prelude.{◌≡◌, ◌≢◌, ◌<◌, ◌++◌, ◌+◌, ℕ, zero, suc, min, Bool, true, false, List, [], ◌∷◌, length, nat_lt, Some, None, Ok, if◌then◌else◌, slice_get, slice_set, refl}
use Rattle.std.specs.Option.{ForSome}
use Rattle.std.proofs.Common.{◌∙◌, ap, sym, subst, ⊎_elim, arith, length-append, length-set}
use Rattle.std.proofs.lemmas.Bool.{ltb-true, ltb-false}
use Rattle.std.proofs.lemmas.Option.{none-some, same_Some, slice_get-get_or}
use Rattle.ses_report.specs.Reports.{Answer}
use Rattle.script_world.specs.Meaning.{said, ask, under, Meaning}
use Rattle.script_world.specs.Worlds.{World, Machine, Event, first_sessions, own_session, with_name, with_session, closed, world_after}
use Rattle.script_world.proofs.callers.Elements.{slice_get-set_cases, slice_get-push_cases}
use Rattle.script_world.proofs.callers.Moves.{MayTurn, Keeps, taken_up-keeps, lifts}

-- ---- sessions that no line has named

pub first-session : (m : Meaning) (at : ℕ) (names : List (List ℕ)) (who : ℕ) (session : m.Session) → slice_get (first_sessions m at names) who ≡ Some session → session ≡ m.new_session (at + who)
first-session m at [] who session is = absurd (none-some session is)
first-session m at (name ∷ names) who session is = by_room (nat_lt at 64) (λ who is. first-session m (at + 1) names who session is) who is
  where
    by_room : (room : Bool) → ((who : ℕ) → slice_get (first_sessions m (at + 1) names) who ≡ Some session → session ≡ m.new_session (at + 1 + who)) → (who : ℕ) → slice_get (if room then m.new_session at ∷ first_sessions m (at + 1) names else []) who ≡ Some session → session ≡ m.new_session (at + who)
    by_room false rest who is = absurd (none-some session is)
    by_room true rest zero is = sym (same_Some (m.new_session at) session is) ∙ ap m.new_session (omega arith)
    by_room true rest (suc who) is = rest who is ∙ ap m.new_session (omega arith)

length-first : (m : Meaning) (at room : ℕ) (names : List (List ℕ)) → at + room ≡ 64 → length (first_sessions m at names) ≡ min (length names) room
length-first m at room [] all = omega arith
length-first m at room (name ∷ names) all = by_room (nat_lt at 64) refl (λ room all. length-first m (at + 1) room names all) room all
  where
    by_room : (fits : Bool) → nat_lt at 64 ≡ fits → ((room : ℕ) → (at + 1) + room ≡ 64 → length (first_sessions m (at + 1) names) ≡ min (length names) room) → (room : ℕ) → at + room ≡ 64 → length (if fits then m.new_session at ∷ first_sessions m (at + 1) names else []) ≡ min (suc (length names)) room
    by_room false full rest room all = omega (arith, ltb-false at 64 full, all)
    by_room true below rest zero all = absurd (omega (arith, ltb-true at 64 below, all))
    by_room true below rest (suc room) all = omega (arith, rest room (omega (arith, all)))

module _ {m : Meaning} {S : Type 0} (machine : Machine m S) where
  -- the laws of one session by itself: of what is defined, until it is closed; of the shared state with so many sessions; of a session
  pub record Lawful (Spoken : m.Statement → Type 0) (Defined : m.Definitions → Type 0) (Sound : m.Definitions → S → ℕ → Type 0) (Fits : m.Definitions → S → ℕ → m.Session → Type 0) : Type 0 where
    pub defines : (d : m.Definitions) (lines : List (List ℕ)) (e : m.Definitions) → Defined d → m.define d lines ≡ Ok e → Defined e
    pub opens : (d : m.Definitions) → Defined d → Sound d (machine.opens d) 0
    -- a session appears
    pub grows : (d : m.Definitions) (shared : S) (count : ℕ) → Sound d shared count → Sound d shared (suc count)
    pub fresh : (d : m.Definitions) (shared : S) (count : ℕ) → Sound d shared count → Fits d shared count (m.new_session count)
    -- a session's begin
    pub begins : (d : m.Definitions) (shared : S) (count who : ℕ) (s : m.Session) (statement : m.Statement) (answer : Answer) (after : m.Session) → Spoken statement → who < count → Sound d shared count → Fits d shared who s → m.begin d s statement ≡ said answer after → Fits d shared who after
    -- its step and its finish
    pub steps : (d : m.Definitions) (shared : S) (count who : ℕ) (s : m.Session) (statement : m.Statement) (entry : m.Entry) (waiting : m.Waiting) → Spoken statement → who < count → Sound d shared count → Fits d shared who s → m.begin d s statement ≡ ask entry waiting → Sound d (machine.step shared entry).1 count
    pub own : (d : m.Definitions) (names : List (List ℕ)) (shared : S) (count who : ℕ) (s : m.Session) (statement : m.Statement) (entry : m.Entry) (waiting : m.Waiting) → Spoken statement → who < count → Sound d shared count → Fits d shared who s → m.begin d s statement ≡ ask entry waiting → Fits d (machine.step shared entry).1 who (m.finish d names waiting (machine.step shared entry).0).1
    -- the step of another session
    pub others : (d : m.Definitions) (shared : S) (count who : ℕ) (s : m.Session) (statement : m.Statement) (entry : m.Entry) (waiting : m.Waiting) → Spoken statement → who < count → Sound d shared count → Fits d shared who s → m.begin d s statement ≡ ask entry waiting → (other : ℕ) (t : m.Session) → other ≢ who → Fits d shared other t → Fits d (machine.step shared entry).1 other t

  module _ (Spoken : m.Statement → Type 0) (Defined : m.Definitions → Type 0) (Sound : m.Definitions → S → ℕ → Type 0) (Fits : m.Definitions → S → ℕ → m.Session → Type 0) where
    pub record AllFit (definitions : m.Definitions) (sessions : List m.Session) (shared : S) : Type 0 where
      pub sound : Sound definitions shared (length sessions)
      pub each : (who : ℕ) → ForSome (slice_get sessions who) (Fits definitions shared who)

    pub record WorldFits (w : World m S) : Type 0 where
      pub defined : w.shared ≡ None → Defined w.definitions
      pub paired : length w.sessions ≡ min (length w.names) 64
      pub unopened : w.shared ≡ None → w.sessions ≡ first_sessions m 0 w.names
      pub shared : ForSome w.shared (AllFit w.definitions w.sessions)

    module _ (lawful : Lawful Spoken Defined Sound Fits) where
      -- a world that is open
      opened : (w : World m S) (shared : S) → w.shared ≡ Some shared → length w.sessions ≡ min (length w.names) 64 → AllFit w.definitions w.sessions shared → WorldFits w
      opened w shared is paired fit = record {
        defined = λ none. absurd (none-some shared (sym none ∙ is));
        paired = paired;
        unopened = λ none. absurd (none-some shared (sym none ∙ is));
        shared = λ those same. subst (AllFit w.definitions w.sessions) (same_Some shared those (sym is ∙ same)) fit;
      }

      -- sessions that no line has named
      first-fit : (names : List (List ℕ)) (d : m.Definitions) (shared : S) → Sound d shared 0 → AllFit d (first_sessions m 0 names) shared
      first-fit names d shared sound = record {
        sound = grown (length (first_sessions m 0 names));
        each = λ who session is. subst (Fits d shared who) (sym (first-session m 0 names who session is ∙ ap m.new_session (omega arith))) (lawful.fresh d shared who (grown who));
      }
        where
          grown : (count : ℕ) → Sound d shared count
          grown zero = sound
          grown (suc count) = lawful.grows d shared count (grown count)

      -- the world in which a run begins
      pub begins_so : (w : World m S) → w.sessions ≡ first_sessions m 0 w.names → (w.shared ≡ None → Defined w.definitions) → ForSome w.shared (λ shared. Sound w.definitions shared 0) → WorldFits w
      begins_so w first defined sound = record {
        defined = defined;
        paired = ap length first ∙ length-first m 0 64 w.names refl;
        unopened = λ none. first;
        shared = λ shared is. subst (λ (sessions : List m.Session). AllFit w.definitions sessions shared) (sym first) (first-fit w.names w.definitions shared (sound shared is));
      }

      closes-fits : (w : World m S) → w.shared ≡ None → WorldFits w → WorldFits (record w { shared = Some (machine.opens w.definitions) })
      closes-fits w none it =
          let new : World m S = record w { shared = Some (machine.opens w.definitions) } in
          opened new (machine.opens w.definitions) refl it.paired
          (subst (λ (sessions : List m.Session). AllFit w.definitions sessions (machine.opens w.definitions)) (sym (it.unopened none))
          (first-fit w.names w.definitions (machine.opens w.definitions) (lawful.opens w.definitions (it.defined none))))

      pushed : (d : m.Definitions) (sessions : List m.Session) (shared : S) → AllFit d sessions shared → AllFit d (sessions ++ m.new_session (length sessions) ∷ []) shared
      pushed d sessions shared fit = record {
        sound = subst (Sound d shared) (sym (length-append sessions (m.new_session (length sessions) ∷ []) ∙ omega arith)) (lawful.grows d shared (length sessions) fit.sound);
        each = λ who session is.
            ⊎_elim (λ old. fit.each who session old)
            (λ last. subst (λ (at : ℕ). Fits d shared at session) (sym last.0) (subst (Fits d shared (length sessions)) (sym last.1) (lawful.fresh d shared (length sessions) fit.sound)))
            (slice_get-push_cases sessions (m.new_session (length sessions)) who session is);
      }

      appears-fits : (w : World m S) (name : List ℕ) (shared : S) → w.shared ≡ Some shared → WorldFits w → WorldFits (with_name w name)
      appears-fits w name shared is it = by_room (nat_lt (length w.names) 64) refl
        where
          by_room : (room : Bool) → nat_lt (length w.names) 64 ≡ room → WorldFits (record w { names = w.names ++ name ∷ []; sessions = if room then w.sessions ++ m.new_session (length w.names) ∷ [] else w.sessions })
          by_room true room =
              let same : length w.sessions ≡ length w.names = omega (arith, it.paired, ltb-true (length w.names) 64 room) in
              opened (record w { names = w.names ++ name ∷ []; sessions = w.sessions ++ m.new_session (length w.names) ∷ [] }) shared is
              (omega (arith, length-append w.names (name ∷ []), length-append w.sessions (m.new_session (length w.names) ∷ []), same, ltb-true (length w.names) 64 room))
              (subst (λ (at : ℕ). AllFit w.definitions (w.sessions ++ m.new_session at ∷ []) shared) same (pushed w.definitions w.sessions shared (it.shared shared is)))
          by_room false full =
              opened (record w { names = w.names ++ name ∷ []; sessions = w.sessions }) shared is
              (omega (arith, length-append w.names (name ∷ []), it.paired, ltb-false (length w.names) 64 full))
              (it.shared shared is)

      -- a session that takes its turn stands at its place
      record Here (w : World m S) (who : ℕ) (shared : S) : Type 0 where
        few : who < length w.sessions
        all : AllFit w.definitions w.sessions shared
        fits : Fits w.definitions shared who (own_session w who)

      here : (w : World m S) (who : ℕ) (shared : S) → MayTurn machine w who shared → WorldFits w → Here w who shared
      here w who shared may it =
          let few : who < length w.sessions = omega (arith, it.paired, may.room, may.named) in
          let all = it.shared shared may.open_so in
          record { few = few; all = all; fits = all.each who (own_session w who) (slice_get-get_or w.sessions who (m.new_session who) few) }

      set_fits : (d : m.Definitions) (sessions : List m.Session) (shared after : S) (who : ℕ) (s : m.Session) → Sound d after (length sessions) → Fits d after who s → ((other : ℕ) (t : m.Session) → other ≢ who → slice_get sessions other ≡ Some t → Fits d after other t) → AllFit d (slice_set sessions who s) after
      set_fits d sessions shared after who s sound own rest = record {
        sound = subst (Sound d after) (sym (length-set sessions who s)) sound;
        each = λ other t is.
            ⊎_elim (λ same. subst (λ (at : ℕ). Fits d after at t) (sym same.0) (subst (Fits d after who) (sym same.1) own))
            (λ old. rest other t old.0 old.1)
            (slice_get-set_cases sessions who other s t is);
      }

      fits_kept : Keeps machine WorldFits (λ who. Spoken)
      fits_kept = record {
        lines = λ w lines it. record { defined = it.defined; paired = it.paired; unopened = it.unopened; shared = it.shared };
        defines = λ w lines definitions none is it. record {
          defined = λ still. lawful.defines w.definitions lines definitions (it.defined none) is;
          paired = it.paired;
          unopened = it.unopened;
          shared = λ shared same. absurd (none-some shared (sym none ∙ same));
        };
        closes = closes-fits;
        appears = appears-fits;
        begins = λ w who shared statement answer s own may is it.
            let h = here w who shared may it in
            opened (record w { sessions = slice_set w.sessions who s }) shared may.open_so (length-set w.sessions who s ∙ it.paired)
            (set_fits w.definitions w.sessions shared shared who s h.all.sound (lawful.begins w.definitions shared (length w.sessions) who (own_session w who) statement answer s own h.few h.all.sound h.fits is) (λ other t differs found. h.all.each other t found));
        steps = λ w who shared statement entry waiting own may is it.
            let h = here w who shared may it in
            let r = machine.step shared entry in
            let s = (m.finish w.definitions w.names waiting r.0).1 in
            opened (record w { shared = Some r.1; sessions = slice_set w.sessions who s }) r.1 refl (length-set w.sessions who s ∙ it.paired)
            (set_fits w.definitions w.sessions shared r.1 who s (lawful.steps w.definitions shared (length w.sessions) who (own_session w who) statement entry waiting own h.few h.all.sound h.fits is) (lawful.own w.definitions w.names shared (length w.sessions) who (own_session w who) statement entry waiting own h.few h.all.sound h.fits is) (λ other t differs found. lawful.others w.definitions shared (length w.sessions) who (own_session w who) statement entry waiting own h.few h.all.sound h.fits is other t differs (h.all.each other t found)));
      }

      pub worlds_fit : ((lines : List (List ℕ)) (text name : List ℕ) (statement : m.Statement) → m.form lines text ≡ under name statement → Spoken statement) → (w : World m S) (events : List Event) → WorldFits w → WorldFits (world_after machine w events)
      worlds_fit spoken w events it = lifts machine Spoken spoken WorldFits fits_kept w events it

      -- the world in which a session's line is taken up
      pub taken_up-fits : (w : World m S) (name : List ℕ) → WorldFits w → WorldFits (with_session (closed machine.opens w) name)
      taken_up-fits w name it = taken_up-keeps machine WorldFits (λ who. Spoken) fits_kept w name it
