-- An event leaves each session that it isn't of.
use Rattle.std.specs.Prelude.{◌≡◌, ◌≢◌, ◌++◌, ℕ, List, [], ◌∷◌, length, nat_lt, Some, slice_get}
use Rattle.std.specs.Option.{ForSome}
use Rattle.std.proofs.Common.{◌∙◌}
use Rattle.script_world.specs.Meaning.{Meaning}
use Rattle.script_world.specs.Worlds.{World, Machine, Event, session_of, answered}
use Rattle.script_world.specs.Laws.{KeepsOthers}
use Rattle.script_world.proofs.callers.Elements.{slice_get-set_other, slice_get-append}
use Rattle.script_world.proofs.callers.Moves.{if-holds, Keeps, answered-keeps}

module _ {m : Meaning} {S : Type 0} (machine : Machine m S) (who : ℕ) (session : m.Session) where
  abbrev Holds : World m S → Type 0
  Holds w = slice_get w.sessions who ≡ Some session

  keeps : Keeps machine Holds (λ other statement. who ≢ other)
  keeps = record {
    lines = λ w lines it. it;
    defines = λ w lines definitions none is it. it;
    closes = λ w none it. it;
    appears = λ w name shared is it. if-holds (λ (sessions : List m.Session). slice_get sessions who ≡ Some session) (nat_lt (length w.names) 64) (w.sessions ++ m.new_session (length w.names) ∷ []) w.sessions (slice_get-append w.sessions (m.new_session (length w.names) ∷ []) who session it) it;
    begins = λ w other shared statement answer session differs may is it. slice_get-set_other w.sessions other who session differs ∙ it;
    steps = λ w other shared statement entry waiting differs may is it. slice_get-set_other w.sessions other who _ differs ∙ it;
  }

  own_kept : (w : World m S) (event : Event) → ForSome (session_of w event) (λ own. who ≢ own.0) → slice_get w.sessions who ≡ Some session → slice_get (answered machine w event).world.sessions who ≡ Some session
  own_kept w event differs it = answered-keeps machine Holds (λ other statement. who ≢ other) keeps w event differs it

pub keeps_others : {m : Meaning} {S : Type 0} (machine : Machine m S) (w : World m S) (event : Event) → KeepsOthers machine w event
keeps_others machine w event who session differs it = own_kept machine who session w event differs it
