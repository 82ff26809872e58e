-- Outcomes behind those that were used change nothing.
use Rattle.std.specs.Prelude.{◌≡◌, ◌≤◌, ◌<◌, ◌||◌, ◌++◌, ◌+◌, ℕ, zero, suc, Bool, true, false, List, [], ◌∷◌, length, Option, None, Some, unwrap_or, refl}
use Rattle.std.proofs.Common.{◌∙◌, ap, ap₂, sym, subst, arith, length-append, append-nil}
use Rattle.script_world.specs.Meaning.{Meaning}
use Rattle.script_world.specs.Worlds.{World, Machine, Event, Planned, answers, asks, turned, planned, settled, answered, text_of, any_refused, is_refused, world_after}
use Rattle.script_world.specs.Outcomes.{Outcome, done, faulted, Writing, OnDisk, ended_so, written, on_disk, among, by_list, used, opening}
use Rattle.script_world.specs.Laws.{SameOf, GoesOn}
use Rattle.script_world.proofs.callers.Moves.{Keeps, lifts, AsksWith, asks_with}
use Rattle.script_world.proofs.callers.Appending.{text_of-append, any_refused-append, world_after-append}

module _ {m : Meaning} {R S : Type 0} (writing : Writing m R) (machine : Machine m S) where
  module _ (next : ℕ → Outcome) where
    -- ---- attempts grow
    pub ended-longer : (outcome : Outcome) (disk : OnDisk R S) (attempted : R) (r : m.Reply × S) → length (ended_so writing outcome disk attempted r).1.tried ≡ length disk.tried + 1
    ended-longer done disk attempted r = length-append disk.tried ((record { attempted = attempted; outcome = done }) ∷ [])
    ended-longer faulted disk attempted r = length-append disk.tried ((record { attempted = attempted; outcome = faulted }) ∷ [])

    written-longer : (outcome : Outcome) (disk : OnDisk R S) (r : m.Reply × S) (attempted : Option R) → length disk.tried ≤ length (written writing outcome disk r attempted).1.tried
    written-longer outcome disk r None = omega arith
    written-longer outcome disk r (Some attempted) = omega (arith, ended-longer outcome disk attempted r)

    abbrev UsedAtLeast : ℕ → World m (OnDisk R S) → Type 0
    UsedAtLeast n w = n ≤ used w.shared

    grows : (n : ℕ) → Keeps (on_disk writing next machine) (UsedAtLeast n) (λ _ _. Unit {0})
    grows n = record {
      lines = λ w lines it. it;
      defines = λ w lines definitions none is it. it;
      closes = λ w none it. subst (λ (shared : Option (OnDisk R S)). n ≤ used shared) none it;
      appears = λ w name shared is it. it;
      begins = λ w who shared statement answer session own may is it. it;
      steps = λ w who shared statement entry waiting own may is it.
          let r = machine.step shared.state entry in
          omega (arith, written-longer (next (length shared.tried)) shared r (writing.of_step entry r.0), subst (λ (those : Option (OnDisk R S)). n ≤ used those) may.open_so it);
    }

    pub used-grows : (w : World m (OnDisk R S)) (events : List Event) → used w.shared ≤ used (world_after (on_disk writing next machine) w events).shared
    used-grows w events = lifts (on_disk writing next machine) (λ _. Unit {0}) (λ lines text name statement is. tt) (UsedAtLeast (used w.shared)) (grows (used w.shared)) w events (omega arith)

  -- ---- two rows of outcomes that agree below a bound
  module _ (next other : ℕ → Outcome) (bound : ℕ) (agree : (at : ℕ) → at < bound → other at ≡ next at) where
    settled-same : (p : Planned m (OnDisk R S)) → used (settled (on_disk writing next machine) p).world.shared ≤ bound → settled (on_disk writing other machine) p ≡ settled (on_disk writing next machine) p
    settled-same (answers a) few = refl
    settled-same (asks w disk who waiting entry) few = by_record (writing.of_step entry r.0) few
      where
        r : m.Reply × S
        r = machine.step disk.state entry

        by_record : (attempted : Option R) → length (written writing (next (length disk.tried)) disk r attempted).1.tried ≤ bound → turned w who waiting (written writing (other (length disk.tried)) disk r attempted) ≡ turned w who waiting (written writing (next (length disk.tried)) disk r attempted)
        by_record None few = refl
        by_record (Some attempted) few =
            ap (λ outcome. turned w who waiting (ended_so writing outcome disk attempted r)) (agree (length disk.tried) (omega (arith, ended-longer next (next (length disk.tried)) disk attempted r, few)))

    pub answered-same : (w : World m (OnDisk R S)) (event : Event) → used (answered (on_disk writing next machine) w event).world.shared ≤ bound → answered (on_disk writing other machine) w event ≡ answered (on_disk writing next machine) w event
    answered-same w event few = settled-same (planned (on_disk writing next machine).opens w event) few

    pub told_once : (w : World m (OnDisk R S)) (events : List Event) → used (world_after (on_disk writing next machine) w events).shared ≤ bound → SameOf (on_disk writing next machine) (on_disk writing other machine) w events
    told_once w [] few = record { text = refl; refused = refl; world = refl }
    told_once w (event ∷ events) few =
        let a = answered (on_disk writing next machine) w event in
        let first = answered-same w event (omega (arith, used-grows next a.world events, few)) in
        let rest = told_once a.world events few in
        record {
          text = ap (λ b. b.text ++ text_of (on_disk writing other machine) b.world events) first ∙ ap (λ text. a.text ++ text) rest.text;
          refused = ap (λ b. is_refused b.answer || any_refused (on_disk writing other machine) b.world events) first ∙ ap (λ refused. is_refused a.answer || refused) rest.refused;
          world = ap (λ b. world_after (on_disk writing other machine) b.world events) first ∙ rest.world;
        }

-- ---- lists of outcomes

among-append : (coming more : List Outcome) (at : ℕ) → at < length coming → among (coming ++ more) at ≡ among coming at
among-append [] more at within = absurd (omega arith)
among-append (outcome ∷ coming) more zero within = refl
among-append (outcome ∷ coming) more (suc at) within = among-append coming more at (omega arith)

-- the state that an entry asks has used what the world has used
module _ {m : Meaning} {R S : Type 0} (opens : m.Definitions → OnDisk R S) where
  pub asks-used : (w : World m (OnDisk R S)) (event : Event) → ((definitions : m.Definitions) → length (opens definitions).tried ≡ 0) → AsksWith (λ disk. length disk.tried ≡ used w.shared) (planned opens w event)
  asks-used w event none = asks_with (λ disk. length disk.tried ≡ used w.shared) opens w event (by_shared w.shared)
    where
      by_shared : (shared : Option (OnDisk R S)) → length (unwrap_or shared (opens w.definitions)).tried ≡ used shared
      by_shared None = none w.definitions
      by_shared (Some disk) = refl

pub or-false : (b : Bool) → (b || false) ≡ b
or-false true = refl
or-false false = refl

module _ {m : Meaning} {R S : Type 0} (writing : Writing m R) (machine : Machine m S) where
  abbrev with_list : List Outcome → Machine m (OnDisk R S)
  with_list coming = by_list writing machine coming

  pub list_told_once : (w : World m (OnDisk R S)) (coming more : List Outcome) (events : List Event) → used (world_after (with_list coming) w events).shared ≤ length coming → SameOf (with_list coming) (with_list (coming ++ more)) w events
  list_told_once w coming more events few =
      told_once writing machine (among coming) (among (coming ++ more)) (length coming) (among-append coming more) w events few

  -- one more event, whose step used the outcomes that are new
  pub goes_on : (w : World m (OnDisk R S)) (coming new : List Outcome) (events : List Event) (event : Event) → used (world_after (with_list coming) w events).shared ≤ length coming → GoesOn writing machine w coming new events event
  goes_on w coming new events event few =
      let told = list_told_once w coming new events few in
      let all = with_list (coming ++ new) in
      record {
        text = text_of-append all w events (event ∷ []) ∙ ap₂ (λ (text more : List ℕ). text ++ more) told.text (append-nil _ ∙ ap (λ it. (answered all it event).text) told.world);
        refused = any_refused-append all w events (event ∷ []) ∙ ap₂ (λ (refused more : Bool). refused || more) told.refused (or-false _ ∙ ap (λ it. is_refused (answered all it event).answer) told.world);
        world = world_after-append all w events (event ∷ []) ∙ ap (λ it. (answered all it event).world) told.world;
      }

  -- ---- outcomes that are all done
  pub all_done : (w : World m (OnDisk R S)) (next : ℕ → Outcome) (events : List Event) → ((at : ℕ) → next at ≡ done) → SameOf (on_disk writing next machine) (on_disk writing (λ _. done) machine) w events
  all_done w next events dones =
      told_once writing machine next (λ _. done) (used (world_after (on_disk writing next machine) w events).shared) (λ at below. sym (dones at)) w events (omega arith)

pub used-opening : (m : Meaning) (R S : Type 0) (names : List (List ℕ)) (definitions : Option m.Definitions) (state : S) → let w : World m (OnDisk R S) = opening names definitions state in used w.shared ≡ 0
used-opening m R S names None state = refl
used-opening m R S names (Some definitions) state = refl
