-- A session's turn by itself, for laws on single statements.
use Rattle.std.specs.Prelude.{◌≡◌, ℕ, List, Some, slice_set, refl}
use Rattle.std.proofs.Common.{ap}
use Rattle.ses_report.specs.Reports.{Answer}
use Rattle.script_world.specs.Meaning.{Begun, said, ask, Meaning}
use Rattle.script_world.specs.Worlds.{World, Machine, Answered, answered_so, name_at, own_session, begun_so, commanded, settled}

pub record Turn (m : Meaning) (S : Type 0) : Type 0 where
  pub answer : Answer
  pub session : m.Session
  pub shared : S

module _ {m : Meaning} {S : Type 0} (machine : Machine m S) where
  abbrev pub replied : m.Definitions → List (List ℕ) → m.Waiting → m.Reply × S → Turn m S
  replied d names waiting r =
      let f = m.finish d names waiting r.0 in
      record { answer = f.0; session = f.1; shared = r.1 }

  abbrev pub turn_from : m.Definitions → List (List ℕ) → S → Begun m.Entry m.Session m.Waiting → Turn m S
  turn_from d names shared (said answer session) = record { answer = answer; session = session; shared = shared }
  turn_from d names shared (ask entry waiting) = replied d names waiting (machine.step shared entry)

  abbrev pub turn : m.Definitions → List (List ℕ) → S → m.Session → m.Statement → Turn m S
  turn d names shared session statement = turn_from d names shared (m.begin d session statement)

  -- the world after a turn
  abbrev pub with_turn : World m S → ℕ → Turn m S → Answered m S
  with_turn w who t = answered_so (name_at w.names who) t.answer (record w { shared = Some t.shared; sessions = slice_set w.sessions who t.session })

  pub commanded-turn : (w : World m S) (shared : S) (who : ℕ) (statement : m.Statement) → w.shared ≡ Some shared → settled machine (commanded w shared who statement) ≡ with_turn w who (turn w.definitions w.names shared (own_session w who) statement)
  commanded-turn w shared who statement is_open = by_begun (m.begin w.definitions (own_session w who) statement)
    where
      by_begun : (b : Begun m.Entry m.Session m.Waiting) → settled machine (begun_so w shared who b) ≡ with_turn w who (turn_from w.definitions w.names shared b)
      by_begun (said answer session) =
          ap (λ those. let it : World m S = record w { shared = those; sessions = slice_set w.sessions who session } in answered_so (name_at w.names who) answer it) is_open
      by_begun (ask entry waiting) = refl
