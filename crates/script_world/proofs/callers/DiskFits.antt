-- A disk that may fail keeps what the machine keeps, where a session that hears of a fault does.
use Rattle.std.specs.Prelude.{◌≡◌, ◌<◌, ◌++◌, ℕ, List, [], ◌∷◌, length, map, Option, Some, None, refl}
use Rattle.std.specs.Option.{option_to_list}
use Rattle.std.proofs.Common.{◌∙◌, ap, sym, subst, append_assoc, append-nil}
use Rattle.script_world.specs.Meaning.{ask, Meaning}
use Rattle.script_world.specs.Worlds.{Machine}
use Rattle.script_world.specs.Outcomes.{Outcome, done, faulted, Attempt, Writing, OnDisk, ended_so, written, on_disk, as_done, attempts_of, done_records}
use Rattle.script_world.proofs.callers.Forks.{done_records-append}
use Rattle.script_world.proofs.callers.Fits.{Lawful}

module _ {m : Meaning} {R S : Type 0} (writing : Writing m R) (machine : Machine m S) (next : ℕ → Outcome) where
  -- what holds of the machine's reply and state, and of a fault and the old state, holds of the disk's
  pub written-holds : (Q : m.Reply → S → Type 0) (outcome : Outcome) (disk : OnDisk R S) (r : m.Reply × S) (attempted : Option R) → Q r.0 r.1 → Q writing.fault disk.state → Q (written writing outcome disk r attempted).0 (written writing outcome disk r attempted).1.state
  written-holds Q outcome disk r None it fault = it
  written-holds Q done disk r (Some attempted) it fault = it
  written-holds Q faulted disk r (Some attempted) it fault = fault

  pub step-holds : (Q : m.Reply → S → Type 0) (disk : OnDisk R S) (entry : m.Entry) → (let r = machine.step disk.state entry in Q r.0 r.1) → Q writing.fault disk.state → let r = (on_disk writing next machine).step disk entry in Q r.0 r.1.state
  step-holds Q disk entry it fault =
      let r = machine.step disk.state entry in
      written-holds Q (next (length disk.tried)) disk r (writing.of_step entry r.0) it fault

  module _ (Spoken : m.Statement → Type 0) (Defined : m.Definitions → Type 0) (Sound : m.Definitions → S → ℕ → Type 0) (Fits : m.Definitions → S → ℕ → m.Session → Type 0) where
    abbrev pub FaultsKeep : Type 0
    FaultsKeep =
        (d : m.Definitions) (names : List (List ℕ)) (shared : S) (who : ℕ) (s : m.Session) (statement : m.Statement) (entry : m.Entry) (waiting : m.Waiting) → Spoken statement → Fits d shared who s → m.begin d s statement ≡ ask entry waiting → Fits d shared who (m.finish d names waiting writing.fault).1

    pub disk_lawful : Lawful machine Spoken Defined Sound Fits → FaultsKeep → Lawful (on_disk writing next machine) Spoken Defined (λ d disk. Sound d disk.state) (λ d disk. Fits d disk.state)
    disk_lawful lawful faults = record {
      defines = lawful.defines;
      opens = lawful.opens;
      grows = λ d disk count sound. lawful.grows d disk.state count sound;
      fresh = λ d disk count sound. lawful.fresh d disk.state count sound;
      begins = λ d disk count who s statement answer after spoken few sound fits is. lawful.begins d disk.state count who s statement answer after spoken few sound fits is;
      steps = λ d disk count who s statement entry waiting spoken few sound fits asks.
          step-holds (λ reply after. Sound d after count) disk entry (lawful.steps d disk.state count who s statement entry waiting spoken few sound fits asks) sound;
      own = λ d names disk count who s statement entry waiting spoken few sound fits asks.
          step-holds (λ reply after. Fits d after who (m.finish d names waiting reply).1) disk entry (lawful.own d names disk.state count who s statement entry waiting spoken few sound fits asks) (faults d names disk.state who s statement entry waiting spoken fits asks);
      others = λ d disk count who s statement entry waiting spoken few sound fits asks other t differs it.
          step-holds (λ reply after. Fits d after other t) disk entry (lawful.others d disk.state count who s statement entry waiting spoken few sound fits asks other t differs it) it;
    }

    -- ---- records that stand for the state

    -- what is on a disk that had these records
    abbrev pub on_it : List R → OnDisk R S → List R
    on_it records disk = records ++ done_records (attempts_of (Some disk))

    -- Records stand for definitions and a state, from the record of the definitions on, behind each record that a session's
    -- step writes, and over each step that writes none.
    pub record Recorded (records : List R) (Stands : List R → m.Definitions → S → Type 0) : Type 0 where
      pub opens : (d : m.Definitions) → Defined d → Stands (records ++ writing.of_definitions d ∷ []) d (machine.opens d)
      pub writes : (those : List R) (d : m.Definitions) (shared : S) (count who : ℕ) (s : m.Session) (statement : m.Statement) (entry : m.Entry) (waiting : m.Waiting) (r : R) → Spoken statement → who < count → Sound d shared count → Fits d shared who s → m.begin d s statement ≡ ask entry waiting → writing.of_step entry (machine.step shared entry).0 ≡ Some r → Stands those d shared → Stands (those ++ r ∷ []) d (machine.step shared entry).1
      pub passes : (those : List R) (d : m.Definitions) (shared : S) (count who : ℕ) (s : m.Session) (statement : m.Statement) (entry : m.Entry) (waiting : m.Waiting) → Spoken statement → who < count → Sound d shared count → Fits d shared who s → m.begin d s statement ≡ ask entry waiting → writing.of_step entry (machine.step shared entry).0 ≡ None → Stands those d shared → Stands those d (machine.step shared entry).1

    pub record Both (records : List R) (Stands : List R → m.Definitions → S → Type 0) (d : m.Definitions) (disk : OnDisk R S) (count : ℕ) : Type 0 where
      pub sound : Sound d disk.state count
      pub stands : Stands (on_it records disk) d disk.state

    on_it-ended : (records : List R) (disk : OnDisk R S) (attempted : R) (r : m.Reply × S) → on_it records (ended_so writing done disk attempted r).1 ≡ on_it records disk ++ attempted ∷ []
    on_it-ended records disk attempted r =
        let last : Attempt R = record { attempted = attempted; outcome = done } in
        let before = map as_done (option_to_list disk.opened) in
        ap (λ those. records ++ done_records those) (sym (append_assoc before disk.tried (last ∷ []))) ∙ ap (λ those. records ++ those) (done_records-append (before ++ disk.tried) (last ∷ [])) ∙ sym (append_assoc records (done_records (before ++ disk.tried)) (attempted ∷ []))

    on_it-faulted : (records : List R) (disk : OnDisk R S) (attempted : R) (r : m.Reply × S) → on_it records (ended_so writing faulted disk attempted r).1 ≡ on_it records disk
    on_it-faulted records disk attempted r =
        let last : Attempt R = record { attempted = attempted; outcome = faulted } in
        let before = map as_done (option_to_list disk.opened) in
        ap (λ those. records ++ done_records those) (sym (append_assoc before disk.tried (last ∷ []))) ∙ ap (λ those. records ++ those) (done_records-append (before ++ disk.tried) (last ∷ []) ∙ append-nil _)

    pub recorded_lawful : (records : List R) (Stands : List R → m.Definitions → S → Type 0) → Lawful machine Spoken Defined Sound Fits → FaultsKeep → Recorded records Stands → Lawful (on_disk writing next machine) Spoken Defined (Both records Stands) (λ d disk. Fits d disk.state)
    recorded_lawful records Stands lawful faults recorded = record {
      defines = lawful.defines;
      opens = λ d it. record { sound = lawful.opens d it; stands = recorded.opens d it };
      grows = λ d disk count it. record { sound = lawful.grows d disk.state count it.sound; stands = it.stands };
      fresh = λ d disk count it. lawful.fresh d disk.state count it.sound;
      begins = λ d disk count who s statement answer after spoken few it fits is. lawful.begins d disk.state count who s statement answer after spoken few it.sound fits is;
      steps = λ d disk count who s statement entry waiting spoken few it fits asks. record {
        sound = step-holds (λ reply after. Sound d after count) disk entry (lawful.steps d disk.state count who s statement entry waiting spoken few it.sound fits asks) it.sound;
        stands = stands_on d disk count who s statement entry waiting spoken few it fits asks (writing.of_step entry (machine.step disk.state entry).0) refl;
      };
      own = λ d names disk count who s statement entry waiting spoken few it fits asks.
          step-holds (λ reply after. Fits d after who (m.finish d names waiting reply).1) disk entry (lawful.own d names disk.state count who s statement entry waiting spoken few it.sound fits asks) (faults d names disk.state who s statement entry waiting spoken fits asks);
      others = λ d disk count who s statement entry waiting spoken few it fits asks other t differs its.
          step-holds (λ reply after. Fits d after other t) disk entry (lawful.others d disk.state count who s statement entry waiting spoken few it.sound fits asks other t differs its) its;
    }
      where
        stands_on : (d : m.Definitions) (disk : OnDisk R S) (count who : ℕ) (s : m.Session) (statement : m.Statement) (entry : m.Entry) (waiting : m.Waiting) → Spoken statement → who < count → Both records Stands d disk count → Fits d disk.state who s → m.begin d s statement ≡ ask entry waiting → (attempted : Option R) → writing.of_step entry (machine.step disk.state entry).0 ≡ attempted →
            let after = (written writing (next (length disk.tried)) disk (machine.step disk.state entry) attempted).1 in
            Stands (on_it records after) d after.state
        stands_on d disk count who s statement entry waiting spoken few it fits asks None none =
            recorded.passes (on_it records disk) d disk.state count who s statement entry waiting spoken few it.sound fits asks none it.stands
        stands_on d disk count who s statement entry waiting spoken few it fits asks (Some attempted) is = by_outcome (next (length disk.tried))
          where
            r : m.Reply × S
            r = machine.step disk.state entry

            by_outcome : (outcome : Outcome) →
                let after = (ended_so writing outcome disk attempted r).1 in
                Stands (on_it records after) d after.state
            by_outcome done = subst (λ (those : List R). Stands those d r.1) (sym (on_it-ended records disk attempted r)) (recorded.writes (on_it records disk) d disk.state count who s statement entry waiting attempted spoken few it.sound fits asks is it.stands)
            by_outcome faulted = subst (λ (those : List R). Stands those d disk.state) (sym (on_it-faulted records disk attempted r)) it.stands
