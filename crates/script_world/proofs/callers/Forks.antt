-- Two rows of outcomes that agree up to one attempt: the runs are the same, or part at this attempt.
use Rattle.std.specs.Prelude.{◌≡◌, ◌≤◌, ◌<◌, ◌⊎◌, ◌++◌, ℕ, Bool, true, false, List, [], ◌∷◌, length, nat_le, Option, None, Some, refl}
use Rattle.std.proofs.Common.{◌∙◌, ap, sym, subst, inl, inr, ⊎_elim, arith, length-append, append_assoc, append-nil}
use Rattle.std.proofs.lemmas.Bool.{leb-true, leb-false}
use Rattle.std.proofs.lemmas.Option.{none-some, same_Some}
use Rattle.script_world.specs.Meaning.{Meaning}
use Rattle.script_world.specs.Worlds.{World, Machine, Event, Answered, Planned, answers, asks, turned, planned, settled, answered, world_after}
use Rattle.script_world.specs.Outcomes.{Outcome, done, faulted, Attempt, Writing, OnDisk, ended_so, written, on_disk, used, settled_by, done_records}
use Rattle.script_world.proofs.callers.Moves.{Keeps, answered-keeps, lifts, AsksWith}
use Rattle.script_world.proofs.callers.UnusedOutcomes.{asks-used, ended-longer}

pub done_records-append : {R : Type 0} (made more : List (Attempt R)) → done_records (made ++ more) ≡ done_records made ++ done_records more
done_records-append [] more = refl
done_records-append (attempt ∷ made) more = by_outcome attempt.outcome (done_records-append made more)
  where
    by_outcome : (outcome : Outcome) → done_records (made ++ more) ≡ done_records made ++ done_records more → settled_by outcome attempt.attempted ++ done_records (made ++ more) ≡ (settled_by outcome attempt.attempted ++ done_records made) ++ done_records more
    by_outcome done rest = ap (λ rest. attempt.attempted ∷ rest) rest
    by_outcome faulted rest = rest

-- the disk has this record of definitions, and first these attempts; the others were such
pub record BeginsWith {R S : Type 0} (Such : List (Attempt R) → Type 0) (opened : Option R) (first : List (Attempt R)) (shared : Option (OnDisk R S)) : Type 0 where
  pub disk : OnDisk R S
  pub is : shared ≡ Some disk
  pub same : disk.opened ≡ opened
  pub rest : List (Attempt R)
  pub tried : disk.tried ≡ first ++ rest
  pub such : Such rest

abbrev pub at_end : {R : Type 0} → List (Attempt R) → R → Outcome → List (Attempt R)
at_end made attempted outcome = made ++ (record { attempted = attempted; outcome = outcome }) ∷ []

module _ {m : Meaning} {R S : Type 0} (writing : Writing m R) (machine : Machine m S) where
  -- attempts go behind those that were made
  module _ (next : ℕ → Outcome) (Such : List (Attempt R) → Type 0) (opened : Option R) (first : List (Attempt R)) (goes_on : (rest : List (Attempt R)) (attempted : R) → Such rest → Such (at_end rest attempted (next (length (first ++ rest))))) where
    abbrev Begins : World m (OnDisk R S) → Type 0
    Begins w = BeginsWith Such opened first w.shared

    ended-begins : (outcome : Outcome) (disk : OnDisk R S) (attempted : R) (r : m.Reply × S) → ((rest : List (Attempt R)) → disk.tried ≡ first ++ rest → Such rest → Such (at_end rest attempted outcome)) → BeginsWith Such opened first (Some disk) → BeginsWith Such opened first (Some (ended_so writing outcome disk attempted r).1)
    ended-begins done disk attempted r goes it =
        let old = same_Some disk it.disk it.is in
        let tried : disk.tried ≡ first ++ it.rest = ap (λ d. d.tried) old ∙ it.tried in
        record {
          disk = (ended_so writing done disk attempted r).1;
          is = refl;
          same = ap (λ d. d.opened) old ∙ it.same;
          rest = at_end it.rest attempted done;
          tried = ap (λ those. at_end those attempted done) tried ∙ append_assoc first it.rest _;
          such = goes it.rest tried it.such;
        }
    ended-begins faulted disk attempted r goes it =
        let old = same_Some disk it.disk it.is in
        let tried : disk.tried ≡ first ++ it.rest = ap (λ d. d.tried) old ∙ it.tried in
        record {
          disk = (ended_so writing faulted disk attempted r).1;
          is = refl;
          same = ap (λ d. d.opened) old ∙ it.same;
          rest = at_end it.rest attempted faulted;
          tried = ap (λ those. at_end those attempted faulted) tried ∙ append_assoc first it.rest _;
          such = goes it.rest tried it.such;
        }

    written-begins : (disk : OnDisk R S) (r : m.Reply × S) (attempted : Option R) → BeginsWith Such opened first (Some disk) → BeginsWith Such opened first (Some (written writing (next (length disk.tried)) disk r attempted).1)
    written-begins disk r None it =
        let old = same_Some disk it.disk it.is in
        record {
          disk = record disk { state = r.1 };
          is = refl;
          same = ap (λ d. d.opened) old ∙ it.same;
          rest = it.rest;
          tried = ap (λ d. d.tried) old ∙ it.tried;
          such = it.such;
        }
    written-begins disk r (Some attempted) it =
        ended-begins (next (length disk.tried)) disk attempted r (λ rest tried such. subst (λ those. Such (at_end rest attempted (next (length those)))) (sym tried) (goes_on rest attempted such)) it

    begins_kept : Keeps (on_disk writing next machine) Begins (λ _ _. Unit {0})
    begins_kept = record {
      lines = λ w lines it. it;
      defines = λ w lines definitions none is it. it;
      closes = λ w none it. absurd (none-some it.disk (sym none ∙ it.is));
      appears = λ w name shared is it. it;
      begins = λ w who shared statement answer session own may is it. it;
      steps = λ w who shared statement entry waiting own may is it.
          let r = machine.step shared.state entry in
          written-begins shared r (writing.of_step entry r.0) (subst (BeginsWith Such opened first) may.open_so it);
    }

    pub begins_on : (w : World m (OnDisk R S)) (events : List Event) → Begins w → Begins (world_after (on_disk writing next machine) w events)
    begins_on w events it = lifts (on_disk writing next machine) (λ _. Unit {0}) (λ lines text name statement is. tt) Begins begins_kept w events it

  -- a machine that changes nothing tells what an event does without a step
  abbrev idle : Machine m (OnDisk R S)
  idle = record { opens = λ definitions. record { state = machine.opens definitions; opened = Some (writing.of_definitions definitions); tried = [] }; step = λ disk entry. (writing.fault, disk) }

  abbrev UsedAtMost : ℕ → World m (OnDisk R S) → Type 0
  UsedAtMost n w = used w.shared ≤ n

  idle_keeps : (n : ℕ) → Keeps idle (UsedAtMost n) (λ _ _. Unit {0})
  idle_keeps n = record {
    lines = λ w lines it. it;
    defines = λ w lines definitions none is it. it;
    closes = λ w none it. omega arith;
    appears = λ w name shared is it. it;
    begins = λ w who shared statement answer session own may is it. it;
    steps = λ w who shared statement entry waiting own may is it. subst (λ (those : Option (OnDisk R S)). used those ≤ n) may.open_so it;
  }

  idle-used : (w : World m (OnDisk R S)) (event : Event) → used (answered idle w event).world.shared ≤ used w.shared
  idle-used w event = answered-keeps idle (UsedAtMost (used w.shared)) (λ _ _. Unit {0}) (idle_keeps (used w.shared)) w event (λ own is. tt) (omega arith)

  -- ---- two rows of outcomes
  module _ (next other : ℕ → Outcome) (bound : ℕ) (agree : (at : ℕ) → at < bound → other at ≡ next at) where
    -- both runs come to the same attempt behind so many
    record Parts (left right : Option (OnDisk R S)) : Type 0 where
      opened : Option R
      made : List (Attempt R)
      attempted : R
      as_many : length made ≡ bound
      one : BeginsWith (λ rest. rest ≡ []) opened (at_end made attempted (next bound)) left
      another : BeginsWith (λ rest. rest ≡ []) opened (at_end made attempted (other bound)) right

    here : (outcome : Outcome) (disk : OnDisk R S) (attempted : R) (r : m.Reply × S) → BeginsWith (λ rest. rest ≡ []) disk.opened (at_end disk.tried attempted outcome) (Some (ended_so writing outcome disk attempted r).1)
    here done disk attempted r = record { disk = (ended_so writing done disk attempted r).1; is = refl; same = refl; rest = []; tried = sym (append-nil _); such = refl }
    here faulted disk attempted r = record { disk = (ended_so writing faulted disk attempted r).1; is = refl; same = refl; rest = []; tried = sym (append-nil _); such = refl }

    -- or they are the same so far
    abbrev Same : Answered m (OnDisk R S) → Answered m (OnDisk R S) → Type 0
    Same one another = (used one.world.shared ≤ bound) × (another ≡ one)

    settled-parts : (n : ℕ) → n ≤ bound → (p : Planned m (OnDisk R S)) → AsksWith (λ disk. length disk.tried ≡ n) p → used (settled idle p).world.shared ≤ n → Same (settled (on_disk writing next machine) p) (settled (on_disk writing other machine) p) ⊎ Parts (settled (on_disk writing next machine) p).world.shared (settled (on_disk writing other machine) p).world.shared
    settled-parts n few (answers a) holds kept = inl (omega (arith, few, kept), refl)
    settled-parts n few (asks w disk who waiting entry) holds kept = by_record (writing.of_step entry r.0)
      where
        r : m.Reply × S
        r = machine.step disk.state entry

        with_outcome : (ℕ → Outcome) → Option R → Answered m (OnDisk R S)
        with_outcome row attempted = turned w who waiting (written writing (row (length disk.tried)) disk r attempted)

        by_place : (attempted : R) (last : Bool) → nat_le bound (length disk.tried) ≡ last → Same (with_outcome next (Some attempted)) (with_outcome other (Some attempted)) ⊎ Parts (with_outcome next (Some attempted)).world.shared (with_outcome other (Some attempted)).world.shared
        by_place attempted true last =
            let as_many : length disk.tried ≡ bound = omega (arith, few, holds, leb-true bound (length disk.tried) last) in
            inr (record {
              opened = disk.opened;
              made = disk.tried;
              attempted = attempted;
              as_many = as_many;
              one = subst (λ n. BeginsWith (λ rest. rest ≡ []) disk.opened (at_end disk.tried attempted (next n)) (with_outcome next (Some attempted)).world.shared) as_many (here (next (length disk.tried)) disk attempted r);
              another = subst (λ n. BeginsWith (λ rest. rest ≡ []) disk.opened (at_end disk.tried attempted (other n)) (with_outcome other (Some attempted)).world.shared) as_many (here (other (length disk.tried)) disk attempted r);
            })
        by_place attempted false below =
            let under_bound = leb-false bound (length disk.tried) below in
            inl (omega (arith, under_bound, ended-longer writing machine next (next (length disk.tried)) disk attempted r), ap (λ outcome. turned w who waiting (ended_so writing outcome disk attempted r)) (agree (length disk.tried) under_bound))

        by_record : (attempted : Option R) → Same (with_outcome next attempted) (with_outcome other attempted) ⊎ Parts (with_outcome next attempted).world.shared (with_outcome other attempted).world.shared
        by_record None = inl (omega (arith, few, holds), refl)
        by_record (Some attempted) = by_place attempted (nat_le bound (length disk.tried)) refl

    -- and from then on the other row has faults alone
    module _ (faults : (at : ℕ) → bound < at → other at ≡ faulted) where
      abbrev NoneDone : List (Attempt R) → Type 0
      NoneDone rest = done_records rest ≡ []

      pub record Parted (left right : Option (OnDisk R S)) : Type 0 where
        pub opened : Option R
        pub made : List (Attempt R)
        pub attempted : R
        pub as_many : length made ≡ bound
        pub one : BeginsWith (λ _. Unit {0}) opened (at_end made attempted (next bound)) left
        pub another : BeginsWith NoneDone opened (at_end made attempted (other bound)) right

      more_faults : (made : List (Attempt R)) (attempted : R) → length made ≡ bound → (rest : List (Attempt R)) (more : R) → NoneDone rest → NoneDone (at_end rest more (other (length (at_end made attempted (other bound) ++ rest))))
      more_faults made attempted as_many rest more none =
          let first = at_end made attempted (other bound) in
          let late : bound < length (first ++ rest) = omega (arith, length-append first rest, length-append made ((record { attempted = attempted; outcome = other bound }) ∷ []), as_many) in
          ap (λ outcome. done_records (at_end rest more outcome)) (faults (length (first ++ rest)) late) ∙ done_records-append rest ((record { attempted = more; outcome = faulted }) ∷ []) ∙ ap (λ those. those ++ []) none

      loosened : {Such Also : List (Attempt R) → Type 0} {opened : Option R} {first : List (Attempt R)} {shared : Option (OnDisk R S)} → ((rest : List (Attempt R)) → Such rest → Also rest) → BeginsWith Such opened first shared → BeginsWith Also opened first shared
      loosened goes it = record { disk = it.disk; is = it.is; same = it.same; rest = it.rest; tried = it.tried; such = goes it.rest it.such }

      pub forks : (w : World m (OnDisk R S)) (events : List Event) → used w.shared ≤ bound →
          let one = world_after (on_disk writing next machine) w events in
          let another = world_after (on_disk writing other machine) w events in
          ((used one.shared ≤ bound) × (another ≡ one)) ⊎ Parted one.shared another.shared
      forks w [] few = inl (few, refl)
      forks w (event ∷ events) few =
          ⊎_elim (same (λ few. forks (answered (on_disk writing next machine) w event).world events few)) parted (settled-parts (used w.shared) few (planned (on_disk writing next machine).opens w event) (asks-used (on_disk writing next machine).opens w event (λ definitions. refl)) (idle-used w event))
        where
          a : Answered m (OnDisk R S)
          a = answered (on_disk writing next machine) w event

          b : Answered m (OnDisk R S)
          b = answered (on_disk writing other machine) w event

          Goal : Type 0
          Goal =
              let one = world_after (on_disk writing next machine) a.world events in
              let another = world_after (on_disk writing other machine) b.world events in
              ((used one.shared ≤ bound) × (another ≡ one)) ⊎ Parted one.shared another.shared

          same : (used a.world.shared ≤ bound → let one = world_after (on_disk writing next machine) a.world events in let another = world_after (on_disk writing other machine) a.world events in ((used one.shared ≤ bound) × (another ≡ one)) ⊎ Parted one.shared another.shared) → Same a b → Goal
          same rest it =
              subst (λ (those : Answered m (OnDisk R S)). let one = world_after (on_disk writing next machine) a.world events in let another = world_after (on_disk writing other machine) those.world events in ((used one.shared ≤ bound) × (another ≡ one)) ⊎ Parted one.shared another.shared) (sym it.1) (rest it.0)

          parted : Parts a.world.shared b.world.shared → Goal
          parted p = inr (record {
            opened = p.opened;
            made = p.made;
            attempted = p.attempted;
            as_many = p.as_many;
            one = begins_on next (λ _. Unit {0}) p.opened (at_end p.made p.attempted (next bound)) (λ rest attempted it. tt) a.world events (loosened (λ rest none. tt) p.one);
            another = begins_on other NoneDone p.opened (at_end p.made p.attempted (other bound)) (more_faults p.made p.attempted p.as_many) b.world events (loosened (λ rest none. ap done_records none) p.another);
          })
