-- The shared state on a disk that may fail, over any meaning and any records.
use Rattle.std.specs.Prelude.{ℕ, List, [], ◌∷◌, ◌++◌, map, length, Option, None, Some, slice_index_or, ◌≡◌, ◌⊎◌, take, slice_get, Bool, true, false}
use Rattle.std.specs.Option.{option_to_list, ForSome}
use Rattle.std.specs.List.{All}
use Rattle.script_world.specs.Meaning.{Meaning}
use Rattle.script_world.specs.Worlds.{Machine, World, first_sessions}

pub data Outcome : Type 0 where
  done : Outcome
  faulted : Outcome

pub record Attempt (R : Type 0) : Type 0 where
  pub attempted : R
  pub outcome : Outcome

-- what goes onto the disk: the definitions, and an entry with its reply; and the reply where the disk failed
pub record Writing (m : Meaning) (R : Type 0) : Type 0 where
  pub of_definitions : m.Definitions → R
  pub of_step : m.Entry → m.Reply → Option R
  pub fault : m.Reply

-- the state; the record of the definitions, where this run wrote it; and the attempts of its steps
pub record OnDisk (R S : Type 0) : Type 0 where
  pub state : S
  pub opened : Option R
  pub tried : List (Attempt R)

module _ {m : Meaning} {R S : Type 0} (writing : Writing m R) where
  abbrev pub ended_so : Outcome → OnDisk R S → R → m.Reply × S → m.Reply × OnDisk R S
  ended_so done disk attempted r =
      (r.0, record disk { state = r.1; tried = disk.tried ++ (record { attempted = attempted; outcome = done }) ∷ [] })
  ended_so faulted disk attempted r =
      (writing.fault, record disk { tried = disk.tried ++ (record { attempted = attempted; outcome = faulted }) ∷ [] })

  abbrev pub written : Outcome → OnDisk R S → m.Reply × S → Option R → m.Reply × OnDisk R S
  written outcome disk r None = (r.0, record disk { state = r.1 })
  written outcome disk r (Some attempted) = ended_so outcome disk attempted r

  -- next says how each attempt of a step ends, by how many were made before it
  abbrev pub on_disk : (ℕ → Outcome) → Machine m S → Machine m (OnDisk R S)
  on_disk next machine = record {
    opens = λ definitions. record { state = machine.opens definitions; opened = Some (writing.of_definitions definitions); tried = [] };
    step = λ disk entry.
        let r = machine.step disk.state entry in
        written (next (length disk.tried)) disk r (writing.of_step entry r.0);
  }

-- the outcomes of a list, and done where none is left
abbrev pub among : List Outcome → ℕ → Outcome
among coming at = slice_index_or coming at done

abbrev pub by_list : {m : Meaning} {R S : Type 0} → Writing m R → Machine m S → List Outcome → Machine m (OnDisk R S)
by_list writing machine coming = on_disk writing (among coming) machine

-- ---- attempts
abbrev pub as_done : {R : Type 0} → R → Attempt R
as_done attempted = record { attempted = attempted; outcome = done }

-- that of the definitions first
abbrev pub all_attempts : {R : Type 0} → Option R → List (Attempt R) → List (Attempt R)
all_attempts opened tried = map as_done (option_to_list opened) ++ tried

abbrev pub attempts_of : {R S : Type 0} → Option (OnDisk R S) → List (Attempt R)
attempts_of None = []
attempts_of (Some disk) = all_attempts disk.opened disk.tried

-- how many outcomes were used
abbrev pub used : {R S : Type 0} → Option (OnDisk R S) → ℕ
used None = 0
used (Some disk) = length disk.tried

-- The world in which a disk is opened: with the definitions and the state of its records, where it has such. These names of
-- sessions are known before.
abbrev pub opening : {m : Meaning} {R S : Type 0} → List (List ℕ) → Option m.Definitions → S → World m (OnDisk R S)
opening {m} names None state =
    record { definitions = m.none_defined; open_lines = []; shared = None; names = names; sessions = first_sessions m 0 names }
opening {m} names (Some definitions) state = record {
  definitions = definitions;
  open_lines = [];
  shared = Some (record { state = state; opened = None; tried = [] });
  names = names;
  sessions = first_sessions m 0 names;
}

-- ---- what a crash may leave of a run: the records with which the disk was opened, what was done, and at most one more

-- two lists of records are the same list
abbrev pub AreEqual : {R : Type 0} → List R → List R → Type 0
AreEqual one other = one ≡ other

module _ {R : Type 0} where
  -- the record of an attempt that was done
  abbrev pub settled_by : Outcome → R → List R
  settled_by done attempted = attempted ∷ []
  settled_by faulted attempted = []

  -- the records of the attempts that were done, in order
  abbrev pub done_records : List (Attempt R) → List R
  done_records [] = []
  done_records (attempt ∷ attempts) = settled_by attempt.outcome attempt.attempted ++ done_records attempts

  -- what a disk holds where nothing is in doubt: the records that were there, and those of the attempts that were done
  abbrev pub settled_records : List R → List (Attempt R) → List R
  settled_records records made = records ++ done_records made

  -- the record is of a faulted attempt after which none was done
  pub record IsInDoubt (attempts : List (Attempt R)) (doubt : R) : Type 0 where
    pub before : List (Attempt R)
    pub after : List (Attempt R)
    pub split : attempts ≡ before ++ (record { attempted = doubt; outcome = faulted }) ∷ after
    pub none_done : done_records after ≡ []

  -- the record is of the attempt that comes next
  pub record IsBegun (next : Option (Attempt R)) (begun : R) : Type 0 where
    pub attempt : Attempt R
    pub comes : next ≡ Some attempt
    pub is : begun ≡ attempt.attempted

-- lists of records are compared by an argument
module _ {R : Type 0} (Same : List R → List R → Type 0) where
  -- after so many of these attempts
  pub record MayLeave (ended : ℕ) (opened : List R) (attempts : List (Attempt R)) (records : List R) : Type 0 where
    pub more : Option R
    pub are : Same records (opened ++ done_records (take ended attempts) ++ option_to_list more)
    pub one : ForSome more (λ r. IsBegun (slice_get attempts ended) r ⊎ IsInDoubt (take ended attempts) r)

  -- after all of them
  abbrev pub final : List R → List (Attempt R) → List R → Type 0
  final opened attempts records = MayLeave (length attempts) opened attempts records

  -- after an attempt that was done a crash leaves all that was done, and nothing else
  abbrev pub LeavesAllDone : List R → List (Attempt R) → R → List R → Type 0
  LeavesAllDone opened made attempted records =
      let all = made ++ (record { attempted = attempted; outcome = done }) ∷ [] in
      final opened all records → Same records (settled_records opened all)

abbrev pub has_faulted : Outcome → Bool
has_faulted done = false
has_faulted faulted = true

abbrev pub AreDone : List Outcome → Type 0
AreDone outcomes = All (λ outcome. outcome ≡ done) outcomes
