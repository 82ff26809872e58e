-- What a crash leaves of a run is what the same events settle with other outcomes.
use Rattle.std.specs.Prelude.{◌≡◌, ◌≤◌, ◌<◌, ◌==◌, ◌⊎◌, ◌++◌, ℕ, zero, suc, List, [], ◌∷◌, length, take, drop, map, nat_lt, Option, None, Some, slice_get, if◌then◌else◌, refl}
use Rattle.std.specs.Option.{ForSome, option_to_list}
use Rattle.std.proofs.Common.{◌∙◌, ap, ap₂, sym, subst, inl, inr, ⊎_elim, arith, length-append, append_assoc, append-nil, length-take, take_all, take-append-drop, eq-eqb, ne_eqb}
use Rattle.std.proofs.Math.Seq.{take-append_seam}
use Rattle.std.proofs.lemmas.Bool.{lt-ltb, le-ltb}
use Rattle.std.proofs.lemmas.Option.{none-some, same_Some, slice_get_within}
use Rattle.script_world.specs.Meaning.{Meaning}
use Rattle.script_world.specs.Worlds.{World, Machine, Event, world_after}
use Rattle.script_world.specs.Outcomes.{Outcome, done, faulted, Attempt, Writing, OnDisk, on_disk, as_done, attempts_of, used, AreEqual, done_records, IsInDoubt, IsBegun, MayLeave}
use Rattle.script_world.specs.SettledRuns.{attempts, IsSettledByRun, LeavesARun}
use Rattle.script_world.proofs.callers.Forks.{done_records-append, at_end, Parted, forks}

-- ---- the outcomes up to an attempt, this one's, and faults

abbrev pub row : (ℕ → Outcome) → ℕ → Outcome → ℕ → Outcome
row next place own at = if nat_lt at place then next at else if at == place then own else faulted

row-below : (next : ℕ → Outcome) (place : ℕ) (own : Outcome) (at : ℕ) → at < place → row next place own at ≡ next at
row-below next place own at below = ap (λ test. if test then next at else if at == place then own else faulted) (lt-ltb at place below)

row-at : (next : ℕ → Outcome) (place : ℕ) (own : Outcome) → row next place own place ≡ own
row-at next place own =
    ap (λ test. if test then next place else if place == place then own else faulted) (le-ltb place place (omega arith))
    ∙ ap (λ test. if test then own else faulted) (eq-eqb place place refl)

row-above : (next : ℕ → Outcome) (place : ℕ) (own : Outcome) (at : ℕ) → place < at → row next place own at ≡ faulted
row-above next place own at above =
    ap (λ test. if test then next at else if at == place then own else faulted) (le-ltb at place (omega arith))
    ∙ ap (λ test. if test then own else faulted) (ne_eqb at place (omega arith))

-- ---- lists

slice_get-seam : {X : Type 0} (xs : List X) (y : X) (ys : List X) → slice_get (xs ++ y ∷ ys) (length xs) ≡ Some y
slice_get-seam [] y ys = refl
slice_get-seam (x ∷ xs) y ys = slice_get-seam xs y ys

done-last : {R : Type 0} (made : List (Attempt R)) (attempted : R) (outcome : Outcome) (rest : List (Attempt R)) → done_records rest ≡ [] → done_records (at_end made attempted outcome ++ rest) ≡ done_records made ++ done_records ((record { attempted = attempted; outcome = outcome }) ∷ [])
done-last made attempted outcome rest none =
    let last : Attempt _ = record { attempted = attempted; outcome = outcome } in
    done_records-append (made ++ last ∷ []) rest ∙ ap (λ those. done_records (made ++ last ∷ []) ++ those) none ∙ append-nil _ ∙ done_records-append made (last ∷ [])

-- the first of two lists that begin alike
take-first : {X : Type 0} (n : ℕ) (xs ys all : List X) → length xs ≡ n → all ≡ xs ++ ys → take n all ≡ xs
take-first n xs ys all long is = ap₂ (λ (n : ℕ) (those : List _). take n those) (sym long) is ∙ take-append_seam xs ys

abbrev first_outcome : {R : Type 0} → List (Attempt R) → Outcome
first_outcome [] = done
first_outcome (attempt ∷ made) = attempt.outcome

abbrev IsDone : Outcome → Type 0
IsDone done = Unit {0}
IsDone faulted = ⊥

done-faulted : done ≡ faulted → ⊥
done-faulted same = subst IsDone same tt

module _ {m : Meaning} {R S : Type 0} (writing : Writing m R) (machine : Machine m S) (w : World m (OnDisk R S)) (next : ℕ → Outcome) (events : List Event) (fresh : used w.shared ≡ 0) where
  abbrev after_all : (ℕ → Outcome) → World m (OnDisk R S)
  after_all outcomes = world_after (on_disk writing outcomes machine) w events

  -- with other outcomes as many first attempts are made, what was done by then is among them, and this is done
  pub record Settles (disk : OnDisk R S) (ended : ℕ) (more : List R) : Type 0 where
    pub outcomes : ℕ → Outcome
    pub first : ℕ
    pub within : first ≤ ended
    pub after : OnDisk R S
    pub is : (after_all outcomes).shared ≡ Some after
    pub opened : after.opened ≡ disk.opened
    pub acknowledged : done_records (take first disk.tried) ≡ done_records (take ended disk.tried)
    pub same : take first after.tried ≡ take first disk.tried
    pub settles : done_records after.tried ≡ done_records (take ended disk.tried) ++ more

  module _ (disk : OnDisk R S) (is : (after_all next).shared ≡ Some disk) where
    -- both runs up to a place, and this outcome there
    abbrev Fork : ℕ → Outcome → Type 0
    Fork place own =
        ((used (after_all next).shared ≤ place) × (after_all (row next place own) ≡ after_all next)) ⊎ Parted writing machine next (row next place own) place (row-below next place own) (row-above next place own) (after_all next).shared (after_all (row next place own)).shared

    fork : (place : ℕ) (own : Outcome) → Fork place own
    fork place own =
        forks writing machine next (row next place own) place (row-below next place own) (row-above next place own) w events (omega (arith, fresh))

    -- what is known where they part
    record Apart (place : ℕ) (own : Outcome) : Type 0 where
      made : List (Attempt R)
      attempted : R
      as_many : length made ≡ place
      rest : List (Attempt R)
      tried : disk.tried ≡ made ++ (record { attempted = attempted; outcome = next place }) ∷ rest
      after : OnDisk R S
      after_is : (after_all (row next place own)).shared ≡ Some after
      opened : after.opened ≡ disk.opened
      begins : take place after.tried ≡ made
      settles : done_records after.tried ≡ done_records made ++ done_records ((record { attempted = attempted; outcome = own }) ∷ [])

    apart : (place : ℕ) (own : Outcome) → Parted writing machine next (row next place own) place (row-below next place own) (row-above next place own) (after_all next).shared (after_all (row next place own)).shared → Apart place own
    apart place own p =
        let one = p.one in
        let another = p.another in
        let old : one.disk ≡ disk = same_Some one.disk disk (sym one.is ∙ is) in
        let own_last : (those : Outcome) → Attempt R = λ those. record { attempted = p.attempted; outcome = those } in
        let tail = another.rest in
        record {
          made = p.made;
          attempted = p.attempted;
          as_many = p.as_many;
          rest = one.rest;
          tried = ap (λ d. d.tried) (sym old) ∙ one.tried ∙ append_assoc p.made (own_last (next place) ∷ []) one.rest;
          after = another.disk;
          after_is = another.is;
          opened = another.same ∙ sym one.same ∙ ap (λ d. d.opened) old;
          begins = take-first place p.made (own_last (row next place own place) ∷ tail) another.disk.tried p.as_many (another.tried ∙ append_assoc p.made (own_last (row next place own place) ∷ []) tail);
          settles = ap done_records another.tried ∙ done-last p.made p.attempted (row next place own place) tail another.such ∙ ap (λ outcome. done_records p.made ++ done_records (own_last outcome ∷ [])) (row-at next place own);
        }

    few_tried : (place : ℕ) → used (after_all next).shared ≤ place → length disk.tried ≤ place
    few_tried place few = subst (λ (those : Option (OnDisk R S)). used those ≤ place) is few

    -- nothing more is left
    none_more : (ended : ℕ) → Settles disk ended []
    none_more ended = ⊎_elim all_made parted (fork ended faulted)
      where
        all_made : (used (after_all next).shared ≤ ended) × (after_all (row next ended faulted) ≡ after_all next) → Settles disk ended []
        all_made it = record {
          outcomes = row next ended faulted;
          first = ended;
          within = omega arith;
          after = disk;
          is = ap (λ those. those.shared) it.1 ∙ is;
          opened = refl;
          acknowledged = refl;
          same = refl;
          settles = ap done_records (sym (take_all ended disk.tried (few_tried ended it.0))) ∙ sym (append-nil _);
        }

        parted : Parted writing machine next (row next ended faulted) ended (row-below next ended faulted) (row-above next ended faulted) (after_all next).shared (after_all (row next ended faulted)).shared → Settles disk ended []
        parted p =
            let it = apart ended faulted p in
            let first = take-first ended it.made _ disk.tried it.as_many it.tried in
            record {
              outcomes = row next ended faulted;
              first = ended;
              within = omega arith;
              after = it.after;
              is = it.after_is;
              opened = it.opened;
              acknowledged = refl;
              same = it.begins ∙ sym first;
              settles = it.settles ∙ ap (λ those. done_records those ++ []) (sym first);
            }

    -- the attempt at a place is left, and none behind it was done by then
    one_more : (ended place : ℕ) (attempt : Attempt R) → place ≤ ended → slice_get disk.tried place ≡ Some attempt → done_records (take place disk.tried) ≡ done_records (take ended disk.tried) → Settles disk ended (attempt.attempted ∷ [])
    one_more ended place attempt early found none = ⊎_elim all_made parted (fork place done)
      where
        all_made : (used (after_all next).shared ≤ place) × (after_all (row next place done) ≡ after_all next) → Settles disk ended (attempt.attempted ∷ [])
        all_made it = absurd (omega (arith, few_tried place it.0, slice_get_within disk.tried place attempt found))

        parted : Parted writing machine next (row next place done) place (row-below next place done) (row-above next place done) (after_all next).shared (after_all (row next place done)).shared → Settles disk ended (attempt.attempted ∷ [])
        parted p =
            let it = apart place done p in
            let first = take-first place it.made _ disk.tried it.as_many it.tried in
            let there : slice_get disk.tried place ≡ Some (record { attempted = it.attempted; outcome = next place }) = ap₂ (λ (those : List (Attempt R)) (at : ℕ). slice_get those at) it.tried (sym it.as_many) ∙ slice_get-seam it.made _ it.rest in
            let same : it.attempted ≡ attempt.attempted = ap (λ a. a.attempted) (same_Some _ attempt (sym there ∙ found)) in
            record {
              outcomes = row next place done;
              first = place;
              within = early;
              after = it.after;
              is = it.after_is;
              opened = it.opened;
              acknowledged = none;
              same = it.begins ∙ sym first;
              settles = it.settles ∙ ap₂ (λ (those : List R) (one : R). those ++ one ∷ []) (ap done_records (sym first) ∙ none) same;
            }

    -- what is in doubt is such an attempt
    in_doubt : (ended : ℕ) (doubt : R) → IsInDoubt (take ended disk.tried) doubt → Settles disk ended (doubt ∷ [])
    in_doubt ended doubt it =
        let last : Attempt R = record { attempted = doubt; outcome = faulted } in
        let all : disk.tried ≡ it.before ++ last ∷ (it.after ++ drop ended disk.tried) = sym (take-append-drop ended disk.tried) ∙ ap (λ those. those ++ drop ended disk.tried) it.split ∙ append_assoc it.before (last ∷ it.after) (drop ended disk.tried) in
        let early : length it.before ≤ ended = omega (arith, ap length it.split, length-append it.before (last ∷ it.after), length-take ended disk.tried) in
        let first = take-first (length it.before) it.before _ disk.tried refl all in
        one_more ended (length it.before) last early (ap (λ those. slice_get those (length it.before)) all ∙ slice_get-seam it.before last _)
        (ap done_records first ∙ sym (ap done_records it.split ∙ done_records-append it.before (last ∷ it.after) ∙ ap (λ those. done_records it.before ++ those) it.none_done ∙ append-nil _))

    pub tried_left : (ended : ℕ) (more : Option R) → ForSome more (λ r. IsBegun (slice_get disk.tried ended) r ⊎ IsInDoubt (take ended disk.tried) r) → Settles disk ended (option_to_list more)
    tried_left ended None one = none_more ended
    tried_left ended (Some r) one = ⊎_elim begun (in_doubt ended r) (one r refl)
      where
        begun : IsBegun (slice_get disk.tried ended) r → Settles disk ended (r ∷ [])
        begun it = subst (λ r. Settles disk ended (r ∷ [])) (sym it.is) (one_more ended ended it.attempt (omega arith) it.comes refl)

    -- ---- with the record of the definitions

    abbrev all_of : Option R → List (Attempt R) → List (Attempt R)
    all_of opened tried = map as_done (option_to_list opened) ++ tried

    wrapped : (records : List R) (left : List R) (ended first : ℕ) (opened : Option R) → disk.opened ≡ opened → (outcomes : ℕ → Outcome) (after : OnDisk R S) → (after_all outcomes).shared ≡ Some after → after.opened ≡ disk.opened → first ≤ ended → done_records (take first (all_of opened disk.tried)) ≡ done_records (take ended (all_of opened disk.tried)) → take first (all_of opened after.tried) ≡ take first (all_of opened disk.tried) → left ≡ records ++ done_records (all_of opened after.tried) → IsSettledByRun writing machine AreEqual records w next events ended left
    wrapped records left ended first opened is_opened outcomes after after_is after_opened within acknowledged same settles =
        let one : attempts writing machine next w events ≡ all_of opened disk.tried = ap attempts_of is ∙ ap (λ those. all_of those disk.tried) is_opened in
        let another : attempts writing machine outcomes w events ≡ all_of opened after.tried = ap attempts_of after_is ∙ ap (λ those. all_of those after.tried) (after_opened ∙ is_opened) in
        inr (record {
          outcomes = outcomes;
          first = first;
          within = within;
          acknowledged = ap (λ those. done_records (take first those)) one ∙ acknowledged ∙ sym (ap (λ those. done_records (take ended those)) one);
          same = ap (take first) another ∙ same ∙ sym (ap (take first) one);
          settles = settles ∙ sym (ap (λ those. records ++ done_records those) another);
        })

    doubt_behind : (r doubt : R) (tried : List (Attempt R)) → IsInDoubt (as_done r ∷ tried) doubt → IsInDoubt tried doubt
    doubt_behind r doubt tried it = by_before it.before it.split
      where
        by_before : (before : List (Attempt R)) → as_done r ∷ tried ≡ before ++ (record { attempted = doubt; outcome = faulted }) ∷ it.after → IsInDoubt tried doubt
        by_before [] is = absurd (done-faulted (ap first_outcome is))
        by_before (first ∷ before) is = record { before = before; after = it.after; split = ap (drop 1) is; none_done = it.none_done }

    by_opened : (records left : List R) (opened : Option R) → disk.opened ≡ opened → (ended : ℕ) → MayLeave AreEqual ended records (all_of opened disk.tried) left → IsSettledByRun writing machine AreEqual records w next events ended left
    by_opened records left None is_opened ended may =
        let it = tried_left ended may.more may.one in
        wrapped records left ended it.first None is_opened it.outcomes it.after it.is it.opened it.within it.acknowledged it.same (may.are ∙ append_assoc records _ _ ∙ ap (λ those. records ++ those) (sym it.settles))
    by_opened records left (Some r) is_opened zero may = by_more may.more may.are may.one
      where
        by_more : (more : Option R) → left ≡ (records ++ []) ++ option_to_list more → ForSome more (λ b. IsBegun (Some (as_done r)) b ⊎ IsInDoubt [] b) → IsSettledByRun writing machine AreEqual records w next events zero left
        by_more None are one = inl (are ∙ append-nil (records ++ []) ∙ append-nil records)
        by_more (Some b) are one = ⊎_elim begun (λ doubt. absurd (omega (arith, ap length doubt.split, length-append doubt.before ((record { attempted = b; outcome = faulted }) ∷ doubt.after)))) (one b refl)
          where
            begun : IsBegun (Some (as_done r)) b → IsSettledByRun writing machine AreEqual records w next events zero left
            begun started =
                let it = none_more 0 in
                let same : b ≡ r = started.is ∙ ap (λ a. a.attempted) (sym (same_Some (as_done r) started.attempt started.comes)) in
                wrapped records left zero zero (Some r) is_opened it.outcomes it.after it.is it.opened (omega arith) refl refl (are ∙ append_assoc records [] (b ∷ []) ∙ ap₂ (λ (one : R) (those : List R). records ++ one ∷ those) same (sym it.settles))
    by_opened records left (Some r) is_opened (suc ended) may =
        let it = tried_left ended may.more (λ b is. ⊎_elim inl (λ doubt. inr (doubt_behind r b (take ended disk.tried) doubt)) (may.one b is)) in
        wrapped records left (suc ended) (suc it.first) (Some r) is_opened it.outcomes it.after it.is it.opened (omega (arith, it.within)) (ap (λ those. r ∷ those) it.acknowledged) (ap (λ those. as_done r ∷ those) it.same) (may.are ∙ append_assoc records _ _ ∙ ap (λ those. records ++ r ∷ those) (sym it.settles))

  leaves_equal : (records : List R) → LeavesARun writing machine AreEqual records w next events
  leaves_equal records ended left may = by_shared (after_all next).shared refl
    where
      by_shared : (shared : Option (OnDisk R S)) → (after_all next).shared ≡ shared → IsSettledByRun writing machine AreEqual records w next events ended left
      by_shared (Some disk) is =
          by_opened disk is records left disk.opened refl ended (subst (λ shared. MayLeave AreEqual ended records (attempts_of shared) left) is may)
      by_shared None is = nothing (subst (λ shared. MayLeave AreEqual ended records (attempts_of shared) left) is may)
        where
          by_more : (more : Option R) → left ≡ (records ++ []) ++ option_to_list more → ForSome more (λ b. IsBegun None b ⊎ IsInDoubt [] b) → IsSettledByRun writing machine AreEqual records w next events ended left
          by_more None are one = inl (are ∙ append-nil (records ++ []) ∙ append-nil records)
          by_more (Some b) are one =
              ⊎_elim (λ begun. absurd (none-some begun.attempt begun.comes)) (λ doubt. absurd (omega (arith, ap length doubt.split, length-append doubt.before ((record { attempted = b; outcome = faulted }) ∷ doubt.after)))) (one b refl)

          nothing : MayLeave AreEqual ended records [] left → IsSettledByRun writing machine AreEqual records w next events ended left
          nothing may = by_more may.more (may.are ∙ ap (λ those. (records ++ done_records those) ++ option_to_list may.more) (take_all ended [] (omega arith))) (subst (λ those. ForSome may.more (λ b. IsBegun None b ⊎ IsInDoubt those b)) (take_all ended [] (omega arith)) may.one)

  -- however lists of records are compared
  pub leaves_a_run : (Same : List R → List R → Type 0) (records : List R) → LeavesARun writing machine Same records w next events
  leaves_a_run Same records ended left may =
      ⊎_elim (λ old. inl (subst (Same left) old may.are)) (λ it. inr (record {
        outcomes = it.outcomes;
        first = it.first;
        within = it.within;
        acknowledged = it.acknowledged;
        same = it.same;
        settles = subst (Same left) it.settles may.are;
      })) (leaves_equal records ended (records ++ done_records (take ended (attempts writing machine next w events)) ++ option_to_list may.more) (record { more = may.more; are = refl; one = may.one }))
