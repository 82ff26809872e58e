-- How a run ends, told over the commits and the owners.
use Rattle.std.specs.Prelude.{◌≡◌, ◌≤◌, ◌++◌, ℕ, Bool, true, false, List, [], ◌∷◌, length, take, Option, None, Some, IfSome, is_some, unwrap_or, refl}
use Rattle.std.specs.Option.{option_map}
use Rattle.std.proofs.Common.{◌∙◌, ap, sym, subst, subst₂, inl, inr, ⊎_elim, arith, length-append}
use Rattle.std.proofs.lemmas.List.{take_at}
use Rattle.std.proofs.lemmas.Option.{none-some}
use Rattle.std.specs.Io.KnownBytes.{IsAtEnd}
use Rattle.aw_io.specs.Known.{Gives, Grows, Gives-nothing, Grows-nothing}
use Rattle.aw_schema.specs.declared.definition.Def.{Def}
use Rattle.aw_codec.specs.declared.record.Decoded.{Decoded}
use Rattle.aw_journal.specs.Passed.{Passed}
use Rattle.aw_store.specs.StoredRecords.{HoldsRecords, LeftRecords, definitions_of, stood_by, CanBeOpened}
use Rattle.aw_store.specs.Stores.{StoreState}
use Rattle.aw_feed.specs.Feed.{Listening}
use Rattle.script_world.specs.Outcomes.{Outcome, faulted, Attempt, all_attempts}
use Rattle.script_world.specs.Worlds.{Closes, Event, line, block_ends, script_ends, with_shared, session_in, text_of, ended_events, script_events}
use Rattle.script_meaning.specs.ObjectsSimulation.{standing_disk, objects_at}
use Rattle.script_meaning.specs.StoreAttempts.{HasAttempted}
use Rattle.script_meaning.specs.Transcript.{HoldsLeft, opening, world_at, attempts, SameRecords}
use Rattle.script_meaning.specs.Language.{form_of, form, is_any, HistoryDisk, HistoryWorld, ObjectsWorld, by_history, by_objects}
use Rattle.script_meaning.specs.StoreRuns.{store_disk, IsRun}
use Rattle.script_meaning.proofs.callers.AttemptCrashes.{fares_opened, fares_final}
use Rattle.script_meaning.proofs.callers.ObjectsSimulation.{are_alike, answered_alike}
use Rattle.script_meaning.proofs.callers.StoreRuns.{is_run, run_opened}
use Rattle.script_play.specs.declared.ending.Ending.{Ending}
use Rattle.script_play.specs.declared.ending.Ending.TheVariants.{Accepted, Refusing, SourceFault, SinkFault, DiskFault, NoMemory, TooLong}
use Rattle.script_play.specs.declared.world.StoreWorld.{StoreWorld}
use Rattle.script_play.specs.Runs.{with_last, last_text, GrowsBehind, most_bytes, status_of, FewFaults, defining, Streams, streams, IsFront, AreEvents, IsWhole, IsCut, IsUndefined, EndsSo, StreamFaults, run_on, WasOpened, Ends}
use Rattle.script_play.specs.inside.StoreWorlds.{world_of, IsSound}
use Rattle.script_play.specs.inside.Playing.{Play, Stands, HasDone, ClosesWith, WasCut, HasFailed, HasPlayed, HasFinished, opened_world, opened_play}
use Rattle.script_play.specs.inside.ScriptReading.{BrokeOff, RanOver, EndedWhole, EndsRun, EndsFrom}
use Rattle.script_meaning.proofs.callers.Defining.{definable-none}
use Rattle.script_play.specs.inside.Telling.{HasTold}
use Rattle.script_play.proofs.LineSteps.{later-same}
use Rattle.script_play.proofs.Told.{told_as, told_done}
use Rattle.script_play.proofs.AnsweredEvents.{cut_before, rose-earlier}
use Rattle.ses_step.specs.declared.session.Session.{Session}
use Rattle.aw_lists.specs.Faults.{Rose}
use Rattle.script_disk.specs.declared.opening.Unopened.{Unopened}
use Rattle.script_disk.specs.WhyUnopened.{IsUnopened, status_of as unopened_status}

if-some : (known : Option (List ℕ)) (P : List ℕ → Type 0) → ((image : List ℕ) → known ≡ Some image → P image) → IfSome known P
if-some None P each = tt
if-some (Some image) P each = each image refl

few-earlier : (outcomes : List Outcome) (before middle now : ℕ) → before ≤ middle → FewFaults outcomes middle now → FewFaults outcomes before now
few-earlier outcomes before middle now later few = ⊎_elim (λ less. let it : FewFaults outcomes before now = inl (omega (arith, less, later)) in it) (λ last. inr last) few

-- nothing is open over the objects where nothing is over the commits
unopened-as : (found : Option HistoryDisk) → option_map standing_disk found ≡ None → found ≡ None
unopened-as None none = refl
unopened-as (Some disk) none = absurd (none-some (standing_disk disk) (sym none))

-- an event that closes the definitions
closes_as : {D : Type 0} (w : HistoryWorld) (world : StoreWorld (StoreState D)) (next : Event) → w.definitions ≡ world.drafted → w.open_lines ≡ world.open_lines → ClosesWith world next → Closes w next
closes_as w world (line text) same lines it =
    inl (ap (λ (those : List (List ℕ)). is_some (session_in w (form those text))) (lines ∙ it.1) ∙ ap (λ those. is_some (session_in w (form_of text those))) it.0.is)
closes_as w world block_ends same lines it = absurd it
closes_as w world script_ends same lines it = inr (refl, ap is_any same ∙ it)

module _ {D : Type 0} (faults clock : D → ℕ) (crash : D → ℕ → List ℕ → Type 0) (records : List Decoded) (at : D) where
  -- how a run ended, over the commits and the owners
  pub record EndedAs (ending : Ending) (s : Streams) (store : StoreState D) : Type 0 where
    pub outcomes : List Outcome
    pub made : List (Attempt Decoded)
    pub taken : List ℕ
    pub gives : Gives s.left_before s.left_now taken
    pub ends_so : EndsSo s records outcomes made taken ending
    pub stands : Stands faults clock crash records at outcomes made store

  history-of : (events : List Event) (text : List ℕ) (refused : Bool) (w : StoreWorld (StoreState D)) (d : HasDone faults clock crash records at events text refused w) → IsRun [] records events d.coming (all_attempts d.opened d.tried) text refused
  history-of events text refused w d =
      is_run [] records events d.coming d.opened d.tried text refused (world_of w) (λ none. d.is_made (unopened (definitions_of w.store.records) none)) d.run
    where
      unopened : (found : Option (List Def)) → option_map (λ (those : List Def). w.store) found ≡ None → found ≡ None
      unopened None none = refl
      unopened (Some definitions) none = absurd (none-some w.store (sym none))

  ended-broken : (s : Streams) (store : StoreState D) → BrokeOff faults clock crash records at s store → EndedAs SourceFault s store
  ended-broken s store it =
      let run = history-of (ended_events it.taken) it.text it.refused it.w it.lines in
      record {
        outcomes = it.lines.coming;
        made = all_attempts it.lines.opened it.lines.tried;
        taken = it.taken;
        gives = it.gives;
        ends_so = record { size = it.size; wrote = subst (Grows s.written_before s.written_now) (sym run.text_is) it.written; attempted = run.attempts_are };
        stands = subst (Stands faults clock crash records at it.lines.coming (all_attempts it.lines.opened it.lines.tried)) (sym it.store_is) it.lines.stands;
      }

  ended-over : (s : Streams) (store : StoreState D) → RanOver faults clock crash records at s store → EndedAs TooLong s store
  ended-over s store it =
      let run = history-of (ended_events it.taken) it.text it.refused it.w it.lines in
      let front : it.taken ≡ take most_bytes (it.taken ++ it.next ∷ []) = sym (take_at it.taken (it.next ∷ []) most_bytes it.size) in
      record {
        outcomes = it.lines.coming;
        made = all_attempts it.lines.opened it.lines.tried;
        taken = it.taken ++ it.next ∷ [];
        gives = it.gives;
        ends_so = record {
          size = omega (arith, it.size, length-append it.taken (it.next ∷ []));
          wrote = subst (λ bytes. Grows s.written_before s.written_now (text_of (by_history it.lines.coming) (opening [] records) (ended_events bytes))) front (subst (Grows s.written_before s.written_now) (sym run.text_is) it.written);
          attempted = subst (λ bytes. attempts [] records it.lines.coming (ended_events bytes) ≡ all_attempts it.lines.opened it.lines.tried) front run.attempts_are;
        };
        stands = subst (Stands faults clock crash records at it.lines.coming (all_attempts it.lines.opened it.lines.tried)) (sym it.store_is) it.lines.stands;
      }

  last_text-alike : (coming : List Outcome) (events : List Event) (last : Option Event) → last_text (by_objects coming) (objects_at [] records coming events) last ≡ last_text (by_history coming) (world_at [] records coming events) last
  last_text-alike coming events None = refl
  last_text-alike coming events (Some event) = answered_alike [] records coming events event

  -- a cut, with the outcomes and the attempts of its lines
  record Cut (s : Streams) (taken : List ℕ) (store : StoreState D) : Type 0 where
    outcomes : List Outcome
    made : List (Attempt Decoded)
    cut : IsCut s records outcomes made taken
    stands : Stands faults clock crash records at outcomes made store

  cut-as : (s : Streams) (taken : List ℕ) (all : List Event) (store : StoreState D) → length taken ≤ most_bytes → ((events : List Event) → IsFront events all → AreEvents s taken events) → WasCut faults clock crash records at all store s.written_before s.written_now → Cut s taken store
  cut-as s taken all store size are it =
      let alike = are_alike [] records it.coming it.events in
      let all_alike = are_alike [] records it.coming (with_last it.events it.last) in
      record {
        outcomes = it.coming;
        made = it.made;
        cut = record {
          size = size;
          events = it.events;
          last = it.last;
          are = are (with_last it.events it.last) (record { rest = it.rest; is = it.front });
          wrote = subst₂ (GrowsBehind s.written_before s.written_now) alike.text (last_text-alike it.coming it.events it.last) it.written;
          attempted = sym all_alike.attempts_made ∙ it.attempted;
        };
        stands = it.stands;
      }

  -- a failure to write the definitions
  record Failure (s : Streams) (taken : List ℕ) (store : StoreState D) : Type 0 where
    made : List (Attempt Decoded)
    undefined : IsUndefined s records [] made taken
    stands : Stands faults clock crash records at [] made store

  failure-as : (s : Streams) (taken : List ℕ) (all : List Event) (store : StoreState D) → length taken ≤ most_bytes → ((events : List Event) → IsFront events all → AreEvents s taken events) → HasFailed faults clock crash records at all store s.written_before s.written_now → Failure s taken store
  failure-as s taken all store size are it =
      let alike = are_alike [] records [] it.events in
      let run = is_run [] records it.events [] None [] it.text it.refused (world_of it.w) (λ none. (refl, refl)) it.run in
      let same : with_shared standing_disk (world_at [] records [] it.events) ≡ with_shared (store_disk None []) (world_of it.w) = sym alike.world ∙ it.run.world in
      let defined : (world_at [] records [] it.events).definitions ≡ it.w.drafted = ap (λ (w : ObjectsWorld). w.definitions) same ∙ ap (λ (found : Option (List Def)). unwrap_or found it.w.drafted) it.unopened in
      record {
        made = defining it.w.drafted faulted ∷ [];
        undefined = record {
          size = size;
          events = it.events;
          next = it.next;
          are = are (it.events ++ it.next ∷ []) (record { rest = it.rest; is = it.front });
          wrote = subst (Grows s.written_before s.written_now) (sym run.text_is) it.written;
          no_commits = refl;
          unopened = unopened-as (world_at [] records [] it.events).shared (ap (λ (w : ObjectsWorld). w.shared) same ∙ ap (option_map (store_disk None [])) (ap (option_map (λ (those : List Def). it.w.store)) it.unopened));
          closes = closes_as (world_at [] records [] it.events) it.w it.next defined (ap (λ (w : ObjectsWorld). w.open_lines) same) it.closes;
          attempted = ap (λ (those : List Def). defining those faulted ∷ []) (sym defined);
        };
        stands = it.stands;
      }

  ended-whole : (s : Streams) (taken : List ℕ) (refused : Bool) (store : StoreState D) (it : HasFinished faults clock crash records at (script_events taken) refused store s.written_before s.written_now) → IsAtEnd s.left_now → length taken ≤ most_bytes → IsWhole s records it.done_so.coming (all_attempts it.done_so.opened it.done_so.tried) taken refused
  ended-whole s taken refused store it at_end size =
      let run = history-of (script_events taken) it.text refused it.w it.done_so in
      record {
        at_end = at_end;
        size = size;
        wrote = subst (Grows s.written_before s.written_now) (sym run.text_is) it.written;
        refuses = run.refused_is;
        attempted = run.attempts_are;
      }

  whole-as : (ending : Ending) (s : Streams) (store : StoreState D) (refused : Bool) → ((outcomes : List Outcome) (made : List (Attempt Decoded)) (taken : List ℕ) → IsWhole s records outcomes made taken refused → EndsSo s records outcomes made taken ending) → EndedWhole faults clock crash records at refused s store → EndedAs ending s store
  whole-as ending s store refused so it =
      let d = it.finished.done_so in
      record {
        outcomes = d.coming;
        made = all_attempts d.opened d.tried;
        taken = it.taken;
        gives = it.gives;
        ends_so = so d.coming (all_attempts d.opened d.tried) it.taken (ended-whole s it.taken refused store it.finished it.at_end it.size);
        stands = subst (Stands faults clock crash records at d.coming (all_attempts d.opened d.tried)) (sym it.finished.store_is) d.stands;
      }

  pub ended_as : (ending : Ending) (s : Streams) (store : StoreState D) → EndsRun faults clock crash records at ending s store → EndedAs ending s store
  ended_as Accepted s store it = whole-as Accepted s store false (λ outcomes made taken wrote. wrote) it
  ended_as Refusing s store it = whole-as Refusing s store true (λ outcomes made taken wrote. wrote) it
  ended_as SourceFault s store it = ended-broken s store it
  ended_as TooLong s store it = ended-over s store it
  ended_as SinkFault s store it = ⊎_elim
      (λ off. let c = cut-as s off.taken (ended_events off.taken) store off.size (λ lines front. inl front) off.stopped in let them : EndedAs SinkFault s store = record { outcomes = c.outcomes; made = c.made; taken = off.taken; gives = off.gives; ends_so = c.cut; stands = c.stands } in them)
      (λ off. let c = cut-as s off.taken (script_events off.taken) store off.size (λ lines front. inr (off.at_end, front)) off.stopped in let them : EndedAs SinkFault s store = record { outcomes = c.outcomes; made = c.made; taken = off.taken; gives = off.gives; ends_so = c.cut; stands = c.stands } in them) it
  ended_as NoMemory s store it = ⊎_elim
      (λ off. let c = cut-as s off.taken (ended_events off.taken) store off.size (λ lines front. inl front) off.stopped in let them : EndedAs NoMemory s store = record { outcomes = c.outcomes; made = c.made; taken = off.taken; gives = off.gives; ends_so = c.cut; stands = c.stands } in them)
      (λ off. let c = cut-as s off.taken (script_events off.taken) store off.size (λ lines front. inr (off.at_end, front)) off.stopped in let them : EndedAs NoMemory s store = record { outcomes = c.outcomes; made = c.made; taken = off.taken; gives = off.gives; ends_so = c.cut; stands = c.stands } in them) it
  ended_as DiskFault s store it = ⊎_elim
      (λ off. let c = failure-as s off.taken (ended_events off.taken) store off.size (λ lines front. inl front) off.stopped in let them : EndedAs DiskFault s store = record { outcomes = []; made = c.made; taken = off.taken; gives = off.gives; ends_so = c.undefined; stands = c.stands } in them)
      (λ off. let c = failure-as s off.taken (script_events off.taken) store off.size (λ lines front. inr (off.at_end, front)) off.stopped in let them : EndedAs DiskFault s store = record { outcomes = []; made = c.made; taken = off.taken; gives = off.gives; ends_so = c.undefined; stands = c.stands } in them) it

status-five : (ending : Ending) → status_of ending ≡ 5 → ending ≡ DiskFault
status-five DiskFault is = refl
status-five Accepted is = let none : ⊥ = omega (arith, is) in absurd none
status-five Refusing is = let none : ⊥ = omega (arith, is) in absurd none
status-five SourceFault is = let none : ⊥ = omega (arith, is) in absurd none
status-five SinkFault is = let none : ⊥ = omega (arith, is) in absurd none
status-five NoMemory is = let none : ⊥ = omega (arith, is) in absurd none
status-five TooLong is = let none : ⊥ = omega (arith, is) in absurd none

module _ {D : Type 0} (faults clock : D → ℕ) (crash : D → ℕ → List ℕ → Type 0) where
  -- ---- the beginning

  pub opened_sound : (store : StoreState D) → IsSound (opened_world store)
  opened_sound store = record {
    paired = refl;
    seen = tt;
    writable = λ none. definable-none;
    unnamed = λ none. refl;
    no_sessions = λ none. refl;
  }

  pub begins : (store : StoreState D) (written : Option (List ℕ)) → store.doubt ≡ None → store.table ≡ stood_by store.records [] → ((image : List ℕ) → crash store.disk (clock store.disk) image → LeftRecords store.records store.doubt image) → HasPlayed faults clock crash store.records store.disk [] (opened_play store) written written
  begins store written certain stands images =
      let P : Option Decoded → Type 0 = λ doubt. HasAttempted SameRecords store.records [] [] (clock store.disk) (clock store.disk) (crash store.disk) store.records doubt in
      record {
        text = [];
        lines = record {
          coming = [];
          opened = None;
          tried = [];
          run = run_opened [] store.records store stands;
          stands = record {
            ends = [];
            fares = subst P (sym certain) (fares_opened store.records (subst (λ doubt. (image : List ℕ) → crash store.disk (clock store.disk) image → LeftRecords store.records doubt image) certain images));
            few = inl (omega arith);
            later = later-same faults clock crash store.disk;
          };
          is_made = λ none. (refl, refl);
        };
        line = refl;
        written = Grows-nothing written;
      }

  -- memory ran out before anything was taken
  pub ends_unbegun : (start : Play D) (left written : Option (List ℕ)) → EndsFrom faults clock crash start NoMemory (streams left left written written) start.world.store
  ends_unbegun start left written = record {
    ends = λ records at h. inl (record {
      taken = [];
      gives = Gives-nothing left;
      size = omega arith;
      stopped = cut_before faults clock crash records at (ended_events []) (ended_events []) [] h.text start.refused start.world start.world.store written written refl h.lines refl h.written;
    });
  }

  -- ---- the whole run

  pub was_opened : (content : D → Option (List ℕ)) (disk : D) (ending : Ending) (s : Streams) (f : StreamFaults) (first last : StoreState D) → ((bytes : List ℕ) → content last.disk ≡ Some bytes → crash last.disk (clock last.disk) bytes) → CanBeOpened first.records → IfSome (content disk) (λ image. HoldsRecords image first.records) → Passed (clock disk) (clock first.disk) (crash disk) (crash first.disk) (crash disk (clock disk)) → faults disk ≤ faults first.disk → (it : EndedAs faults clock crash first.records first.disk ending s last) → (heard heard_now : List Listening) → HasTold heard heard_now first last →
      WasOpened (run_on content faults clock crash s f disk last.disk heard heard_now) (status_of ending)
  was_opened content disk ending s f first last is_image opens holds passed later it heard heard_now told = record {
    records = first.records;
    can_be_opened = opens;
    holds = holds;
    ending = ending;
    is = refl;
    taken = it.taken;
    gives = it.gives;
    outcomes = it.outcomes;
    made = it.made;
    ends_so = it.ends_so;
    few = few-earlier it.outcomes (faults disk) (faults first.disk) (faults last.disk) later it.stands.few;
    start = clock first.disk;
    ends = it.stands.ends;
    as_many = it.stands.fares.as_many;
    from = passed.later;
    rise = it.stands.fares.rise;
    kept = λ moment image below.
        let since = it.stands.later.kept moment image (omega (arith, below, passed.later)) in
        let load = passed.kept moment image below in
        (λ left. load.0 (since.0 left), λ left. since.1 (load.1 left));
    loading = λ moment image from below left. passed.only moment image from (omega (arith, below)) ((it.stands.later.kept moment image below).0 left);
    crash = it.stands.fares.each;
    leaves = if-some (content last.disk) (λ image. HoldsLeft SameRecords first.records it.made (length it.made) image) (λ image told.
        fares_final first.records it.made it.stands.ends (clock first.disk) (clock last.disk) (crash last.disk) last.records last.doubt it.stands.fares image (is_image image told));
    told = told_done heard heard_now first last it.made it.stands.fares.are_settled told;
  }

  pub disk_rose : (records : List Decoded) (at : D) (s : Streams) (store : StoreState D) → EndsRun faults clock crash records at DiskFault s store → Rose (faults at) (faults store.disk)
  disk_rose records at s store it = ⊎_elim (λ off. off.stopped.rose) (λ off. off.stopped.rose) it

  pub opened_as : (play : Play D) (store : StoreState D) (drafted : List Def) (lines names : List (List ℕ)) (sessions : List Session) → play ≡ record { world = record { drafted = drafted; open_lines = lines; store = store; names = names; sessions = sessions }; line = []; refused = false } → drafted ≡ [] → lines ≡ [] → names ≡ [] → sessions ≡ [] → play ≡ opened_play store
  opened_as play store drafted lines names sessions is undrafted whole named none =
      let of : List Def → List (List ℕ) → List (List ℕ) → List Session → Play D = λ drafted lines names sessions. record { world = record { drafted = drafted; open_lines = lines; store = store; names = names; sessions = sessions }; line = []; refused = false } in
      is ∙ ap (λ those. of those lines names sessions) undrafted ∙ ap (λ those. of [] those names sessions) whole ∙ ap (λ those. of [] [] those sessions) named ∙ ap (of [] [] []) none

  pub sound_as : (play : Play D) (store : StoreState D) → play ≡ opened_play store → IsSound play.world
  sound_as play store is = subst (λ (p : Play D). IsSound p.world) (sym is) (opened_sound store)

  pub ends_as_opened : (play : Play D) (store last other : StoreState D) (ending : Ending) (s : Streams) → play ≡ opened_play store → other ≡ last → EndsFrom faults clock crash play ending s last → EndsFrom faults clock crash (opened_play store) ending s other
  ends_as_opened play store last other ending s is same it =
      subst (λ start. EndsFrom faults clock crash start ending s other) is (subst (EndsFrom faults clock crash play ending s) (sym same) it)

  pub told_opened : {before now : List Listening} (play : Play D) (store last other : StoreState D) → play ≡ opened_play store → other ≡ last → HasTold before now play.world.store last → HasTold before now store other
  told_opened play store last other is same told = told_as play.world.store store last other (ap (λ (play : Play D). play.world.store) is) same told

  -- a run over a store that was just loaded
  module _ (content : D → Option (List ℕ)) (disk : D) (ending : Ending) (s : Streams) (f : StreamFaults) (first last : StoreState D) (certain : first.doubt ≡ None) (table : first.table ≡ stood_by first.records []) (images : (image : List ℕ) → crash first.disk (clock first.disk) image → LeftRecords first.records first.doubt image)
      (passed : Passed (clock disk) (clock first.disk) (crash disk) (crash first.disk) (crash disk (clock disk))) (later : faults disk ≤ faults first.disk) (ends : EndsFrom faults clock crash (opened_play first) ending s last) where
    ended : EndedAs faults clock crash first.records first.disk ending s last
    ended = ended_as faults clock crash first.records first.disk ending s last (ends.ends first.records first.disk (begins first s.written_before certain table images))

    pub opened_ends : (after : D) → after ≡ last.disk → ((bytes : List ℕ) → content last.disk ≡ Some bytes → crash last.disk (clock last.disk) bytes) → CanBeOpened first.records → IfSome (content disk) (λ image. HoldsRecords image first.records) → (status : ℕ) → status ≡ status_of ending → (heard heard_now : List Listening) → HasTold heard heard_now first last → Ends (run_on content faults clock crash s f disk after heard heard_now) status
    opened_ends after same is_image opens holds status is heard heard_now told =
        let P : D → ℕ → Type 0 = λ after status. WasOpened (run_on content faults clock crash s f disk after heard heard_now) status in
        inr (subst (λ after. P after status) (sym same) (subst (P last.disk) (sym is) (was_opened content disk ending s f first last is_image opens holds passed later ended heard heard_now told)))

    pub opened_later : (after : D) → after ≡ last.disk → faults disk ≤ faults after
    opened_later after same = let more = ended.stands.later.faults_later in subst (λ after. faults disk ≤ faults after) (sym same) (omega (arith, later, more))

    pub opened_rose : (after : D) → after ≡ last.disk → (status : ℕ) → status ≡ status_of ending → status ≡ 5 → Rose (faults disk) (faults after)
    opened_rose after same status is five =
        let failed : ending ≡ DiskFault = status-five ending (sym is ∙ five) in
        subst (λ after. Rose (faults disk) (faults after)) (sym same) (rose-earlier (faults disk) (faults first.disk) (faults last.disk) later (disk_rose first.records first.disk s last (subst (λ ending. EndsRun faults clock crash first.records first.disk ending s last) failed (ends.ends first.records first.disk (begins first s.written_before certain table images)))))

  -- ---- a disk that isn't opened

  pub not_opened : (content : D → Option (List ℕ)) (disk after : D) (why : Unopened) (s : Streams) (f : StreamFaults) (status : ℕ) (heard : List Listening) → status ≡ unopened_status why → IsUnopened why (content disk) s.written_before s.written_now → s.left_now ≡ s.left_before → content after ≡ content disk → Passed (clock disk) (clock after) (crash disk) (crash after) (crash disk (clock disk)) → Ends (run_on content faults clock crash s f disk after heard heard) status
  not_opened content disk after why s f status heard is tells left same passed = inl (record { why = why; is = is; tells = tells; left = left; content = same; kept = passed.kept; undisturbed = passed.only; untold = refl })
