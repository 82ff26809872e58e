-- A run that has answered events, and answers one more.
use Rattle.std.specs.Prelude.{◌≡◌, ◌≤◌, ◌||◌, ◌++◌, ℕ, Bool, List, [], ◌∷◌, length, Option, None, Some, Err, is_some, refl}
use Rattle.std.specs.Option.{option_map}
use Rattle.std.proofs.Common.{◌∙◌, ap, ap₂, sym, subst, subst₂, ⊎_elim, arith, append_assoc, append-nil, take, drop, take-append-drop}
use Rattle.aw_lists.specs.Faults.{Rose}
use Rattle.aw_io.specs.Known.{Grows, GrowsByFront, Grows-append}
use Rattle.aw_schema.specs.declared.definition.Def.{Def}
use Rattle.aw_codec.specs.declared.record.Decoded.{Decoded}
use Rattle.aw_store.specs.StoredRecords.{definitions_of}
use Rattle.aw_store.specs.Stores.{StoreState}
use Rattle.ses_report.specs.Reports as report
use Rattle.ses_step.specs.declared.answer.Answer.{Answer}
use Rattle.ses_step.specs.declared.answer.Answer.TheVariants as answer
use Rattle.ses_step.specs.Answers.{answer_of, is_refusal}
use Rattle.script_world.specs.Outcomes.{Outcome, faulted, Attempt, among, all_attempts, attempts_of, used}
use Rattle.script_world.specs.LearntOutcomes.{AnswersEvent}
use Rattle.script_world.specs.Laws.{SameOf}
use Rattle.script_world.specs.Worlds.{World, Event, Answered, is_refused, answered, text_of}
use Rattle.script_world.proofs.callers.LearntOutcomes.{tells-behind, runs_on}
use Rattle.script_world.proofs.callers.Appending.{world_after-append}
use Rattle.script_world.proofs.callers.UnusedOutcomes.{list_told_once}
use Rattle.script_meaning.specs.Language.{language, store_writing, objects_machine, ObjectsDisk, ObjectsWorld, by_objects}
use Rattle.script_meaning.specs.ObjectsSimulation.{objects_at}
use Rattle.script_meaning.specs.StoreRuns.{store_disk, StoreRun}
use Rattle.script_meaning.specs.Transcript.{opening_objects}
use Rattle.script_meaning.proofs.callers.StoreRuns.{made-all}
use Rattle.script_play.specs.declared.world.StoreWorld.{StoreWorld}
use Rattle.script_play.specs.declared.stop.Stop.{Stop}
use Rattle.script_play.specs.declared.stop.Stop.TheVariants.{SinkFault, DiskFault, NoMemory}
use Rattle.script_play.specs.declared.response.Response.{Response}
use Rattle.script_play.specs.Runs.{with_last, GrowsBehind, defining}
use Rattle.script_play.specs.inside.StoreWorlds.{world_of, open_store, on_machine, answered_by}
use Rattle.script_play.specs.inside.LineSteps.{joined, event_means, Moves, Responds, Takes, Wants, FailsToOpen}
use Rattle.script_play.specs.inside.Playing.{said_of, refuses_of, CutIn, RespondedSo, Stands, HasDone, ClosesWith, WasCut, HasFailed, HasStopped}
use Rattle.script_play.proofs.LineSteps.{few-append, later-then}

-- ---- plain facts

-- all of a text was written, and then a front of another one, or nothing of it
grows_behind : {before middle now : Option (List ℕ)} {whole last : List ℕ} → Grows before middle whole → GrowsByFront middle now last → GrowsBehind before now whole last
grows_behind {last = last} grew front = record { front = take front.count last; rest = drop front.count last; splits = sym (take-append-drop front.count last); grows = Grows-append grew front.grows }

grows_whole : {before now : Option (List ℕ)} {whole last : List ℕ} → Grows before now whole → GrowsBehind before now whole last
grows_whole {before} {now} {whole} {last} grew = record { front = []; rest = last; splits = refl; grows = subst (Grows before now) (sym (append-nil whole)) grew }

pub rose-earlier : (before middle now : ℕ) → before ≤ middle → Rose middle now → Rose before now
rose-earlier before middle now later rose = omega (arith, later, rose)

longer-front : (all events rest more longer : List Event) → longer ≡ all ++ more → all ≡ events ++ rest → longer ≡ events ++ (rest ++ more)
longer-front all events rest more longer is front = is ∙ ap (λ those. those ++ more) front ∙ append_assoc events rest more

answer_given : Option Response → Option report.Answer
answer_given None = None
answer_given (Some response) = Some (answer_of response.answer)

answered-as : {S : Type 0} (response : Option Response) (w : World language S) → answered_by response w ≡ record { answer = answer_given response; text = said_of response; world = w }
unfolding answer_given
answered-as None w = refl
answered-as (Some response) w = refl

refused-as : (response : Option Response) → is_refused (answer_given response) ≡ refuses_of response
unfolding answer_given
refused-as None = refl
refused-as (Some response) = by_answer response.answer
  where
    by_answer : (given : Answer) → is_some (answer_of given).refusal ≡ is_refusal given
    by_answer answer.Done = refl
    by_answer (answer.Shown cell) = refl
    by_answer (answer.Refused refusal) = refl

few-used : {D : Type 0} (opened : Option Decoded) (tried : List (Attempt Decoded)) (shared : Option (StoreState D)) → used (option_map (store_disk opened tried) shared) ≤ length tried
few-used opened tried None = omega arith
few-used opened tried (Some store) = omega arith

module _ {D : Type 0} (faults clock : D → ℕ) (crash : D → ℕ → List ℕ → Type 0) (records : List Decoded) (at : D) where
  pub stands-moves : (coming told : List Outcome) (made more : List (Attempt Decoded)) (old new : StoreState D) → Stands faults clock crash records at coming made old → Moves faults clock crash told more old new → Stands faults clock crash records at (coming ++ told) (made ++ more) new
  stands-moves coming told made more old new s m = record {
    ends = s.ends ++ m.more_ends;
    fares = m.fares records made s.ends (clock at) s.fares;
    few = few-append coming told (faults at) (faults old.disk) (faults new.disk) m.later.faults_later s.few m.few;
    later = later-then faults clock crash at old.disk new.disk s.later m.later;
  }

  done_attempts : (events : List Event) (text : List ℕ) (refused : Bool) (w : StoreWorld (StoreState D)) (d : HasDone faults clock crash records at events text refused w) → attempts_of (objects_at [] records d.coming events).shared ≡ all_attempts d.opened d.tried
  done_attempts events text refused w d =
      ap (λ (it : ObjectsWorld). attempts_of it.shared) d.run.world ∙ made-all d.opened d.tried (open_store w.store) (λ none. d.is_made (unopened (definitions_of w.store.records) none))
    where
      unopened : (found : Option (List Def)) → option_map (λ (those : List Def). w.store) found ≡ None → found ≡ None
      unopened None none = refl
      unopened (Some definitions) none = cc

  -- outcomes that are told later change nothing of what was answered
  later_told : (events : List Event) (text : List ℕ) (refused : Bool) (w : StoreWorld (StoreState D)) (d : HasDone faults clock crash records at events text refused w) (told : List Outcome) → SameOf (by_objects d.coming) (by_objects (d.coming ++ told)) (opening_objects [] records) events
  later_told events text refused w d told =
      list_told_once store_writing objects_machine (opening_objects [] records) d.coming told events (subst (λ (w : ObjectsWorld). used w.shared ≤ length d.coming) (sym d.run.world) d.run.learnt)

  -- ---- one event more

  -- with the outcomes that were told
  done_told : (event : Event) (response : Option Response) (events : List Event) (text : List ℕ) (refused : Bool) (old new : StoreWorld (StoreState D)) (d : HasDone faults clock crash records at events text refused old) (a : Responds faults clock crash (event_means event) response old new) →
      (after : HasDone faults clock crash records at (events ++ event ∷ []) (text ++ said_of response) (refused || refuses_of response) new) × (after.coming ≡ d.coming ++ a.told)
  done_told event response events text refused old new d a = (
    record {
      coming = d.coming ++ a.told;
      opened = joined d.opened a.opening;
      tried = d.tried ++ a.more;
      run = subst (λ (also : Bool). StoreRun [] records (events ++ event ∷ []) (d.coming ++ a.told) (joined d.opened a.opening) (d.tried ++ a.more) (text ++ said_of response) (refused || also) (world_of new)) (refused-as response)
          (runs_on store_writing objects_machine store_disk (opening_objects [] records) events d.coming a.told d.opened (joined d.opened a.opening) d.tried a.more text (said_of response) refused event (answer_given response) (world_of old) (world_of new) d.run last);
      stands = subst (λ (made : List (Attempt Decoded)). Stands faults clock crash records at (d.coming ++ a.told) made new.store) (sym (a.behind d.opened d.tried d.is_made)) (stands-moves d.coming a.told (all_attempts d.opened d.tried) (all_attempts a.opening a.more) old.store new.store d.stands a.moves);
      is_made = a.all_made d.opened d.tried d.is_made;
    },
    refl,
  )
    where
      last : AnswersEvent store_writing objects_machine store_disk d.opened (joined d.opened a.opening) d.tried a.more a.told event (answer_given response) (said_of response) (world_of old) (world_of new)
      last = record {
        answers = λ next tells. a.means_so next d.opened d.tried d.is_made tells ∙ answered-as response (on_machine (joined d.opened a.opening) (d.tried ++ a.more) new);
        as_many = a.as_many;
        learnt = few-used (joined d.opened a.opening) (d.tried ++ a.more) (open_store new.store);
      }

  pub done_event : (event : Event) (response : Option Response) (events : List Event) (text : List ℕ) (refused : Bool) (old new : StoreWorld (StoreState D)) → HasDone faults clock crash records at events text refused old → Responds faults clock crash (event_means event) response old new → HasDone faults clock crash records at (events ++ event ∷ []) (text ++ said_of response) (refused || refuses_of response) new
  done_event event response events text refused old new d a = (done_told event response events text refused old new d a).0

  -- ---- a failure to write the definitions

  -- nothing was attempted, and no outcome told
  pub unattempted : (events : List Event) (text : List ℕ) (refused : Bool) (w : StoreWorld (StoreState D)) → (d : HasDone faults clock crash records at events text refused w) → definitions_of w.store.records ≡ None → (d.coming ≡ []) × (d.opened ≡ None) × (d.tried ≡ [])
  unattempted events text refused w d none =
      let nothing = d.is_made none in
      (empty d.coming (sym d.run.as_many ∙ ap length nothing.1), nothing.0, nothing.1)
    where
      empty : (coming : List Outcome) → length coming ≡ 0 → coming ≡ []
      empty [] is = refl
      empty (outcome ∷ coming) is = absurd (omega (arith, is))

  pub failed_so : (all events rest : List Event) (next : Event) (text : List ℕ) (refused : Bool) (old new : StoreWorld (StoreState D)) (before now : Option (List ℕ)) → all ≡ (events ++ next ∷ []) ++ rest → ClosesWith old next → HasDone faults clock crash records at events text refused old → FailsToOpen faults clock crash old new → Grows before now text → HasFailed faults clock crash records at all new.store before now
  failed_so all events rest next text refused old new before now front closes d fails grows =
      let nothing = unattempted events text refused old d fails.unopened in
      let last : List (Attempt Decoded) = defining old.drafted faulted ∷ [] in
      let made : all_attempts d.opened d.tried ≡ [] = ap₂ (λ (those : Option Decoded) (tried : List (Attempt Decoded)). all_attempts those tried) nothing.1 nothing.2 in
      record {
        events = events;
        next = next;
        rest = rest;
        front = front;
        text = text;
        refused = refused;
        w = old;
        closes = closes;
        unopened = fails.unopened;
        run = subst₂ (λ coming opened. StoreRun [] records events coming opened [] text refused (world_of old)) nothing.0 nothing.1 (subst (λ tried. StoreRun [] records events d.coming d.opened tried text refused (world_of old)) nothing.2 d.run);
        stands = subst₂ (λ coming made. Stands faults clock crash records at (coming ++ []) (made ++ last) new.store) nothing.0 made (stands-moves d.coming [] (all_attempts d.opened d.tried) last old.store new.store d.stands fails.moves);
        rose = rose-earlier (faults at) (faults old.store.disk) (faults new.store.disk) d.stands.later.faults_later fails.rose;
        written = grows;
      }

  -- ---- an event that has no answer

  cut-in : (event : Event) (events : List Event) (text : List ℕ) (refused : Bool) (old new : StoreWorld (StoreState D)) (before middle now : Option (List ℕ)) → HasDone faults clock crash records at events text refused old → Grows before middle text → CutIn faults clock crash event old new middle now → WasCut faults clock crash records at (events ++ event ∷ []) new.store before now
  cut-in event events text refused old new before middle now d grows c = record {
    events = events;
    last = Some event;
    rest = [];
    front = sym (append-nil (events ++ event ∷ []));
    coming = after.0.coming;
    made = all_attempts after.0.opened after.0.tried;
    attempted = done_attempts (events ++ event ∷ []) (text ++ said_of c.response) (refused || refuses_of c.response) new after.0;
    written = subst (λ (coming : List Outcome). GrowsBehind before now (text_of (by_objects coming) start events) (answered (by_objects coming) (objects_at [] records coming events) event).text) (sym after.1)
        (subst₂ (GrowsBehind before now) (sym (told.text ∙ d.run.due)) (sym said) (grows_behind grows c.written));
    stands = after.0.stands;
  }
    where
      start : ObjectsWorld
      start = opening_objects [] records

      all : List Outcome
      all = d.coming ++ c.answers.told

      after : (after : HasDone faults clock crash records at (events ++ event ∷ []) (text ++ said_of c.response) (refused || refuses_of c.response) new) × (after.coming ≡ all)
      after = done_told event c.response events text refused old new d c.answers

      told : SameOf (by_objects d.coming) (by_objects all) start events
      told = later_told events text refused old d c.answers.told

      said : (answered (by_objects all) (objects_at [] records all events) event).text ≡ said_of c.response
      said =
          ap (λ (w : ObjectsWorld). (answered (by_objects all) w event).text) (told.world ∙ d.run.world)
          ∙ ap (λ (a : Answered language ObjectsDisk). a.text) (c.answers.means_so (among all) d.opened d.tried d.is_made (tells-behind d.coming c.answers.told (length d.tried) (sym d.run.as_many)) ∙ answered-as c.response (on_machine (joined d.opened c.answers.opening) (d.tried ++ c.answers.more) new))

  -- nothing was attempted for the events that are left
  pub cut_before : (all events rest : List Event) (text : List ℕ) (refused : Bool) (old : StoreWorld (StoreState D)) (store : StoreState D) (before now : Option (List ℕ)) → all ≡ events ++ rest → HasDone faults clock crash records at events text refused old → store ≡ old.store → Grows before now text → WasCut faults clock crash records at all store before now
  cut_before all events rest text refused old store before now front d same grows = record {
    events = events;
    last = None;
    rest = rest;
    front = front;
    coming = d.coming;
    made = all_attempts d.opened d.tried;
    attempted = done_attempts events text refused old d;
    written = grows_whole (subst (Grows before now) (sym d.run.due) grows);
    stands = subst (Stands faults clock crash records at d.coming (all_attempts d.opened d.tried)) (sym same) d.stands;
  }

  -- the event was taken up and made its attempts, and nothing was written of it
  taken-in : (event : Event) (events : List Event) (text : List ℕ) (refused : Bool) (old new : StoreWorld (StoreState D)) (before now : Option (List ℕ)) → HasDone faults clock crash records at events text refused old → Grows before now text → Takes faults clock crash (event_means event) old new → WasCut faults clock crash records at (events ++ event ∷ []) new.store before now
  taken-in event events text refused old new before now d grows t = record {
    events = events;
    last = Some event;
    rest = [];
    front = sym (append-nil (events ++ event ∷ []));
    coming = all;
    made = all_attempts d.opened d.tried ++ t.more;
    attempted = ap (λ (w : ObjectsWorld). attempts_of w.shared) (world_after-append (by_objects all) start events (event ∷ [])) ∙ made;
    written = grows_whole (subst (Grows before now) (sym (told.text ∙ d.run.due)) grows);
    stands = stands-moves d.coming t.told (all_attempts d.opened d.tried) t.more old.store new.store d.stands t.moves;
  }
    where
      start : ObjectsWorld
      start = opening_objects [] records

      all : List Outcome
      all = d.coming ++ t.told

      told : SameOf (by_objects d.coming) (by_objects all) start events
      told = later_told events text refused old d t.told

      made : attempts_of (answered (by_objects all) (objects_at [] records all events) event).world.shared ≡ all_attempts d.opened d.tried ++ t.more
      made =
          ap (λ (w : ObjectsWorld). attempts_of (answered (by_objects all) w event).world.shared) (told.world ∙ d.run.world)
          ∙ t.made_so (among all) d.opened d.tried d.is_made (tells-behind d.coming t.told (length d.tried) (sym d.run.as_many))

  wanted-in : (event : Event) (events : List Event) (text : List ℕ) (refused : Bool) (old new : StoreWorld (StoreState D)) (before now : Option (List ℕ)) → HasDone faults clock crash records at events text refused old → Grows before now text → Wants faults clock crash (event_means event) old new → WasCut faults clock crash records at (events ++ event ∷ []) new.store before now
  wanted-in event events text refused old new before now d grows wants =
      ⊎_elim (λ same. cut_before (events ++ event ∷ []) events (event ∷ []) text refused old new.store before now refl d same grows) (taken-in event events text refused old new before now d grows) wants

  pub stopped_event : (stop : Stop) (event : Event) (events : List Event) (text : List ℕ) (refused : Bool) (old new : StoreWorld (StoreState D)) (before middle now : Option (List ℕ)) → HasDone faults clock crash records at events text refused old → Grows before middle text → RespondedSo faults clock crash event (Err stop) old new middle now → HasStopped faults clock crash records at stop (events ++ event ∷ []) new.store before now
  stopped_event SinkFault event events text refused old new before middle now d grows it = cut-in event events text refused old new before middle now d grows it
  stopped_event NoMemory event events text refused old new before middle now d grows it =
      ⊎_elim (cut-in event events text refused old new before middle now d grows) (λ wants. wanted-in event events text refused old new before now d (subst (λ known. Grows before known text) (sym wants.1) grows) wants.0) it
  stopped_event DiskFault event events text refused old new before middle now d grows it =
      failed_so (events ++ event ∷ []) events [] event text refused old new before now (sym (append-nil (events ++ event ∷ []))) it.2 d it.0 (subst (λ known. Grows before known text) (sym it.1) grows)

  -- the same, of more events
  pub stopped_more : (stop : Stop) (all more longer : List Event) (store : StoreState D) (before now : Option (List ℕ)) → longer ≡ all ++ more → HasStopped faults clock crash records at stop all store before now → HasStopped faults clock crash records at stop longer store before now
  stopped_more SinkFault all more longer store before now is it = record { events = it.events; last = it.last; rest = it.rest ++ more; front = longer-front all (with_last it.events it.last) it.rest more longer is it.front; coming = it.coming; made = it.made; attempted = it.attempted; written = it.written; stands = it.stands }
  stopped_more NoMemory all more longer store before now is it = record { events = it.events; last = it.last; rest = it.rest ++ more; front = longer-front all (with_last it.events it.last) it.rest more longer is it.front; coming = it.coming; made = it.made; attempted = it.attempted; written = it.written; stands = it.stands }
  stopped_more DiskFault all more longer store before now is it = record {
    events = it.events;
    next = it.next;
    rest = it.rest ++ more;
    front = longer-front all (it.events ++ it.next ∷ []) it.rest more longer is it.front;
    text = it.text;
    refused = it.refused;
    w = it.w;
    closes = it.closes;
    unopened = it.unopened;
    run = it.run;
    stands = it.stands;
    rose = it.rose;
    written = it.written;
  }
