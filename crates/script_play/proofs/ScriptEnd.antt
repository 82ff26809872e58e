-- What the end of the script does to a play.
use Rattle.std.specs.Prelude.{map}
use Rattle.std.proofs.Common.{◌≡◌, ◌||◌, ℕ, Bool, true, false, eqb, List, [], ◌∷◌, ◌++◌, length, Option, None, Ok, Err, refl, sym, ap, ◌∙◌, subst, ⊎_elim, append_assoc, append-nil}
use Rattle.std.proofs.lemmas.Bool.{cond-true, cond-false}
use Rattle.aw_io.specs.Known.{Grows, Grows-append}
use Rattle.aw_codec.specs.declared.record.Decoded.{Decoded}
use Rattle.aw_store.specs.Stores.{StoreState}
use Rattle.script_world.specs.Script.{open_line, script_lines, ended_lines}
use Rattle.script_world.specs.Worlds.{Event, line, block_ends, script_ends, last_events, ended_events, script_events}
use Rattle.script_world.proofs.callers.Appending.{map-append}
use Rattle.script_play.specs.declared.world.StoreWorld.{StoreWorld}
use Rattle.script_play.specs.declared.stop.Stop.{Stop}
use Rattle.script_play.specs.declared.stop.Stop.TheVariants.{SinkFault, DiskFault, NoMemory}
use Rattle.script_play.specs.inside.LineSteps.{event_means, Responds, FinishesWorldSo}
use Rattle.script_play.specs.inside.Playing.{Play, said_of, refuses_of, Responded, RespondedSo, HasDone, HasStopped, HasFinished, EndsLines, EndsBlock, Finishes, StopsAtEnd}
use Rattle.script_play.proofs.AnsweredEvents.{done_event, failed_so, cut_before, stopped_event, stopped_more}
use Rattle.script_play.proofs.Lines.{any_defined, ended_still, ended_opens}

-- the events of the lines of a script
abbrev lines_of : List ℕ → List Event
lines_of taken = map line (script_lines taken)

-- no line is open: the script's lines are those that ended
lines-none : (taken : List ℕ) → eqb (length (open_line taken)) 0 ≡ true → lines_of taken ≡ ended_events taken
lines-none taken h =
    ap (map line) (ap (λ last. ended_lines taken ++ last) (cond-true (eqb (length (open_line taken)) 0) _ _ h) ∙ append-nil (ended_lines taken))

lines-one : (taken : List ℕ) → eqb (length (open_line taken)) 0 ≡ false → lines_of taken ≡ ended_events taken ++ line (open_line taken) ∷ []
lines-one taken h =
    ap (map line) (ap (λ last. ended_lines taken ++ last) (cond-false (eqb (length (open_line taken)) 0) _ _ h)) ∙ map-append line (ended_lines taken) (open_line taken ∷ [])

module _ {D : Type 0} (faults clock : D → ℕ) (crash : D → ℕ → List ℕ → Type 0) where
  pub EndsLines-none : (old : Play D) (now : Option (List ℕ)) (text : List ℕ) → text ≡ old.line → true ≡ eqb (length text) 0 → EndsLines faults clock crash old.refused old now old.world now
  EndsLines-none old now text e none = record {
    ends = λ records at taken before h.
        let lines = lines-none taken (ap (λ (l : List ℕ). eqb (length l) 0) (sym (e ∙ h.line)) ∙ sym none) in
        (h.text, subst (λ those. HasDone faults clock crash records at those h.text old.refused old.world) (sym lines) h.lines, h.written);
  }

  pub EndsLines-one : (old : Play D) (new : StoreWorld (StoreState D)) (middle now : Option (List ℕ)) (text : List ℕ) (refused : Bool) → text ≡ old.line → false ≡ eqb (length text) 0 → Responded faults clock crash (line text) refused old.world new middle now → EndsLines faults clock crash (old.refused || refused) old middle new now
  EndsLines-one old new middle now text refused e some r = record {
    ends = λ records at taken before h.
        let lines = lines-one taken (ap (λ (l : List ℕ). eqb (length l) 0) (sym (e ∙ h.line)) ∙ sym some) in
        let same : ended_events taken ++ line text ∷ [] ≡ lines_of taken = ap (λ last. ended_events taken ++ line last ∷ []) (e ∙ h.line) ∙ sym lines in
        let said : List ℕ = h.text ++ said_of r.response in
        let did : HasDone faults clock crash records at (ended_events taken ++ line text ∷ []) said (old.refused || refuses_of r.response) new = done_event faults clock crash records at (line text) r.response (ended_events taken) h.text old.refused old.world new h.lines r.answers in
        (said, subst (λ those. HasDone faults clock crash records at those said (old.refused || refused) new) same (subst (λ it. HasDone faults clock crash records at (ended_events taken ++ line text ∷ []) said (old.refused || it) new) (sym r.refuses) did), Grows-append h.written r.written);
  }

  pub StopsAtEnd-one : (stop : Stop) (old : Play D) (new : StoreWorld (StoreState D)) (middle now : Option (List ℕ)) (text : List ℕ) → text ≡ old.line → false ≡ eqb (length text) 0 → RespondedSo faults clock crash (line text) (Err stop) old.world new middle now → StopsAtEnd faults clock crash stop old middle new.store now
  StopsAtEnd-one stop old new middle now text e some r = record {
    stops = λ records at taken before h.
        let lines = lines-one taken (ap (λ (l : List ℕ). eqb (length l) 0) (sym (e ∙ h.line)) ∙ sym some) in
        let same : ended_events taken ++ line text ∷ [] ≡ lines_of taken = ap (λ last. ended_events taken ++ line last ∷ []) (e ∙ h.line) ∙ sym lines in
        stopped_more faults clock crash records at stop (lines_of taken) last_events (script_events taken) new.store before now refl (subst (λ those. HasStopped faults clock crash records at stop those new.store before now) same (stopped_event faults clock crash records at stop (line text) (ended_events taken) h.text old.refused old.world new before middle now h.lines h.written r));
  }

  -- ---- the end of a block

  -- all events of a script but its end, which is the last one
  all_events : (taken : List ℕ) → (lines_of taken ++ block_ends ∷ []) ++ script_ends ∷ [] ≡ script_events taken
  all_events taken = append_assoc (lines_of taken) (block_ends ∷ []) (script_ends ∷ [])

  either-same : {a b : Bool} (first : Bool) → a ≡ b → (first || a) ≡ (first || b)
  either-same first is = ap (λ it. first || it) is

  pub EndsBlock-so : (refused block : Bool) (old : Play D) (middle new : StoreWorld (StoreState D)) (first between now : Option (List ℕ)) → EndsLines faults clock crash refused old first middle between → Responded faults clock crash block_ends block middle new between now → EndsBlock faults clock crash (refused || block) old first new now
  EndsBlock-so refused block old middle new first between now ends r = record {
    ends = λ records at taken before h.
        let e = ends.ends records at taken before h in
        let did : HasDone faults clock crash records at (lines_of taken ++ block_ends ∷ []) (e.0 ++ said_of r.response) (refused || refuses_of r.response) new = done_event faults clock crash records at block_ends r.response (lines_of taken) e.0 refused middle new e.1 r.answers in
        (e.0 ++ said_of r.response, subst (λ it. HasDone faults clock crash records at (lines_of taken ++ block_ends ∷ []) (e.0 ++ said_of r.response) it new) (sym (either-same refused r.refuses)) did, Grows-append e.2 r.written);
  }

  pub StopsAtEnd-block : (stop : Stop) (refused : Bool) (old : Play D) (middle new : StoreWorld (StoreState D)) (first between now : Option (List ℕ)) → EndsLines faults clock crash refused old first middle between → RespondedSo faults clock crash block_ends (Err stop) middle new between now → StopsAtEnd faults clock crash stop old first new.store now
  StopsAtEnd-block stop refused old middle new first between now ends r = record {
    stops = λ records at taken before h.
        let e = ends.ends records at taken before h in
        stopped_more faults clock crash records at stop (lines_of taken ++ block_ends ∷ []) (script_ends ∷ []) (script_events taken) new.store before now (sym (all_events taken)) (stopped_event faults clock crash records at stop block_ends (lines_of taken) e.0 refused middle new before between now e.1 e.2 r);
  }

  -- ---- the end of the script

  module _ (records : List Decoded) (at : D) (taken : List ℕ) (text : List ℕ) (refused : Bool) (middle : StoreWorld (StoreState D)) (before now : Option (List ℕ)) (d : HasDone faults clock crash records at (lines_of taken ++ block_ends ∷ []) text refused middle) (grows : Grows before now text) where
    or-false : (b : Bool) → (b || false) ≡ b
    or-false true = refl
    or-false false = refl

    -- an event that writes nothing
    quiet : (events : List Event) (w : StoreWorld (StoreState D)) → HasDone faults clock crash records at events (text ++ []) (refused || false) w → HasDone faults clock crash records at events text refused w
    quiet events w it =
        subst (λ (said : List ℕ). HasDone faults clock crash records at events said refused w) (append-nil text) (subst (λ (also : Bool). HasDone faults clock crash records at events (text ++ []) also w) (or-false refused) it)

    ended : (new : StoreWorld (StoreState D)) → Responds faults clock crash (event_means script_ends) None middle new → HasDone faults clock crash records at (script_events taken) text refused new
    ended new it =
        subst (λ (those : List Event). HasDone faults clock crash records at those text refused new) (all_events taken) (quiet ((lines_of taken ++ block_ends ∷ []) ++ script_ends ∷ []) new (done_event faults clock crash records at script_ends None (lines_of taken ++ block_ends ∷ []) text refused middle new d it))

    finished-by : (new : StoreWorld (StoreState D)) (store : StoreState D) → store ≡ new.store → Responds faults clock crash (event_means script_ends) None middle new → HasFinished faults clock crash records at (script_events taken) refused store before now
    finished-by new store same it = record { text = text; w = new; done_so = ended new it; store_is = same; written = grows }

    finished-so : (new : StoreWorld (StoreState D)) → FinishesWorldSo faults clock crash (Ok tt) middle new → HasFinished faults clock crash records at (script_events taken) refused new.store before now
    finished-so new it =
        ⊎_elim (λ same. finished-by middle new.store (ap (λ (w : StoreWorld (StoreState D)). w.store) same.0) (ended_still faults clock crash middle same.1)) (λ opened. finished-by new new.store refl (ended_opens faults clock crash middle new opened.0 opened.1)) it

    stopped-so : (stop : Stop) (new : StoreWorld (StoreState D)) → FinishesWorldSo faults clock crash (Err stop) middle new → HasStopped faults clock crash records at stop (script_events taken) new.store before now
    stopped-so SinkFault new none = absurd none
    stopped-so DiskFault new fails =
        failed_so faults clock crash records at (script_events taken) (lines_of taken ++ block_ends ∷ []) [] script_ends text refused middle new before now (sym (all_events taken) ∙ sym (append-nil ((lines_of taken ++ block_ends ∷ []) ++ script_ends ∷ []))) (any_defined middle.drafted fails.1) d fails.0 grows
    stopped-so NoMemory new same = cut_before faults clock crash records at (script_events taken) (lines_of taken ++ block_ends ∷ []) (script_ends ∷ []) text refused middle new.store before now (sym (all_events taken)) d same grows

  pub Finishes-so : (refused : Bool) (old : Play D) (middle new : StoreWorld (StoreState D)) (first now : Option (List ℕ)) → EndsBlock faults clock crash refused old first middle now → FinishesWorldSo faults clock crash (Ok tt) middle new → Finishes faults clock crash refused old first new.store now
  Finishes-so refused old middle new first now ends it = record {
    finishes = λ records at taken before h.
        let e = ends.ends records at taken before h in
        finished-so records at taken e.0 refused middle before now e.1 e.2 new it;
  }

  pub StopsAtEnd-so : (stop : Stop) (refused : Bool) (old : Play D) (middle new : StoreWorld (StoreState D)) (first now : Option (List ℕ)) → EndsBlock faults clock crash refused old first middle now → FinishesWorldSo faults clock crash (Err stop) middle new → StopsAtEnd faults clock crash stop old first new.store now
  StopsAtEnd-so stop refused old middle new first now ends it = record {
    stops = λ records at taken before h.
        let e = ends.ends records at taken before h in
        stopped-so records at taken e.0 refused middle before now e.1 e.2 stop new it;
  }
