-- What a byte, and bytes one after the other, do to a play.
use Rattle.std.proofs.Common.{◌≡◌, ◌||◌, ℕ, Bool, false, eqb, List, [], ◌∷◌, ◌++◌, Option, Err, refl, sym, ap, ◌∙◌, subst, append_assoc, append-nil}
use Rattle.std.specs.Str.Lines.{strip_carriage_return}
use Rattle.std.proofs.lemmas.Bool.{cond-false}
use Rattle.aw_io.specs.Known.{Grows-append}
use Rattle.script_world.specs.Script.{open_line}
use Rattle.script_world.specs.Worlds as script
use Rattle.script_world.specs.Worlds.{ended_events}
use Rattle.script_world.proofs.callers.Appending.{ended_events-push, more_events}
use Rattle.script_world.proofs.callers.ScriptLaws.{open_line-push}
use Rattle.script_play.specs.declared.stop.Stop.{Stop}
use Rattle.script_play.specs.declared.stop.Stop.TheVariants.{NoMemory}
use Rattle.script_play.specs.inside.Playing.{Play, said_of, refuses_of, Responded, RespondedSo, HasDone, HasPlayed, HasStopped, Feeds, StopsIn}
use Rattle.script_play.proofs.AnsweredEvents.{done_event, cut_before, stopped_event, stopped_more}

module _ {D : Type 0} (faults clock : D → ℕ) (crash : D → ℕ → List ℕ → Type 0) where
  -- a line ended that is the open one without its carriage return
  pub Feeds-answered : (old new : Play D) (middle now : Option (List ℕ)) (text : List ℕ) (refused : Bool) → text ≡ strip_carriage_return old.line → Responded faults clock crash (script.line text) refused old.world new.world middle now → new.refused ≡ (old.refused || refused) → new.line ≡ [] → Feeds faults clock crash (10 ∷ []) old middle new now
  Feeds-answered old new middle now text refused is r refuses none = record {
    plays = λ records at taken before h.
        let same : text ≡ strip_carriage_return (open_line taken) = is ∙ ap strip_carriage_return h.line in
        let lines : ended_events taken ++ script.line text ∷ [] ≡ ended_events (taken ++ 10 ∷ []) = ap (λ last. ended_events taken ++ script.line last ∷ []) same ∙ sym (ended_events-push taken 10) in
        let all : (old.refused || refuses_of r.response) ≡ new.refused = ap (λ it. old.refused || it) (sym r.refuses) ∙ sym refuses in
        let did : HasDone faults clock crash records at (ended_events taken ++ script.line text ∷ []) (h.text ++ said_of r.response) (old.refused || refuses_of r.response) new.world = done_event faults clock crash records at (script.line text) r.response (ended_events taken) h.text old.refused old.world new.world h.lines r.answers in
        record {
          text = h.text ++ said_of r.response;
          lines = subst (λ those. HasDone faults clock crash records at those (h.text ++ said_of r.response) new.refused new.world) lines (subst (λ it. HasDone faults clock crash records at (ended_events taken ++ script.line text ∷ []) (h.text ++ said_of r.response) it new.world) all did);
          line = none ∙ sym (open_line-push taken 10);
          written = Grows-append h.written r.written;
        };
  }

  pub StopsIn-answered : (stop : Stop) (old new : Play D) (middle now : Option (List ℕ)) (text : List ℕ) → text ≡ strip_carriage_return old.line → RespondedSo faults clock crash (script.line text) (Err stop) old.world new.world middle now → StopsIn faults clock crash stop (10 ∷ []) old middle new now
  StopsIn-answered stop old new middle now text is r = record {
    stops = λ records at taken before h.
        let same : text ≡ strip_carriage_return (open_line taken) = is ∙ ap strip_carriage_return h.line in
        let lines : ended_events taken ++ script.line text ∷ [] ≡ ended_events (taken ++ 10 ∷ []) = ap (λ last. ended_events taken ++ script.line last ∷ []) same ∙ sym (ended_events-push taken 10) in
        subst (λ those. HasStopped faults clock crash records at stop those new.world.store before now) lines (stopped_event faults clock crash records at stop (script.line text) (ended_events taken) h.text old.refused old.world new.world before middle now h.lines h.written r);
  }

  -- the line goes on
  pub Feeds-more : (b : ℕ) (old : Play D) (line : List ℕ) (now : Option (List ℕ)) → eqb b 10 ≡ false → line ≡ old.line ++ b ∷ [] → Feeds faults clock crash (b ∷ []) old now (record old { line = line }) now
  Feeds-more b old line now other is = record {
    plays = λ records at taken before h.
        let ended : ended_events (taken ++ b ∷ []) ≡ ended_events taken = ended_events-push taken b ∙ cond-false (eqb b 10) _ _ other in
        record {
          text = h.text;
          lines = subst (λ those. HasDone faults clock crash records at those h.text old.refused old.world) (sym ended) h.lines;
          line = is ∙ ap (λ bytes. bytes ++ b ∷ []) h.line ∙ sym (open_line-push taken b ∙ cond-false (eqb b 10) _ _ other);
          written = h.written;
        };
  }

  pub StopsIn-nothing : (bytes : List ℕ) (old : Play D) (line : List ℕ) (now : Option (List ℕ)) → StopsIn faults clock crash NoMemory bytes old now (record old { line = line }) now
  StopsIn-nothing bytes old line now = record {
    stops = λ records at taken before h.
        let more = more_events taken bytes in
        cut_before faults clock crash records at (ended_events (taken ++ bytes)) (ended_events taken) more.events h.text old.refused old.world old.world.store before now more.is h.lines refl h.written;
  }

  -- ---- bytes one after the other

  pub Feeds-nothing : (play : Play D) (now : Option (List ℕ)) → Feeds faults clock crash [] play now play now
  Feeds-nothing play now = record { plays = λ records at taken before h. subst (λ bytes. HasPlayed faults clock crash records at bytes play before now) (sym (append-nil taken)) h }

  pub Feeds-append : {first next : List ℕ} {a b c : Play D} {u v w : Option (List ℕ)} → Feeds faults clock crash first a u b v → Feeds faults clock crash next b v c w → Feeds faults clock crash (first ++ next) a u c w
  Feeds-append {first} {next} {c = c} {w = w} f g = record {
    plays = λ records at taken before h.
        subst (λ bytes. HasPlayed faults clock crash records at bytes c before w) (append_assoc taken first next) (g.plays records at (taken ++ first) before (f.plays records at taken before h));
  }

  pub StopsIn-append : {stop : Stop} {first next : List ℕ} {a b c : Play D} {u v w : Option (List ℕ)} → Feeds faults clock crash first a u b v → StopsIn faults clock crash stop next b v c w → StopsIn faults clock crash stop (first ++ next) a u c w
  StopsIn-append {stop} {first} {next} {c = c} {w = w} f g = record {
    stops = λ records at taken before h.
        subst (λ bytes. HasStopped faults clock crash records at stop (ended_events bytes) c.world.store before w) (append_assoc taken first next) (g.stops records at (taken ++ first) before (f.plays records at taken before h));
  }

  pub StopsIn-more : {stop : Stop} {bytes : List ℕ} (more : List ℕ) {a c : Play D} {u w : Option (List ℕ)} → StopsIn faults clock crash stop bytes a u c w → StopsIn faults clock crash stop (bytes ++ more) a u c w
  StopsIn-more {stop} {bytes} more {c = c} {w = w} f = record {
    stops = λ records at taken before h.
        let longer = more_events (taken ++ bytes) more in
        stopped_more faults clock crash records at stop (ended_events (taken ++ bytes)) longer.events (ended_events (taken ++ (bytes ++ more))) c.world.store before w (ap ended_events (sym (append_assoc taken bytes more)) ∙ longer.is) (f.stops records at taken before h);
  }
