-- What the parts of a line's answer mean on the machine.
use Rattle.std.specs.Prelude.{unwrap_or, ◌≡◌, ◌≢◌, ◌≤◌, ◌<◌, ◌++◌, ◌⊎◌, ℕ, zero, suc, min, Bool, true, false, List, [], ◌∷◌, length, map, nat_lt, Option, None, Some, Result, Ok, Err, is_none, if◌then◌else◌, slice_index_or, slice_set, refl}
use Rattle.std.specs.Option.{option_map, option_to_list}
use Rattle.std.proofs.Common.{◌∙◌, ap, ap₂, sym, subst, inl, inr, ⊎_elim, arith, append_assoc, append-nil, length-set, length-append}
use Rattle.std.proofs.lemmas.Bool.{lt-ltb, le-ltb, ltb-true, ltb-false}
use Rattle.std.proofs.lemmas.Option.{none-some}
use Rattle.aw_schema.specs.declared.definition.Def.{Def}
use Rattle.aw_cell.specs.Names.{same_word}
use Rattle.aw_codec.specs.declared.record.Decoded.{Decoded}
use Rattle.aw_codec.specs.declared.record.Decoded.TheVariants.{Definitions}
use Rattle.mv_core.specs.Workspace.{Table}
use Rattle.aw_store.specs.StoredRecords.{definitions_of}
use Rattle.aw_store.specs.Stores.{StoreState}
use Rattle.ses_report.specs.declared.refusal.Refusal.{Refusal}
use Rattle.ses_report.specs.Refusals.{too_many_sessions}
use Rattle.ses_step.specs.declared.answer.Answer.{Answer}
use Rattle.ses_step.specs.Answers.{answer_of}
use Rattle.ses_step.specs.declared.command.Command.{Command}
use Rattle.ses_step.specs.declared.command.Command.TheVariants as command
use Rattle.ses_step.specs.declared.session.Begun.{Begun}
use Rattle.ses_step.specs.declared.command.Asked.{Asked}
use Rattle.ses_step.specs.declared.command.Asked.TheVariants as asks
use Rattle.ses_step.specs.declared.session.Known.{Known}
use Rattle.ses_step.specs.declared.session.Session.{Session}
use Rattle.ses_step.specs.declared.line.LineForm.TheVariants.{Definition}
use Rattle.ses_step.specs.Lines.{opens_block, is_end, line_form}
use Rattle.ses_step.specs.SessionLines.{asked, begun_as}
use Rattle.ses_step.specs.Sessions.{Sees, new_session, resting, name_at}
use Rattle.script_world.specs.Outcomes.{Outcome, done, Attempt, as_done, all_attempts, attempts_of}
use Rattle.script_world.specs.Meaning.{Form, nothing, malformed, joins, ends}
use Rattle.script_world.specs.Worlds.{Answered, answered_so, no_session, silent, defined, defined_so, block_ended, answers, with_session, closed, shared_of, commanded, crowded_out, settled, block_ends, script_ends}
use Rattle.script_world.proofs.callers.Moves.{position-le}
use Rattle.script_meaning.specs.DefinitionLines.{define, late}
use Rattle.script_meaning.specs.Fit.{AreDefinable}
use Rattle.script_meaning.specs.Language.{language, Written, form_of, block_form, form, is_any, ObjectsDisk, ObjectsWorld}
use Rattle.script_meaning.specs.StoreRuns.{store_disk}
use Rattle.script_meaning.specs.Turns.{with_turn, Turn, turn, turn_from, line_turn}
use Rattle.script_meaning.proofs.callers.Defining.{defined-definable}
use Rattle.script_meaning.proofs.callers.TakingTurns.{line-turn}
use Rattle.script_play.specs.declared.world.StoreWorld.{StoreWorld}
use Rattle.script_play.specs.declared.response.Response.{Response}
use Rattle.script_play.specs.declared.stop.Stop.{Stop}
use Rattle.script_play.specs.declared.stop.Stop.TheVariants.{SinkFault, DiskFault, NoMemory}
use Rattle.script_play.specs.inside.Drafts.{Drafted, drafted_by}
use Rattle.script_play.specs.inside.StoreWorlds.{definitions_in, AllSee, known_by, own_known, on_machine, IsMade, IsSound, answered_by, refusing_response, joined_by, JoinsSo, own_place, placed}
use Rattle.script_play.specs.inside.LineSteps.{machine, Means, IsOpen, turn_means, session_means, named_means, form_means, definition_means, ended_means, event_means, line_means, Moves, Turned, TurnTakes, TurnWants, TurnsAt, Answers, Responds, Takes, Wants, Opens, ClosesSo, StopsSo, RespondsSo}
use Rattle.script_play.specs.Runs.{defining}
use Rattle.script_play.proofs.LineSteps.{moves-nothing, moves-then}

-- ---- the first line of a session that isn't attached makes no attempt

module _ (next : ℕ → Outcome) (definitions : List Def) (names : List (List ℕ)) (disk : ObjectsDisk) (who : ℕ) where
  abbrev first_attempts : Begun × Session → List (Attempt Decoded)
  first_attempts b = attempts_of (Some (turn_from (machine next) definitions names disk b).shared)

  first-turn : (own : Command) → attempts_of (Some (turn (machine next) definitions names disk (new_session who) own).shared) ≡ attempts_of (Some disk)
  first-turn (command.Attach mode) = refl
  first-turn (command.Write object cells) = refl
  first-turn (command.Maintain object values) = refl
  first-turn (command.Show cell) = refl
  first-turn command.Detach = refl
  first-turn (command.Acquire keep fresh same) = refl
  first-turn (command.Resync objects) = refl
  first-turn (command.Release objects) = refl
  first-turn (command.Revert objects) = refl
  first-turn (command.Update objects) = refl
  first-turn command.Commit = refl

  first-line-turn : (its : Written) → attempts_of (Some (line_turn (machine next) definitions names disk (new_session who) its).shared) ≡ attempts_of (Some disk)
  first-line-turn its = by (asked definitions (new_session who) its.line its.from)
    where
      by : (it : Asked) → first_attempts (begun_as definitions (new_session who) it) ≡ attempts_of (Some disk)
      by (asks.Refused refusal) = refl
      by (asks.Runs own) = first-turn own

pub any_defined : (d : List Def) → d ≢ [] → is_any d ≡ true
any_defined [] some = absurd (some refl)
any_defined (def ∷ d) some = refl

-- a world that was just opened, in which no session has appeared
abbrev just_opened : List Def → List (List ℕ) → ObjectsDisk → ObjectsWorld
just_opened definitions lines disk = record { definitions = definitions; open_lines = lines; shared = Some disk; names = []; sessions = [] }

first-line : (next : ℕ → Outcome) (definitions : List Def) (lines : List (List ℕ)) (disk : ObjectsDisk) (name : List ℕ) (its : Written) → attempts_of (session_means name its next (just_opened definitions lines disk)).world.shared ≡ attempts_of (Some disk)
first-line next definitions lines disk name its =
    let w : ObjectsWorld = with_session (just_opened definitions lines disk) name in
    ap (λ (a : Answered language ObjectsDisk). attempts_of a.world.shared) (line-turn (machine next) w 0 disk refl its) ∙ first-line-turn next definitions (name ∷ []) disk 0 its

-- more attempts behind those that were made
behind-none : (opened : Option Decoded) (tried more : List (Attempt Decoded)) → all_attempts opened (tried ++ more) ≡ all_attempts opened tried ++ more
behind-none opened tried more = sym (append_assoc (map as_done (option_to_list opened)) tried more)

-- an element put back
set-held : {X : Type 0} (xs : List X) (i : ℕ) (default : X) → i < length xs → slice_set xs i (slice_index_or xs i default) ≡ xs
set-held [] i default inside = refl
set-held (x ∷ xs) zero default inside = refl
set-held (x ∷ xs) (suc i) default inside = ap (λ rest. x ∷ rest) (set-held xs i default (omega (arith, inside)))

-- what the sessions know, where one is set or looked up
known-length : (sessions : List Session) → length (known_by sessions) ≡ length sessions
known-length [] = refl
known-length (session ∷ sessions) = ap suc (known-length sessions)

known-index : (sessions : List Session) (i : ℕ) (default : Session) → slice_index_or (known_by sessions) i default.known ≡ (slice_index_or sessions i default).known
known-index [] i default = refl
known-index (session ∷ sessions) zero default = refl
known-index (session ∷ sessions) (suc i) default = known-index sessions i default

known-set : (sessions : List Session) (i : ℕ) (new : Session) → slice_set (known_by sessions) i new.known ≡ known_by (slice_set sessions i new)
known-set [] i new = refl
known-set (session ∷ sessions) zero new = refl
known-set (session ∷ sessions) (suc i) new = ap (λ rest. session.known ∷ rest) (known-set sessions i new)

known-push : (sessions : List Session) (new : Session) → known_by (sessions ++ new ∷ []) ≡ known_by sessions ++ new.known ∷ []
known-push [] new = refl
known-push (session ∷ sessions) new = ap (λ rest. session.known ∷ rest) (known-push sessions new)

-- what each session sees, where one is looked up, set or added
pub see-held : (definitions : List Def) (sessions : List Session) (i who : ℕ) → AllSee definitions sessions → Sees definitions (slice_index_or sessions i (resting (new_session who))).known
see-held definitions [] i who all = tt
see-held definitions (session ∷ sessions) zero who all = all.0
see-held definitions (session ∷ sessions) (suc i) who all = see-held definitions sessions i who all.1

see-set : (definitions : List Def) (sessions : List Session) (i : ℕ) (new : Session) → AllSee definitions sessions → Sees definitions new.known → AllSee definitions (slice_set sessions i new)
see-set definitions [] i new all sees = tt
see-set definitions (session ∷ sessions) zero new all sees = (sees, all.1)
see-set definitions (session ∷ sessions) (suc i) new all sees = (all.0, see-set definitions sessions i new all.1 sees)

see-push : (definitions : List Def) (sessions : List Session) (new : Session) → AllSee definitions sessions → Sees definitions new.known → AllSee definitions (sessions ++ new ∷ [])
see-push definitions [] new all sees = (sees, tt)
see-push definitions (session ∷ sessions) new all sees = (all.0, see-push definitions sessions new all.1 sees)

module _ {D : Type 0} (faults clock : D → ℕ) (crash : D → ℕ → List ℕ → Type 0) where
  -- an event that changes nothing
  pub answers_still : (means : Means) (response : Option Response) (w : StoreWorld (StoreState D)) → ((next : ℕ → Outcome) (opened : Option Decoded) (tried : List (Attempt Decoded)) → means next (on_machine opened tried w) ≡ answered_by response (on_machine opened tried w)) → Answers faults clock crash means response w w
  answers_still means response w is = record {
    told = [];
    more = [];
    as_many = refl;
    moves = moves-nothing faults clock crash w.store;
    means_so = λ next opened tried made tells. is next opened tried ∙ ap (λ those. answered_by response (on_machine opened those w)) (sym (append-nil tried));
    all_made = λ opened tried made none. ((made none).0, append-nil tried ∙ (made none).1);
    keeps_sound = λ sound. sound;
  }

  -- an event that writes no record of definitions
  pub responds : (means : Means) (response : Option Response) (old new : StoreWorld (StoreState D)) → Answers faults clock crash means response old new → Responds faults clock crash means response old new
  responds means response old new it = record {
    opening = None;
    told = it.told;
    more = it.more;
    as_many = it.as_many;
    moves = it.moves;
    means_so = it.means_so;
    all_made = it.all_made;
    behind = λ opened tried made. behind-none opened tried it.more;
    keeps_sound = it.keeps_sound;
  }

  -- ---- a line of a session

  module _ (who : ℕ) (it : Written) (old : StoreWorld (StoreState D)) (definitions : List Def) (is : definitions_of old.store.records ≡ Some definitions) where
    -- the world by what is found of the definitions, and with another store and other sessions
    abbrev over : Option Decoded → List (Attempt Decoded) → StoreState D → List Known → Option (List Def) → ObjectsWorld
    over opened tried store sessions found = record { definitions = unwrap_or found old.drafted; open_lines = old.open_lines; shared = option_map (store_disk opened tried) (option_map (λ (those : List Def). store) found); names = old.names; sessions = sessions }

    in-store : definitions_in old.store ≡ definitions
    in-store = ap (λ (found : Option (List Def)). unwrap_or found []) is

    abbrev taken : (ℕ → Outcome) → Option Decoded → List (Attempt Decoded) → Turn ObjectsDisk
    taken next opened tried = line_turn (machine next) definitions old.names (store_disk opened tried old.store) (own_known old who) it

    turn-is : (next : ℕ → Outcome) (opened : Option Decoded) (tried : List (Attempt Decoded)) → turn_means who it next (on_machine opened tried old) ≡ with_turn (over opened tried old.store (known_by old.sessions) (Some definitions)) who (taken next opened tried)
    turn-is next opened tried =
        ap (λ found. turn_means who it next (over opened tried old.store (known_by old.sessions) found)) is
        ∙ line-turn (machine next) (over opened tried old.store (known_by old.sessions) (Some definitions)) who (store_disk opened tried old.store) refl it
        ∙ ap (λ (known : Known). with_turn (over opened tried old.store (known_by old.sessions) (Some definitions)) who (line_turn (machine next) definitions old.names (store_disk opened tried old.store) known it)) (known-index old.sessions who (resting (new_session who)))

    turn-answers : (answer : Answer) (after : Session) (store : StoreState D) → Turned faults clock crash definitions old.names it answer (own_known old who) after.known old.store store →
        Answers faults clock crash (turn_means who it) (Some (record { prefix = name_at old.names who; answer = answer })) old (record old { store = store; sessions = slice_set old.sessions who after })
    turn-answers answer after store t = record {
      told = t.told;
      more = t.more;
      as_many = t.as_many;
      moves = t.moves;
      means_so = λ next opened tried made tells.
          turn-is next opened tried
          ∙ ap (with_turn (over opened tried old.store (known_by old.sessions) (Some definitions)) who) (t.turns next opened tried tells)
          ∙ ap (λ (sessions : List Known). let w : ObjectsWorld = over opened (tried ++ t.more) store sessions (Some definitions) in answered_so (name_at old.names who) (answer_of answer) w) (known-set old.sessions who after)
          ∙ ap (λ found. let w : ObjectsWorld = over opened (tried ++ t.more) store (known_by (slice_set old.sessions who after)) found in answered_so (name_at old.names who) (answer_of answer) w) (sym (t.moves.keeps_open definitions is));
      all_made = λ opened tried made none. absurd (none-some definitions (sym none ∙ t.moves.keeps_open definitions is));
      keeps_sound = λ sound. record {
        paired = length-set old.sessions who after ∙ sound.paired;
        seen =
            let before : AllSee definitions old.sessions = subst (λ those. AllSee those old.sessions) in-store sound.seen in
            subst (λ those. AllSee those (slice_set old.sessions who after)) (sym (ap (λ (found : Option (List Def)). unwrap_or found []) (t.moves.keeps_open definitions is)))
            (see-set definitions old.sessions who after before (t.keeps_seen (see-held definitions old.sessions who who before)));
        writable = λ none. absurd (none-some definitions (sym none ∙ t.moves.keeps_open definitions is));
        unnamed = λ none. absurd (none-some definitions (sym none ∙ t.moves.keeps_open definitions is));
        no_sessions = λ none. absurd (none-some definitions (sym none ∙ t.moves.keeps_open definitions is));
      };
    }

    turn-takes : (new : StoreWorld (StoreState D)) → TurnTakes faults clock crash definitions old.names it (own_known old who) old.store new.store → Takes faults clock crash (turn_means who it) old new
    turn-takes new t = record {
      told = t.told;
      more = t.more;
      moves = t.moves;
      made_so = λ next opened tried made tells. ap (λ (a : Answered language ObjectsDisk). attempts_of a.world.shared) (turn-is next opened tried) ∙ t.made_so next opened tried tells;
    }

  pub turn_some : (who : ℕ) (it : Written) (answer : Answer) (prefix : List ℕ) (old new : StoreWorld (StoreState D)) → prefix ≡ name_at old.names who → IsOpen old.store → TurnsAt faults clock crash it answer who old new → Answers faults clock crash (turn_means who it) (Some (record { prefix = prefix; answer = answer })) old new
  turn_some who it answer prefix old new prefix_is open_is turns =
      let P : List ℕ → StoreWorld (StoreState D) → Type 0 = λ prefix w. Answers faults clock crash (turn_means who it) (Some (record { prefix = prefix; answer = answer })) old w in
      let at : P (name_at old.names who) (record old { store = new.store; sessions = slice_set old.sessions who turns.after }) = turn-answers who it old open_is.0 open_is.1 answer turns.after new.store (subst (λ definitions. Turned faults clock crash definitions old.names it answer (own_known old who) turns.after.known old.store new.store) (in-store who it old open_is.0 open_is.1) turns.turned) in
      subst (λ p. P p new) (sym prefix_is) (subst (P (name_at old.names who)) (sym turns.rest) at)

  pub turn_wants : (who : ℕ) (it : Written) (old new : StoreWorld (StoreState D)) → IsOpen old.store → TurnWants faults clock crash (definitions_in old.store) old.names it (own_known old who) old.store new.store → Wants faults clock crash (turn_means who it) old new
  turn_wants who it old new open_is wants =
      ⊎_elim (λ same. let none : Wants faults clock crash (turn_means who it) old new = inl same in none) (λ takes. inr (turn-takes who it old open_is.0 open_is.1 new (subst (λ definitions. TurnTakes faults clock crash definitions old.names it (own_known old who) old.store new.store) (in-store who it old open_is.0 open_is.1) takes))) wants

  -- ---- under a session's name

  placed-is : (opened : Option Decoded) (tried : List (Attempt Decoded)) (w : StoreWorld (StoreState D)) (name : List ℕ) → with_session (on_machine opened tried w) name ≡ on_machine opened tried (placed w name)
  placed-is opened tried w name = by_test (nat_lt (own_place w name) (length w.names))
    where
      there : ObjectsWorld
      there = on_machine opened tried w

      next : Session
      next = resting (new_session (length w.names))

      by_room : (room : Bool) → (if room then known_by w.sessions ++ next.known ∷ [] else known_by w.sessions) ≡ known_by (if room then w.sessions ++ next ∷ [] else w.sessions)
      by_room true = sym (known-push w.sessions next)
      by_room false = refl

      more : List Session
      more = if nat_lt (length w.names) 64 then w.sessions ++ next ∷ [] else w.sessions

      more_known : List Known
      more_known = if nat_lt (length w.names) 64 then known_by w.sessions ++ next.known ∷ [] else known_by w.sessions

      by_test : (test : Bool) → (if test then there else record there { names = w.names ++ name ∷ []; sessions = more_known }) ≡ record there { names = if test then w.names else w.names ++ name ∷ []; sessions = known_by (if test then w.sessions else more) }
      by_test true = refl
      by_test false = ap (λ (sessions : List Known). let it : ObjectsWorld = record there { names = w.names ++ name ∷ []; sessions = sessions } in it) (by_room (nat_lt (length w.names) 64))

  abbrev planned_at : (ℕ → Outcome) → Written → ℕ → ObjectsWorld → Bool → Answered language ObjectsDisk
  planned_at next its place w room =
      settled (machine next) (if room then commanded w (shared_of (machine next).opens w) place its else answers (crowded_out w place))

  session-is : (next : ℕ → Outcome) (opened : Option Decoded) (tried : List (Attempt Decoded)) (w : StoreWorld (StoreState D)) (name : List ℕ) (its : Written) → session_means name its next (on_machine opened tried w) ≡ planned_at next its (own_place w name) (on_machine opened tried (placed w name)) (nat_lt (own_place w name) 64)
  session-is next opened tried w name its =
      ap (λ those. planned_at next its (own_place w name) those (nat_lt (own_place w name) 64)) (placed-is opened tried w name)

  placed-see : (w : StoreWorld (StoreState D)) (name : List ℕ) → AllSee (definitions_in w.store) w.sessions → AllSee (definitions_in (placed w name).store) (placed w name).sessions
  placed-see w name all = by_test (nat_lt (own_place w name) (length w.names))
    where
      by_room : (room : Bool) → AllSee (definitions_in w.store) (if room then w.sessions ++ resting (new_session (length w.names)) ∷ [] else w.sessions)
      by_room true = see-push (definitions_in w.store) w.sessions (resting (new_session (length w.names))) all tt
      by_room false = all

      by_test : (test : Bool) → AllSee (definitions_in w.store) (if test then w.sessions else (if nat_lt (length w.names) 64 then w.sessions ++ resting (new_session (length w.names)) ∷ [] else w.sessions))
      by_test true = all
      by_test false = by_room (nat_lt (length w.names) 64)

  placed-sound : (w : StoreWorld (StoreState D)) (name : List ℕ) → IsOpen w.store → IsSound w → IsSound (placed w name)
  placed-sound w name open_is sound = record {
    paired = by_test (nat_lt (own_place w name) (length w.names));
    seen = placed-see w name sound.seen;
    writable = λ none. absurd (none-some open_is.0 (sym none ∙ open_is.1));
    unnamed = λ none. absurd (none-some open_is.0 (sym none ∙ open_is.1));
    no_sessions = λ none. absurd (none-some open_is.0 (sym none ∙ open_is.1));
  }
    where
      by_room : (room : Bool) → nat_lt (length w.names) 64 ≡ room → length (if room then w.sessions ++ resting (new_session (length w.names)) ∷ [] else w.sessions) ≡ min (length (w.names ++ name ∷ [])) 64
      by_room true room =
          omega (arith, sound.paired, ltb-true (length w.names) 64 room, length-append w.sessions (resting (new_session (length w.names)) ∷ []), length-append w.names (name ∷ []))
      by_room false full = omega (arith, sound.paired, ltb-false (length w.names) 64 full, length-append w.names (name ∷ []))

      by_test : (test : Bool) → length (if test then w.sessions else (if nat_lt (length w.names) 64 then w.sessions ++ resting (new_session (length w.names)) ∷ [] else w.sessions)) ≡ min (length (if test then w.names else w.names ++ name ∷ [])) 64
      by_test true = sound.paired
      by_test false = by_room (nat_lt (length w.names) 64) refl

  pub placed_seen : (name : List ℕ) (w middle : StoreWorld (StoreState D)) → middle ≡ placed w name → AllSee (definitions_in w.store) w.sessions → AllSee (definitions_in middle.store) middle.sessions
  placed_seen name w middle is all = subst (λ (those : StoreWorld (StoreState D)). AllSee (definitions_in those.store) those.sessions) (sym is) (placed-see w name all)

  -- a session that is one of 64 stands at its place
  pub placed-inside : (w : StoreWorld (StoreState D)) (name : List ℕ) → length w.sessions ≡ min (length w.names) 64 → own_place w name < 64 → own_place w name < length (placed w name).sessions
  placed-inside w name paired room = by_test (nat_lt (own_place w name) (length w.names)) refl
    where
      by_room : (test : Bool) → nat_lt (length w.names) 64 ≡ test → nat_lt (own_place w name) (length w.names) ≡ false → own_place w name < length (if test then w.sessions ++ resting (new_session (length w.names)) ∷ [] else w.sessions)
      by_room true small is =
          omega (arith, paired, ltb-true (length w.names) 64 small, length-append w.sessions (resting (new_session (length w.names)) ∷ []), position-le (same_word name) w.names)
      by_room false full is = omega (arith, paired, ltb-false (length w.names) 64 full, room)

      by_test : (test : Bool) → nat_lt (own_place w name) (length w.names) ≡ test → own_place w name < length (if test then w.sessions else (if nat_lt (length w.names) 64 then w.sessions ++ resting (new_session (length w.names)) ∷ [] else w.sessions))
      by_test true is = omega (arith, paired, ltb-true (own_place w name) (length w.names) is, room)
      by_test false is = by_room (nat_lt (length w.names) 64) refl is

  -- what a session past the 64th is answered, under its name
  abbrev full_response : StoreWorld (StoreState D) → List ℕ → Response
  full_response w name = refusing_response (name_at (placed w name).names (own_place w name)) too_many_sessions

  pub session_full : (name : List ℕ) (its : Written) (prefix : List ℕ) (response : Response) (place : ℕ) (w middle : StoreWorld (StoreState D)) → place ≡ own_place w name → 64 ≤ place → IsOpen w.store → middle ≡ placed w name → prefix ≡ name_at middle.names place → response ≡ refusing_response prefix too_many_sessions → Answers faults clock crash (session_means name its) (Some response) w middle
  session_full name its prefix response place w middle place_is full open_is middle_is prefix_is response_is =
      let said : response ≡ full_response w name =
      response_is ∙ ap (λ (p : List ℕ). refusing_response p too_many_sessions) (prefix_is ∙ ap₂ (λ (those : StoreWorld (StoreState D)) (at : ℕ). name_at those.names at) middle_is place_is) in
      subst (λ (those : StoreWorld (StoreState D)). Answers faults clock crash (session_means name its) (Some response) w those) (sym middle_is)
      (subst (λ it. Answers faults clock crash (session_means name its) (Some it) w (placed w name)) (sym said) (record {
        told = [];
        more = [];
        as_many = refl;
        moves = moves-nothing faults clock crash w.store;
        means_so = λ next opened tried made tells.
            session-is next opened tried w name its
            ∙ ap (planned_at next its (own_place w name) (on_machine opened tried (placed w name))) (le-ltb (own_place w name) 64 (subst (λ at. 64 ≤ at) place_is full))
            ∙ ap (λ those. answered_by (Some (full_response w name)) (on_machine opened those (placed w name))) (sym (append-nil tried));
        all_made = λ opened tried made none. absurd (none-some open_is.0 (sym none ∙ open_is.1));
        keeps_sound = placed-sound w name open_is;
      }))

  pub session_some : (name : List ℕ) (its : Written) (response : Response) (place : ℕ) (w middle new : StoreWorld (StoreState D)) → place ≡ own_place w name → place < 64 → IsOpen w.store → middle ≡ placed w name → Answers faults clock crash (turn_means place its) (Some response) middle new → Answers faults clock crash (session_means name its) (Some response) w new
  session_some name its response place w middle new place_is room open_is middle_is given =
      from_placed (subst (λ at. at < 64) place_is room) (subst (λ at. Answers faults clock crash (turn_means at its) (Some response) (placed w name) new) place_is (subst (λ those. Answers faults clock crash (turn_means place its) (Some response) those new) middle_is given))
    where
      from_placed : own_place w name < 64 → Answers faults clock crash (turn_means (own_place w name) its) (Some response) (placed w name) new → Answers faults clock crash (session_means name its) (Some response) w new
      from_placed small it = record {
        told = it.told;
        more = it.more;
        as_many = it.as_many;
        moves = it.moves;
        means_so = λ next opened tried made tells.
            session-is next opened tried w name its
            ∙ ap (planned_at next its (own_place w name) (on_machine opened tried (placed w name))) (lt-ltb (own_place w name) 64 small)
            ∙ it.means_so next opened tried made tells;
        all_made = it.all_made;
        keeps_sound = λ sound. it.keeps_sound (placed-sound w name open_is sound);
      }

  pub session_wants : (name : List ℕ) (its : Written) (place : ℕ) (w middle new : StoreWorld (StoreState D)) → place ≡ own_place w name → place < 64 → middle ≡ placed w name → Wants faults clock crash (turn_means place its) middle new → Wants faults clock crash (session_means name its) w new
  session_wants name its place w middle new place_is room middle_is wants =
      from_placed (subst (λ at. at < 64) place_is room) (subst (λ at. Wants faults clock crash (turn_means at its) (placed w name) new) place_is (subst (λ those. Wants faults clock crash (turn_means place its) those new) middle_is wants))
    where
      from_placed : own_place w name < 64 → Wants faults clock crash (turn_means (own_place w name) its) (placed w name) new → Wants faults clock crash (session_means name its) w new
      from_placed small it =
          ⊎_elim (λ same. let none : Wants faults clock crash (session_means name its) w new = inl same in none) (λ takes. inr (record {
            told = takes.told;
            more = takes.more;
            moves = takes.moves;
            made_so = λ next opened tried made tells.
                ap (λ (a : Answered language ObjectsDisk). attempts_of a.world.shared) (session-is next opened tried w name its ∙ ap (planned_at next its (own_place w name) (on_machine opened tried (placed w name))) (lt-ltb (own_place w name) 64 small))
                ∙ takes.made_so next opened tried made tells;
          })) it

  -- ---- an event that closes the definitions

  closed-already : (next : ℕ → Outcome) (opened : Option Decoded) (tried : List (Attempt Decoded)) (w : StoreWorld (StoreState D)) → IsOpen w.store → closed (machine next).opens (on_machine opened tried w) ≡ on_machine opened tried w
  closed-already next opened tried w open_is =
      subst (λ found. closed (machine next).opens (over_found found) ≡ over_found found) (sym open_is.1) refl
    where
      over_found : Option (List Def) → ObjectsWorld
      over_found found = record { definitions = unwrap_or found w.drafted; open_lines = w.open_lines; shared = option_map (store_disk opened tried) (option_map (λ (those : List Def). w.store) found); names = w.names; sessions = known_by w.sessions }

  -- the record of these definitions
  abbrev written_definitions : List Def → Decoded
  written_definitions definitions = Definitions definitions

  closed-now : (next : ℕ → Outcome) (opened : Option Decoded) (tried : List (Attempt Decoded)) (old middle : StoreWorld (StoreState D)) → Opens faults clock crash old middle → IsMade opened tried old.store → closed (machine next).opens (on_machine opened tried old) ≡ on_machine (Some (written_definitions old.drafted)) tried middle
  closed-now next opened tried old middle opens made =
      ap (λ found. closed (machine next).opens (over_found old.store old.drafted opened tried found)) opens.unopened
      ∙ ap₂ (λ (table : Table) (those : List (Attempt Decoded)). let w : ObjectsWorld = record { definitions = old.drafted; open_lines = old.open_lines; shared = Some (record { state = table; opened = Some (written_definitions old.drafted); tried = those }); names = old.names; sessions = known_by old.sessions } in w) (sym opens.table) (sym (made opens.unopened).1)
      ∙ ap (over_found middle.store [] (Some (written_definitions old.drafted)) tried) (sym opens.defined)
      ∙ ap (on_machine (Some (written_definitions old.drafted)) tried) (sym opens.rest)
    where
      over_found : StoreState D → List Def → Option Decoded → List (Attempt Decoded) → Option (List Def) → ObjectsWorld
      over_found store drafted opened those found = record { definitions = unwrap_or found drafted; open_lines = old.open_lines; shared = option_map (store_disk opened those) (option_map (λ (those : List Def). store) found); names = old.names; sessions = known_by old.sessions }

  opens-sound : (old middle : StoreWorld (StoreState D)) → Opens faults clock crash old middle → IsSound old → IsSound middle
  opens-sound old middle opens sound = record {
    paired = subst (λ (w : StoreWorld (StoreState D)). length w.sessions ≡ min (length w.names) 64) (sym opens.rest) sound.paired;
    seen = subst (λ (sessions : List Session). AllSee (definitions_in middle.store) sessions) (sym (ap (λ (w : StoreWorld (StoreState D)). w.sessions) opens.rest ∙ sound.no_sessions opens.unopened)) tt;
    writable = λ none. absurd (none-some old.drafted (sym none ∙ opens.defined));
    unnamed = λ none. absurd (none-some old.drafted (sym none ∙ opens.defined));
    no_sessions = λ none. absurd (none-some old.drafted (sym none ∙ opens.defined));
  }

  -- all attempts, where there was none before the definitions were written
  behind-opened : (r : Decoded) (opened : Option Decoded) (tried more : List (Attempt Decoded)) → opened ≡ None → tried ≡ [] → all_attempts (Some r) (tried ++ more) ≡ all_attempts opened tried ++ all_attempts (Some r) more
  behind-opened r opened tried more none empty =
      ap (λ those. all_attempts (Some r) (those ++ more)) empty ∙ sym (ap₂ (λ (those : Option Decoded) (made : List (Attempt Decoded)). all_attempts those made ++ all_attempts (Some r) more) none empty)

  -- the definitions are written, and then nothing is answered
  pub opens_answer : (means : Means) (old middle : StoreWorld (StoreState D)) → Opens faults clock crash old middle → ((next : ℕ → Outcome) (opened : Option Decoded) (tried : List (Attempt Decoded)) → means next (on_machine opened tried old) ≡ silent (closed (machine next).opens (on_machine opened tried old))) → Responds faults clock crash means None old middle
  opens_answer means old middle opens is = record {
    opening = Some (written_definitions old.drafted);
    told = [];
    more = [];
    as_many = refl;
    moves = opens.moves;
    means_so = λ next opened tried made tells.
        is next opened tried ∙ ap silent (closed-now next opened tried old middle opens made) ∙ ap (λ those. silent (on_machine (Some (written_definitions old.drafted)) those middle)) (sym (append-nil tried));
    all_made = λ opened tried made none. absurd (none-some old.drafted (sym none ∙ opens.defined));
    behind = λ opened tried made. behind-opened (written_definitions old.drafted) opened tried [] (made opens.unopened).0 (made opens.unopened).1;
    keeps_sound = opens-sound old middle opens;
  }

  named-already : (name : List ℕ) (its : Written) (response : Response) (w new : StoreWorld (StoreState D)) → IsOpen w.store → Answers faults clock crash (session_means name its) (Some response) w new → Responds faults clock crash (named_means name its) (Some response) w new
  named-already name its response w new open_is it = responds (named_means name its) (Some response) w new (record {
    told = it.told;
    more = it.more;
    as_many = it.as_many;
    moves = it.moves;
    means_so = λ next opened tried made tells. ap (session_means name its next) (closed-already next opened tried w open_is) ∙ it.means_so next opened tried made tells;
    all_made = it.all_made;
    keeps_sound = it.keeps_sound;
  })

  named-now : (name : List ℕ) (its : Written) (response : Response) (old middle new : StoreWorld (StoreState D)) → Opens faults clock crash old middle → Answers faults clock crash (session_means name its) (Some response) middle new → Responds faults clock crash (named_means name its) (Some response) old new
  named-now name its response old middle new opens it =
      let first : Decoded = written_definitions old.drafted in
      let was_made : (tried : List (Attempt Decoded)) → IsMade (Some first) tried middle.store = λ tried none. absurd (none-some old.drafted (sym none ∙ opens.defined)) in
      record {
        opening = Some first;
        told = it.told;
        more = it.more;
        as_many = it.as_many;
        moves = moves-then faults clock crash [] it.told (defining old.drafted done ∷ []) it.more old.store middle.store new.store opens.moves it.moves;
        means_so = λ next opened tried made tells. ap (session_means name its next) (closed-now next opened tried old middle opens made) ∙ it.means_so next (Some first) tried (was_made tried) tells;
        all_made = λ opened tried made none. it.all_made (Some first) tried (was_made tried) none;
        behind = λ opened tried made. behind-opened first opened tried it.more (made opens.unopened).0 (made opens.unopened).1;
        keeps_sound = λ sound. it.keeps_sound (opens-sound old middle opens sound);
      }

  -- the definitions are closed, and then the line is answered
  pub named_answers : (name : List ℕ) (its : Written) (response : Response) (old middle new : StoreWorld (StoreState D)) → ((middle ≡ old) × IsOpen old.store) ⊎ Opens faults clock crash old middle → Answers faults clock crash (session_means name its) (Some response) middle new → Responds faults clock crash (named_means name its) (Some response) old new
  named_answers name its response old middle new closes it =
      ⊎_elim (λ already. named-already name its response old new already.1 (subst (λ w. Answers faults clock crash (session_means name its) (Some response) w new) already.0 it)) (λ opens. named-now name its response old middle new opens it) closes

  named-taken : (name : List ℕ) (its : Written) (old middle new : StoreWorld (StoreState D)) → IsSound old → Opens faults clock crash old middle → Wants faults clock crash (session_means name its) middle new → Takes faults clock crash (named_means name its) old new
  named-taken name its old middle new sound opens wants = ⊎_elim still (λ takes. record {
    told = takes.told;
    more = first ++ takes.more;
    moves = moves-then faults clock crash [] takes.told first takes.more old.store middle.store new.store opens.moves takes.moves;
    made_so = λ next opened tried made tells.
        attempts_as next (closed-now next opened tried old middle opens made)
        ∙ takes.made_so next (Some (written_definitions old.drafted)) tried (λ none. absurd (none-some old.drafted (sym none ∙ opens.defined))) tells
        ∙ ap (λ those. those ++ takes.more) (opened_first opened tried made) ∙ append_assoc (all_attempts opened tried) first takes.more;
  }) wants
    where
      first : List (Attempt Decoded)
      first = defining old.drafted done ∷ []

      opened_first : (opened : Option Decoded) (tried : List (Attempt Decoded)) → IsMade opened tried old.store → all_attempts (Some (written_definitions old.drafted)) tried ≡ all_attempts opened tried ++ first
      opened_first opened tried made =
          ap (all_attempts (Some (written_definitions old.drafted))) (made opens.unopened).1
          ∙ sym (ap₂ (λ (those : Option Decoded) (tried : List (Attempt Decoded)). all_attempts those tried ++ first) (made opens.unopened).0 (made opens.unopened).1)

      attempts_as : {one other : ObjectsWorld} (next : ℕ → Outcome) → one ≡ other → attempts_of (session_means name its next one).world.shared ≡ attempts_of (session_means name its next other).world.shared
      attempts_as next same = ap (λ those. attempts_of (session_means name its next those).world.shared) same

      opened_world : (tried : List (Attempt Decoded)) → on_machine (Some (written_definitions old.drafted)) tried middle ≡ just_opened old.drafted old.open_lines (store_disk (Some (written_definitions old.drafted)) tried middle.store)
      opened_world tried =
          let disk : StoreState D → ObjectsDisk = store_disk (Some (written_definitions old.drafted)) tried in
          ap (on_machine (Some (written_definitions old.drafted)) tried) opens.rest
          ∙ ap (λ found. let w : ObjectsWorld = record { definitions = unwrap_or found []; open_lines = old.open_lines; shared = option_map disk (option_map (λ (those : List Def). middle.store) found); names = old.names; sessions = known_by old.sessions } in w) opens.defined
          ∙ ap₂ (λ (names : List (List ℕ)) (sessions : List Session). let w : ObjectsWorld = record { definitions = old.drafted; open_lines = old.open_lines; shared = Some (disk middle.store); names = names; sessions = known_by sessions } in w) (sound.unnamed opens.unopened) (sound.no_sessions opens.unopened)

      still : new.store ≡ middle.store → Takes faults clock crash (named_means name its) old new
      still same = record {
        told = [];
        more = first;
        moves = subst (λ store. Moves faults clock crash [] first old.store store) (sym same) opens.moves;
        made_so = λ next opened tried made tells.
            attempts_as next (closed-now next opened tried old middle opens made ∙ opened_world tried)
            ∙ first-line next old.drafted old.open_lines (store_disk (Some (written_definitions old.drafted)) tried middle.store) name its
            ∙ opened_first opened tried made;
      }

  pub named_wants : (name : List ℕ) (its : Written) (old middle new : StoreWorld (StoreState D)) → IsSound old → ((middle ≡ old) × IsOpen old.store) ⊎ Opens faults clock crash old middle → Wants faults clock crash (session_means name its) middle new → Wants faults clock crash (named_means name its) old new
  named_wants name its old middle new sound closes wants = ⊎_elim already (λ opens. inr (named-taken name its old middle new sound opens wants)) closes
    where
      already : (middle ≡ old) × IsOpen old.store → Wants faults clock crash (named_means name its) old new
      already it =
          let here : Wants faults clock crash (session_means name its) old new = subst (λ w. Wants faults clock crash (session_means name its) w new) it.0 wants in
          ⊎_elim (λ same. let none : Wants faults clock crash (named_means name its) old new = inl same in none) (λ takes. inr (record {
            told = takes.told;
            more = takes.more;
            moves = takes.moves;
            made_so = λ next opened tried made tells. ap (λ those. attempts_of (session_means name its next those).world.shared) (closed-already next opened tried old it.1) ∙ takes.made_so next opened tried made tells;
          })) here

  pub closes_open : (old middle : StoreWorld (StoreState D)) → ((middle ≡ old) × IsOpen old.store) ⊎ Opens faults clock crash old middle → IsOpen middle.store
  closes_open old middle closes =
      ⊎_elim (λ already. subst (λ (w : StoreWorld (StoreState D)). IsOpen w.store) (sym already.0) already.1) (λ opens. let it : IsOpen middle.store = (old.drafted, opens.defined) in it) closes

  pub closes_seen : (old middle : StoreWorld (StoreState D)) → ((middle ≡ old) × IsOpen old.store) ⊎ Opens faults clock crash old middle → IsSound old → AllSee (definitions_in middle.store) middle.sessions
  closes_seen old middle closes sound =
      ⊎_elim (λ already. subst (λ (w : StoreWorld (StoreState D)). AllSee (definitions_in w.store) w.sessions) (sym already.0) sound.seen) (λ opens. (opens-sound old middle opens sound).seen) closes

  pub closes_paired : (old middle : StoreWorld (StoreState D)) → ((middle ≡ old) × IsOpen old.store) ⊎ Opens faults clock crash old middle → length old.sessions ≡ min (length old.names) 64 → length middle.sessions ≡ min (length middle.names) 64
  closes_paired old middle closes paired =
      let P : StoreWorld (StoreState D) → Type 0 = λ w. length w.sessions ≡ min (length w.names) 64 in
      ⊎_elim (λ already. subst P (sym already.0) paired) (λ opens. subst P (sym opens.rest) paired) closes

  pub stops_closing : (means : Means) (stop : Stop) (old new : StoreWorld (StoreState D)) → ClosesSo faults clock crash (Err stop) old new → StopsSo faults clock crash means stop old new
  stops_closing means DiskFault old new fails = fails
  stops_closing means NoMemory old new same = inl same
  stops_closing means SinkFault old new none = none

  -- ---- the end of the script

  -- no definition is open
  pub block_responds : (w : StoreWorld (StoreState D)) → w.open_lines ≡ [] → Responds faults clock crash (event_means block_ends) None w w
  block_responds w whole = responds (event_means block_ends) None w w (answers_still (event_means block_ends) None w (λ next opened tried.
      ap (λ (lines : List (List ℕ)). block_ended (on_machine opened tried w) lines) whole))

  pub ended_still : (w : StoreWorld (StoreState D)) → IsOpen w.store ⊎ ((definitions_of w.store.records ≡ None) × (w.drafted ≡ [])) → Responds faults clock crash (event_means script_ends) None w w
  ended_still w why = responds (event_means script_ends) None w w (answers_still (event_means script_ends) None w (λ next opened tried. ap silent (same next opened tried)))
    where
      ended : (ℕ → Outcome) → Option Decoded → List (Attempt Decoded) → List Def → ObjectsWorld
      ended next opened tried d = if is_any d then closed (machine next).opens (on_machine opened tried w) else on_machine opened tried w

      either : (next : ℕ → Outcome) (opened : Option Decoded) (tried : List (Attempt Decoded)) (any : Bool) → closed (machine next).opens (on_machine opened tried w) ≡ on_machine opened tried w → (if any then closed (machine next).opens (on_machine opened tried w) else on_machine opened tried w) ≡ on_machine opened tried w
      either next opened tried true is = is
      either next opened tried false is = refl

      there : List Def
      there = unwrap_or (definitions_of w.store.records) w.drafted

      same : (next : ℕ → Outcome) (opened : Option Decoded) (tried : List (Attempt Decoded)) → ended next opened tried there ≡ on_machine opened tried w
      same next opened tried =
          ⊎_elim (λ open_is. either next opened tried (is_any there) (closed-already next opened tried w open_is)) (λ none. ap (ended next opened tried) (ap₂ (λ (found : Option (List Def)) (drafted : List Def). unwrap_or found drafted) none.0 none.1)) why

  pub ended_opens : (old new : StoreWorld (StoreState D)) → Opens faults clock crash old new → old.drafted ≢ [] → Responds faults clock crash (event_means script_ends) None old new
  ended_opens old new opens some =
      opens_answer (event_means script_ends) old new opens (λ next opened tried. ap (λ (any : Bool). let w : ObjectsWorld = on_machine opened tried old in silent (if any then closed (machine next).opens w else w)) (ap (λ (found : Option (List Def)). is_any (unwrap_or found old.drafted)) opens.unopened ∙ any_defined old.drafted some))

  -- ---- what holds of the form of a line

  -- a line of this meaning, where it has another name
  pub means_as : (means other : Means) (result : Result (Option Response) Stop) (old new : StoreWorld (StoreState D)) → ((next : ℕ → Outcome) (opened : Option Decoded) (tried : List (Attempt Decoded)) → means next (on_machine opened tried old) ≡ other next (on_machine opened tried old)) → RespondsSo faults clock crash other result old new → RespondsSo faults clock crash means result old new
  means_as means other (Ok response) old new same it = record {
    opening = it.opening;
    told = it.told;
    more = it.more;
    as_many = it.as_many;
    moves = it.moves;
    means_so = λ next opened tried made tells. same next opened tried ∙ it.means_so next opened tried made tells;
    all_made = it.all_made;
    behind = it.behind;
    keeps_sound = it.keeps_sound;
  }
  means_as means other (Err DiskFault) old new same it = it
  means_as means other (Err SinkFault) old new same it = it
  means_as means other (Err NoMemory) old new same it = ⊎_elim (λ still. let none : Wants faults clock crash means old new = inl still in none) (λ takes. inr (record {
    told = takes.told;
    more = takes.more;
    moves = takes.moves;
    made_so = λ next opened tried made tells. ap (λ (a : Answered language ObjectsDisk). attempts_of a.world.shared) (same next opened tried) ∙ takes.made_so next opened tried made tells;
  })) it

  -- a line where no definition is open, and one behind open lines
  pub line_whole : (text : List ℕ) (result : Result (Option Response) Stop) (old new : StoreWorld (StoreState D)) → old.open_lines ≡ [] → RespondsSo faults clock crash (form_means text (form_of text (line_form text))) result old new → RespondsSo faults clock crash (line_means text) result old new
  line_whole text result old new whole it =
      means_as (line_means text) (form_means text (form_of text (line_form text))) result old new (λ next opened tried.
      ap (λ (lines : List (List ℕ)). form_means text (form lines text) next (on_machine opened tried old)) whole) it

  pub line_behind : (text first : List ℕ) (lines : List (List ℕ)) (result : Result (Option Response) Stop) (old new : StoreWorld (StoreState D)) → old.open_lines ≡ first ∷ lines → RespondsSo faults clock crash (form_means text (block_form text)) result old new → RespondsSo faults clock crash (line_means text) result old new
  line_behind text first lines result old new is it =
      means_as (line_means text) (form_means text (block_form text)) result old new (λ next opened tried.
      ap (λ (open_lines : List (List ℕ)). form_means text (form open_lines text) next (on_machine opened tried old)) is) it

  pub form_as : (text : List ℕ) (one other : Form Written) (result : Result (Option Response) Stop) (old new : StoreWorld (StoreState D)) → one ≡ other → RespondsSo faults clock crash (form_means text other) result old new → RespondsSo faults clock crash (form_means text one) result old new
  form_as text one other result old new same it = subst (λ those. RespondsSo faults clock crash (form_means text those) result old new) (sym same) it

  pub blank_answers : (text : List ℕ) (w : StoreWorld (StoreState D)) → Responds faults clock crash (form_means text nothing) None w w
  blank_answers text w = responds (form_means text nothing) None w w (answers_still (form_means text nothing) None w (λ next opened tried. refl))

  -- a line that is refused by itself, where no definition is open
  pub bad_answers : (text : List ℕ) (refusal : Refusal) (response : Response) (w : StoreWorld (StoreState D)) → w.open_lines ≡ [] → response ≡ refusing_response no_session refusal → Responds faults clock crash (form_means text (malformed refusal)) (Some response) w w
  bad_answers text refusal response w whole is =
      subst (λ it. Responds faults clock crash (form_means text (malformed refusal)) (Some it) w w) (sym is) (responds (form_means text (malformed refusal)) (Some (refusing_response no_session refusal)) w w (answers_still (form_means text (malformed refusal)) (Some (refusing_response no_session refusal)) w (λ next opened tried.
      ap (λ (lines : List (List ℕ)). let it : ObjectsWorld = record (on_machine opened tried w) { open_lines = lines } in answered_by (Some (refusing_response no_session refusal)) it) (sym whole))))

  -- ---- a definition

  -- a world with these open lines
  abbrev pub with_open : List (List ℕ) → StoreWorld (StoreState D) → StoreWorld (StoreState D)
  with_open lines w = record w { open_lines = lines }

  sound-open : (lines : List (List ℕ)) (w : StoreWorld (StoreState D)) → IsSound w → IsSound (with_open lines w)
  sound-open lines w sound = record { paired = sound.paired; seen = sound.seen; writable = sound.writable; unnamed = sound.unnamed; no_sessions = sound.no_sessions }

  pub kept_sound : (text : List ℕ) (old middle : StoreWorld (StoreState D)) → middle ≡ with_open (old.open_lines ++ text ∷ []) old → IsSound old → IsSound middle
  kept_sound text old middle is sound = subst IsSound (sym is) (sound-open (old.open_lines ++ text ∷ []) old sound)

  -- a line that waits for the last one of its block
  pub joins_answers : (text : List ℕ) (w : StoreWorld (StoreState D)) → Responds faults clock crash (form_means text joins) None w (with_open (w.open_lines ++ text ∷ []) w)
  joins_answers text w = responds (form_means text joins) None w (with_open (w.open_lines ++ text ∷ []) w) (record {
    told = [];
    more = [];
    as_many = refl;
    moves = moves-nothing faults clock crash w.store;
    means_so = λ next opened tried made tells. ap (λ those. silent (on_machine opened those (with_open (w.open_lines ++ text ∷ []) w))) (sym (append-nil tried));
    all_made = λ opened tried made none. ((made none).0, append-nil tried ∙ (made none).1);
    keeps_sound = sound-open (w.open_lines ++ text ∷ []) w;
  })

  abbrev pub response_of : Option Refusal → Option Response
  response_of refusal = option_map (refusing_response no_session) refusal

  -- what lines of a definition leave
  abbrev after_lines : StoreWorld (StoreState D) → List (List ℕ) → StoreWorld (StoreState D)
  after_lines w lines = record w { drafted = (joined_by w lines).drafted; open_lines = [] }

  -- what lines are answered, whether the store has definitions or not
  defined-is : (opened : Option Decoded) (tried : List (Attempt Decoded)) (w : StoreWorld (StoreState D)) (lines : List (List ℕ)) → defined (on_machine opened tried w) lines ≡ answered_by (response_of (joined_by w lines).refusal) (on_machine opened tried (after_lines w lines))
  defined-is opened tried w lines = by_definitions (definitions_of w.store.records)
    where
      over_found : Option (List Def) → List (List ℕ) → List Def → ObjectsWorld
      over_found there open_lines drafts = record { definitions = unwrap_or there drafts; open_lines = open_lines; shared = option_map (store_disk opened tried) (option_map (λ (those : List Def). w.store) there); names = w.names; sessions = known_by w.sessions }

      joined : Option (List Def) → Drafted
      joined there = if is_none there then drafted_by w.drafted (define w.drafted lines) else record { refusal = Some (late lines); drafted = w.drafted }

      by_result : (result : Result (List Def) Refusal) → defined_so (over_found None w.open_lines w.drafted) result ≡ answered_by (response_of (drafted_by w.drafted result).refusal) (over_found None [] (drafted_by w.drafted result).drafted)
      by_result (Ok drafts) = refl
      by_result (Err refusal) = refl

      by_definitions : (there : Option (List Def)) → defined (over_found there w.open_lines w.drafted) lines ≡ answered_by (response_of (joined there).refusal) (over_found there [] (joined there).drafted)
      by_definitions None = by_result (define w.drafted lines)
      by_definitions (Some definitions) = refl

  -- what is drafted can be written
  drafted-definable : (drafts : List Def) (lines : List (List ℕ)) → AreDefinable drafts → AreDefinable (drafted_by drafts (define drafts lines)).drafted
  drafted-definable drafts lines it = by (define drafts lines) refl
    where
      by : (result : Result (List Def) Refusal) → define drafts lines ≡ result → AreDefinable (drafted_by drafts result).drafted
      by (Ok more) is = defined-definable drafts lines more is it
      by (Err refusal) is = it

  lines-sound : (w : StoreWorld (StoreState D)) (lines : List (List ℕ)) → IsSound w → IsSound (after_lines w lines)
  lines-sound w lines sound = record {
    paired = sound.paired;
    seen = sound.seen;
    writable = λ none.
        subst (λ (there : Option (List Def)). let joined : Drafted = if is_none there then drafted_by w.drafted (define w.drafted lines) else record { refusal = Some (late lines); drafted = w.drafted } in AreDefinable joined.drafted) (sym none)
        (drafted-definable w.drafted lines (sound.writable none));
    unnamed = sound.unnamed;
    no_sessions = sound.no_sessions;
  }

  -- the open lines are answered as a definition, and none is open behind it
  pub open_answers : (lines left : List (List ℕ)) (refusal : Option Refusal) (response : Option Response) (old new : StoreWorld (StoreState D)) → lines ≡ old.open_lines → left ≡ [] → response ≡ response_of refusal → JoinsSo lines refusal (with_open left old) new → Responds faults clock crash definition_means response old new
  open_answers lines left refusal response old new lines_is left_is response_is joined_so =
      subst (λ it. Responds faults clock crash definition_means it old new) (sym response_is)
      (from (subst (λ those. JoinsSo those refusal (with_open [] old) new) lines_is (subst (λ those. JoinsSo lines refusal (with_open those old) new) left_is joined_so)))
    where
      why : Drafted
      why = joined_by old old.open_lines

      it : Answers faults clock crash definition_means (response_of why.refusal) old (after_lines old old.open_lines)
      it = record {
        told = [];
        more = [];
        as_many = refl;
        moves = moves-nothing faults clock crash old.store;
        means_so = λ next opened tried made tells. defined-is opened tried old old.open_lines ∙ ap (λ those. answered_by (response_of why.refusal) (on_machine opened those (after_lines old old.open_lines))) (sym (append-nil tried));
        all_made = λ opened tried made none. ((made none).0, append-nil tried ∙ (made none).1);
        keeps_sound = lines-sound old old.open_lines;
      }

      from : JoinsSo old.open_lines refusal (with_open [] old) new → Responds faults clock crash definition_means (response_of refusal) old new
      from so =
          subst (λ w. Responds faults clock crash definition_means (response_of refusal) old w) (sym so.1)
          (subst (λ (one : Option Refusal). Responds faults clock crash definition_means (response_of one) old (after_lines old old.open_lines)) (sym so.0) (responds definition_means (response_of why.refusal) old (after_lines old old.open_lines) it))

  -- with one line more
  pub ended_answers : (text : List ℕ) (response : Option Response) (old middle new : StoreWorld (StoreState D)) → middle ≡ with_open (old.open_lines ++ text ∷ []) old → Responds faults clock crash definition_means response middle new → Responds faults clock crash (ended_means text) response old new
  ended_answers text response old middle new middle_is it = from (subst (λ (w : StoreWorld (StoreState D)). Responds faults clock crash definition_means response w new) middle_is it)
    where
      lines : List (List ℕ)
      lines = old.open_lines ++ text ∷ []

      from : Responds faults clock crash definition_means response (with_open (old.open_lines ++ text ∷ []) old) new → Responds faults clock crash (ended_means text) response old new
      from it = record {
        opening = it.opening;
        told = it.told;
        more = it.more;
        as_many = it.as_many;
        moves = it.moves;
        means_so = λ next opened tried made tells. defined-is opened tried old lines ∙ sym (defined-is opened tried (with_open lines old) lines) ∙ it.means_so next opened tried made tells;
        all_made = it.all_made;
        behind = it.behind;
        keeps_sound = λ sound. it.keeps_sound (sound-open lines old sound);
      }

  pub joined_answers : (text : List ℕ) (old new : StoreWorld (StoreState D)) → new ≡ with_open (old.open_lines ++ text ∷ []) old → Responds faults clock crash (form_means text joins) None old new
  joined_answers text old new is = subst (λ w. Responds faults clock crash (form_means text joins) None old w) (sym is) (joins_answers text old)

  -- a line behind the open ones of a block, and the one that opens a block or defines by itself
  pub block_form_as : (text : List ℕ) (last : Bool) (response : Option Response) (old new : StoreWorld (StoreState D)) → is_end text ≡ last → Responds faults clock crash (form_means text (if last then ends else joins)) response old new → Responds faults clock crash (form_means text (block_form text)) response old new
  block_form_as text last response old new is it =
      subst (λ (test : Bool). Responds faults clock crash (form_means text (if test then ends else joins)) response old new) (sym is) it

  pub first_form_as : (text : List ℕ) (opens : Bool) (response : Option Response) (old new : StoreWorld (StoreState D)) → opens_block text ≡ opens → Responds faults clock crash (form_means text (if opens then joins else ends)) response old new → Responds faults clock crash (form_means text (form_of text Definition)) response old new
  first_form_as text opens response old new is it =
      subst (λ (test : Bool). Responds faults clock crash (form_means text (if test then joins else ends)) response old new) (sym is) it

  -- ---- the end of a script that may leave lines open

  pub block_some : (response : Option Response) (old new : StoreWorld (StoreState D)) → old.open_lines ≢ [] → Responds faults clock crash definition_means response old new → Responds faults clock crash (event_means block_ends) response old new
  block_some response old new some it = by old.open_lines refl
    where
      by : (lines : List (List ℕ)) → old.open_lines ≡ lines → Responds faults clock crash (event_means block_ends) response old new
      by [] is = absurd (some is)
      by (first ∷ lines) is =
          means_as (event_means block_ends) definition_means (Ok response) old new (λ next opened tried.
          ap (λ (open_lines : List (List ℕ)). block_ended (on_machine opened tried old) open_lines) is ∙ sym (ap (λ (open_lines : List (List ℕ)). defined (on_machine opened tried old) open_lines) is)) it

  -- ---- a line where a definition is open

  pub behind_answers : (text : List ℕ) (result : Result (Option Response) Stop) (old new : StoreWorld (StoreState D)) → old.open_lines ≢ [] → RespondsSo faults clock crash (form_means text (block_form text)) result old new → RespondsSo faults clock crash (line_means text) result old new
  behind_answers text result old new some it = by old.open_lines refl
    where
      by : (lines : List (List ℕ)) → old.open_lines ≡ lines → RespondsSo faults clock crash (line_means text) result old new
      by [] is = absurd (some is)
      by (first ∷ lines) is = line_behind text first lines result old new is it
