-- What the calls of a store do, as parts of the answer to a line.
use Rattle.std.specs.Prelude.{◌≡◌, ◌≢◌, ◌≤◌, ◌+◌, ◌++◌, ◌⊎◌, ℕ, suc, Bool, true, false, cond, List, [], ◌∷◌, length, map, Option, Some, unwrap_or, refl}
use Rattle.std.specs.Option.{option_to_list}
use Rattle.std.proofs.Common.{◌∙◌, ap, sym, subst, subst₂, inl, inr, ⊎_elim, arith, append_assoc, append-nil}
use Rattle.std.proofs.lemmas.Bool.{cases_lt}
use Rattle.std.proofs.lemmas.List.Sums.{sum_by-append}
use Rattle.std.proofs.lemmas.Option.{none-some}
use Rattle.aw_lists.specs.Faults.{Rose}
use Rattle.aw_schema.specs.declared.definition.Def.{Def}
use Rattle.aw_codec.specs.declared.record.Decoded.{Decoded}
use Rattle.aw_codec.specs.declared.record.Decoded.TheVariants.{Definitions, Commit}
use Rattle.mv_core.specs.declared.entry.Entry.{Entry}
use Rattle.mv_core.specs.declared.entry.Reply.{Reply}
use Rattle.mv_core.specs.declared.entry.Reply.TheVariants.{Attached, Acquired, Resynced, Committed, Released, Detached, Owned, Newer, Stranger, Worn, TooLarge, Fault, NoMemory}
use Rattle.mv_core.specs.SharedStep.{writes}
use Rattle.aw_journal.specs.Passed.{Passed}
use Rattle.aw_store.specs.StoredRecords.{HoldsRecords, LeftRecords, definitions_of}
use Rattle.aw_store.specs.Stores.{StoreState, record_of, Answers, Acts}
use Rattle.ses_step.specs.declared.answer.Answer.{Answer}
use Rattle.ses_step.specs.declared.session.Begun.{Begun}
use Rattle.ses_step.specs.declared.session.Begun.TheVariants.{Said, Ask}
use Rattle.ses_step.specs.declared.session.Known.{Known}
use Rattle.ses_step.specs.declared.session.Session.{Session}
use Rattle.ses_step.specs.SessionLines.{line_begun}
use Rattle.ses_step.specs.Sessions.{Sees, Allows, finished}
use Rattle.script_world.specs.Outcomes.{has_faulted, Outcome, Attempt, as_done, attempts_of}
use Rattle.script_world.specs.LearntOutcomes.{Tells}
use Rattle.script_meaning.specs.StoreAttempts.{done_where, outcomes_told, attempts_ended, act_attempts, ends_at, StoreHasAttempted}
use Rattle.script_meaning.specs.Language.{Written, ObjectsDisk}
use Rattle.script_meaning.specs.Transcript.{SameRecords}
use Rattle.script_meaning.specs.StoreRuns.{store_disk}
use Rattle.script_meaning.specs.Turns.{Turn, turn_from, replied}
use Rattle.ses_step.proofs.callers.ViewsOfDefinitions.{sees-line_begun, sees-finished}
use Rattle.script_meaning.proofs.callers.StoreAttempts.{act_steps, act_fares}
use Rattle.script_play.specs.inside.StoreWorlds.{definitions_in}
use Rattle.script_play.specs.inside.LineSteps.{machine, IsOpen, Later, Moves, Asked, Replied, ReplyWants, Turned, TurnTakes, TurnWants}
use Rattle.script_play.specs.Runs.{FewFaults}

-- ---- faults

pub rose-one : (before now : ℕ) → Rose before now → (1 + before ≤ now) ⊎ (18446744073709551615 ≤ now)
rose-one before now rose =
    ⊎_elim (λ below. let it : (1 + before ≤ now) ⊎ (18446744073709551615 ≤ now) = inl (omega (arith, below, rose)) in it) (λ above. inr (omega (arith, above, rose))) (cases_lt (before + 1) 18446744073709551615)

pub few-none : (before now : ℕ) → before ≤ now → FewFaults [] before now
few-none before now later = inl (omega (arith, later))

few-done : (writing : Bool) (before now : ℕ) → before ≤ now → FewFaults (done_where writing) before now
few-done true before now later = inl (omega (arith, later))
few-done false before now later = inl (omega (arith, later))

few-act : (asked : Entry) (reply : Reply) (before now : ℕ) → before ≤ now → (reply ≡ Fault → Rose before now) → FewFaults (outcomes_told asked reply) before now
few-act asked Fault before now later cause = rose-one before now (cause refl)
few-act asked (Attached fresh) before now later cause = few-done (writes asked (Attached fresh)) before now later
few-act asked (Acquired fresh) before now later cause = few-done (writes asked (Acquired fresh)) before now later
few-act asked (Resynced fresh) before now later cause = few-done (writes asked (Resynced fresh)) before now later
few-act asked Committed before now later cause = few-done (writes asked Committed) before now later
few-act asked Released before now later cause = few-done (writes asked Released) before now later
few-act asked Detached before now later cause = few-done (writes asked Detached) before now later
few-act asked (Owned object by) before now later cause = few-done (writes asked (Owned object by)) before now later
few-act asked (Newer object number) before now later cause = few-done (writes asked (Newer object number)) before now later
few-act asked (Stranger object) before now later cause = few-done (writes asked (Stranger object)) before now later
few-act asked (Worn object) before now later cause = few-done (writes asked (Worn object)) before now later
few-act asked (TooLarge bytes) before now later cause = few-done (writes asked (TooLarge bytes)) before now later
few-act asked NoMemory before now later cause = few-done (writes asked NoMemory) before now later

pub few-append : (first second : List Outcome) (before middle now : ℕ) → middle ≤ now → FewFaults first before middle → FewFaults second middle now → FewFaults (first ++ second) before now
few-append first second before middle now later one two =
    ⊎_elim (λ few. ⊎_elim (λ more. let it : FewFaults (first ++ second) before now = inl (omega (arith, few, more, sum_by-append (λ (outcome : Outcome). cond (has_faulted outcome) 1 0) first second)) in it) (λ last. inr last) two) (λ last. inr (omega (arith, last, later))) one

-- ---- definitions

defined-longer : (records : List Decoded) (r : Decoded) (definitions : List Def) → definitions_of records ≡ Some definitions → definitions_of (records ++ r ∷ []) ≡ Some definitions
defined-longer [] r definitions is = absurd (none-some definitions is)
defined-longer (Definitions those ∷ records) r definitions is = is
defined-longer (Commit changes ∷ records) r definitions is = is

module _ {D : Type 0} (old new : StoreState D) (definitions : List Def) (is : definitions_of old.records ≡ Some definitions) where
  answered-open : (asked : Entry) (reply : Reply) → Answers asked reply old new → definitions_of new.records ≡ Some definitions
  answered-open asked reply it = by_test (writes asked reply) refl
    where
      by_test : (writing : Bool) → writes asked reply ≡ writing → definitions_of new.records ≡ Some definitions
      by_test true writing = ap definitions_of (it.written writing).records ∙ defined-longer old.records (record_of asked) definitions is
      by_test false writing = ap (λ (store : StoreState D). definitions_of store.records) (it.unwritten writing) ∙ is

  act-open : (asked : Entry) (reply : Reply) → Acts asked reply old new → definitions_of new.records ≡ Some definitions
  act-open asked NoMemory acts = ap (λ (store : StoreState D). definitions_of store.records) acts.1 ∙ is
  act-open asked (TooLarge bytes) acts = ap (λ (store : StoreState D). definitions_of store.records) acts.same ∙ is
  act-open asked Fault acts = ap definitions_of acts.doubts.records ∙ is
  act-open asked (Attached fresh) acts = answered-open asked (Attached fresh) acts
  act-open asked (Acquired fresh) acts = answered-open asked (Acquired fresh) acts
  act-open asked (Resynced fresh) acts = answered-open asked (Resynced fresh) acts
  act-open asked Committed acts = answered-open asked Committed acts
  act-open asked Released acts = answered-open asked Released acts
  act-open asked Detached acts = answered-open asked Detached acts
  act-open asked (Owned object by) acts = answered-open asked (Owned object by) acts
  act-open asked (Newer object number) acts = answered-open asked (Newer object number) acts
  act-open asked (Stranger object) acts = answered-open asked (Stranger object) acts
  act-open asked (Worn object) acts = answered-open asked (Worn object) acts

length-ended : (attempted : Decoded) (outcomes : List Outcome) → length (attempts_ended attempted outcomes) ≡ length outcomes
length-ended attempted [] = refl
length-ended attempted (outcome ∷ outcomes) = ap suc (length-ended attempted outcomes)

-- a session that asks sees what it saw
pub begun-sees : (definitions : List Def) (its : Written) (asked : Entry) (before : Known) (between : Session) → (Ask asked, between) ≡ line_begun definitions before its.line its.from → Sees definitions before → Sees definitions between.known
begun-sees definitions its asked before between begins sees =
    subst (λ (those : Begun × Session). Sees definitions those.1.known) (sym begins) (sees-line_begun definitions before its.line its.from sees)

module _ {D : Type 0} (faults clock : D → ℕ) (crash : D → ℕ → List ℕ → Type 0) where
  -- ---- time

  pub later-same : (disk : D) → Later faults clock crash disk disk
  later-same disk = record { clock_later = omega arith; kept = λ moment image below. (λ left. left, λ left. left); faults_later = omega arith }

  pub later-then : (first second third : D) → Later faults clock crash first second → Later faults clock crash second third → Later faults clock crash first third
  later-then first second third one two = record {
    clock_later = omega (arith, one.clock_later, two.clock_later);
    kept = λ moment image below. (
      λ left. (one.kept moment image below).0 ((two.kept moment image (omega (arith, below, one.clock_later))).0 left),
      λ left. (two.kept moment image (omega (arith, below, one.clock_later))).1 ((one.kept moment image below).1 left),
    );
    faults_later = omega (arith, one.faults_later, two.faults_later);
  }

  pub later-passed : (old new : D) (during : List ℕ → Type 0) → Passed (clock old) (clock new) (crash old) (crash new) during → faults old ≤ faults new → Later faults clock crash old new
  later-passed old new during passed later = record { clock_later = passed.later; kept = passed.kept; faults_later = later }

  -- ---- moves

  pub moves-nothing : (store : StoreState D) → Moves faults clock crash [] [] store store
  moves-nothing store = record {
    more_ends = [];
    fares = λ opened made ends start fares.
        let P : List (Attempt Decoded) → List ℕ → Type 0 = λ made ends. StoreHasAttempted SameRecords clock crash opened made ends start store in
        subst₂ P (sym (append-nil made)) (sym (append-nil ends)) fares;
    few = few-none (faults store.disk) (faults store.disk) (omega arith);
    later = later-same store.disk;
    keeps_open = λ definitions is. is;
  }

  pub moves-then : (told more_told : List Outcome) (made_first made_next : List (Attempt Decoded)) (first second third : StoreState D) → Moves faults clock crash told made_first first second → Moves faults clock crash more_told made_next second third → Moves faults clock crash (told ++ more_told) (made_first ++ made_next) first third
  moves-then told more_told made_first made_next first second third one two = record {
    more_ends = one.more_ends ++ two.more_ends;
    fares = λ opened made ends start fares.
        let P : List (Attempt Decoded) → List ℕ → Type 0 = λ made ends. StoreHasAttempted SameRecords clock crash opened made ends start third in
        subst₂ P (append_assoc made made_first made_next) (append_assoc ends one.more_ends two.more_ends) (two.fares opened (made ++ made_first) (ends ++ one.more_ends) start (one.fares opened made ends start fares));
    few = few-append told more_told (faults first.disk) (faults second.disk) (faults third.disk) two.later.faults_later one.few two.few;
    later = later-then first.disk second.disk third.disk one.later two.later;
    keeps_open = λ definitions is. two.keeps_open definitions (one.keeps_open definitions is);
  }

  -- ---- an entry

  pub asked_so : (asked : Entry) (reply : Reply) (old new : StoreState D) → reply ≢ NoMemory → Acts asked reply old new → Passed (clock old.disk) (clock new.disk) (crash old.disk) (crash new.disk) (λ image. LeftRecords old.records old.doubt image ⊎ HoldsRecords image (old.records ++ record_of asked ∷ [])) → ((image : List ℕ) → crash new.disk (clock new.disk) image → LeftRecords new.records new.doubt image) → faults old.disk ≤ faults new.disk → (reply ≡ Fault → Rose (faults old.disk) (faults new.disk)) → Asked faults clock crash asked reply old new
  asked_so asked reply old new wants acts moments images later cause = record {
    told = outcomes_told asked reply;
    more = act_attempts asked reply;
    as_many = length-ended (record_of asked) (outcomes_told asked reply);
    moves = record {
      more_ends = ends_at (clock new.disk) (act_attempts asked reply);
      fares = λ opened made ends start fares. act_fares clock crash opened made ends start old new fares asked reply (record { moments = moments; images = images }) acts;
      few = few-act asked reply (faults old.disk) (faults new.disk) later cause;
      later = later-passed old.disk new.disk _ moments later;
      keeps_open = λ definitions is. act-open old new definitions is asked reply acts;
    };
    step = λ next opened tried tells. act_steps next opened tried asked old new reply wants acts tells;
  }

  -- ---- a line of a session

  -- one that the session answers alone
  pub said_turned : (definitions : List Def) (names : List (List ℕ)) (its : Written) (answer : Answer) (before : Known) (after : Session) (store : StoreState D) → (Said answer, after) ≡ line_begun definitions before its.line its.from → Turned faults clock crash definitions names its answer before after.known store store
  said_turned definitions names its answer before after store said = record {
    told = [];
    more = [];
    as_many = refl;
    moves = moves-nothing store;
    turns = λ next opened tried tells.
        ap (turn_from (machine next) definitions names (store_disk opened tried store)) (sym said)
        ∙ ap (λ those. let it : Turn ObjectsDisk = record { answer = answer; session = after.known; shared = store_disk opened those store } in it) (sym (append-nil tried));
    keeps_seen = λ sees. subst (λ (those : Begun × Session). Sees definitions those.1.known) (sym said) (sees-line_begun definitions before its.line its.from sees);
  }

  asked-turn : (definitions : List Def) (names : List (List ℕ)) (its : Written) (asked : Entry) (reply : Reply) (before : Known) (between : Session) (old new : StoreState D) → (Ask asked, between) ≡ line_begun definitions before its.line its.from → (asks : Asked faults clock crash asked reply old new) → (next : ℕ → Outcome) (opened : Option Decoded) (tried : List (Attempt Decoded)) → Tells next (length tried) asks.told →
      turn_from (machine next) definitions names (store_disk opened tried old) (line_begun definitions before its.line its.from) ≡ record { answer = (finished definitions names between reply).0; session = (finished definitions names between reply).1; shared = store_disk opened (tried ++ asks.more) new }
  asked-turn definitions names its asked reply before between old new begins asks next opened tried tells =
      ap (turn_from (machine next) definitions names (store_disk opened tried old)) (sym begins)
      ∙ ap (replied (machine next) definitions names between) (asks.step next opened tried tells)

  -- an entry that the session answers by its reply
  pub replied_so : (names : List (List ℕ)) (asked : Entry) (reply : Reply) (answer : Answer) (waiting : Session) (after : Known) (old new : StoreState D) → IsOpen old → Asked faults clock crash asked reply old new → Allows (definitions_in old) waiting reply → (answer, after) ≡ finished (definitions_in new) names waiting reply → Replied faults clock crash (definitions_in old) names asked answer waiting after old new
  replied_so names asked reply answer waiting after old new open_is asks allows finishes = record {
    reply = reply;
    asks = asks;
    finishes = is;
    keeps_seen = λ sees. subst (λ (those : Answer × Known). Sees (definitions_in old) those.1) (sym is) (sees-finished (definitions_in old) names waiting reply sees allows);
  }
    where
      kept : definitions_in new ≡ definitions_in old
      kept = ap (λ (found : Option (List Def)). unwrap_or found []) (asks.moves.keeps_open open_is.0 open_is.1 ∙ sym open_is.1)

      is : (answer, after) ≡ finished (definitions_in old) names waiting reply
      is = finishes ∙ ap (λ (definitions : List Def). finished definitions names waiting reply) kept

  -- one that asks the store
  pub replied_turned : (definitions : List Def) (names : List (List ℕ)) (its : Written) (asked : Entry) (answer : Answer) (before : Known) (between : Session) (after : Known) (old new : StoreState D) → (Ask asked, between) ≡ line_begun definitions before its.line its.from → Replied faults clock crash definitions names asked answer between after old new → Turned faults clock crash definitions names its answer before after old new
  replied_turned definitions names its asked answer before between after old new begins replied = record {
    told = replied.asks.told;
    more = replied.asks.more;
    as_many = replied.asks.as_many;
    moves = replied.asks.moves;
    turns = λ next opened tried tells.
        asked-turn definitions names its asked replied.reply before between old new begins replied.asks next opened tried tells
        ∙ ap (λ those. let it : Turn ObjectsDisk = record { answer = those.0; session = those.1; shared = store_disk opened (tried ++ replied.asks.more) new } in it) (sym replied.finishes);
    keeps_seen = λ sees. replied.keeps_seen (begun-sees definitions its asked before between begins sees);
  }

  pub asked_takes : (definitions : List Def) (names : List (List ℕ)) (its : Written) (asked : Entry) (reply : Reply) (before : Known) (between : Session) (old new : StoreState D) → (Ask asked, between) ≡ line_begun definitions before its.line its.from → Asked faults clock crash asked reply old new → TurnTakes faults clock crash definitions names its before old new
  asked_takes definitions names its asked reply before between old new begins asks = record {
    told = asks.told;
    more = asks.more;
    as_many = asks.as_many;
    moves = asks.moves;
    made_so = λ next opened tried tells.
        ap (λ (t : Turn ObjectsDisk). attempts_of (Some t.shared)) (asked-turn definitions names its asked reply before between old new begins asks next opened tried tells) ∙ sym (append_assoc (map as_done (option_to_list opened)) tried asks.more);
  }

  -- for want of memory there is no answer by the reply
  pub asked_wants : (definitions : List Def) (names : List (List ℕ)) (its : Written) (asked : Entry) (before : Known) (between : Session) (old new : StoreState D) → (Ask asked, between) ≡ line_begun definitions before its.line its.from → ReplyWants faults clock crash asked old new → TurnWants faults clock crash definitions names its before old new
  asked_wants definitions names its asked before between old new begins wants =
      ⊎_elim inl (λ replied. inr (asked_takes definitions names its asked replied.0 before between old new begins replied.1)) wants
