-- A turn on a disk: that of the machine without one, with an attempt that is done, or with one that faulted and no change.
use Rattle.std.specs.Prelude.{◌≡◌, ◌++◌, ℕ, Bool, true, false, List, [], ◌∷◌, length, None, Some, if◌then◌else◌, refl}
use Rattle.std.proofs.Common.{◌∙◌, ap, sym, subst}
use Rattle.aw_schema.specs.declared.definition.Def.{Def}
use Rattle.aw_codec.specs.declared.record.Decoded.{Decoded}
use Rattle.aw_body.specs.declared.change.Seen.{Seen}
use Rattle.mv_core.specs.declared.entry.Entry.{Entry}
use Rattle.mv_core.specs.declared.entry.Entry.TheVariants as entry
use Rattle.mv_core.specs.declared.entry.Reply.{Reply}
use Rattle.mv_core.specs.SharedStep.{writes}
use Rattle.aw_store.specs.Stores.{record_of}
use Rattle.ses_step.specs.declared.answer.Answer.{Answer}
use Rattle.ses_step.specs.declared.answer.Answer.TheVariants.{Refused}
use Rattle.ses_step.specs.declared.command.Command.{Command}
use Rattle.ses_step.specs.declared.session.Begun.{Begun}
use Rattle.ses_step.specs.declared.session.Begun.TheVariants.{Said, Ask}
use Rattle.ses_step.specs.declared.session.Known.{Known as Session}
use Rattle.ses_step.specs.declared.session.Session.{Session as Waiting}
use Rattle.ses_report.specs.Refusals.{disk_fault}
use Rattle.ses_step.specs.Sessions.{begun, waiting, kept_waiting}
use Rattle.script_world.specs.Worlds.{Machine}
use Rattle.script_meaning.proofs.Begins.{asked_by}
use Rattle.script_meaning.specs.Turns.{Turn, replied, turn_from, turn}
use Rattle.script_world.specs.Outcomes.{Outcome, done, faulted, OnDisk, ended_so, written, on_disk}
use Rattle.script_meaning.specs.Language.{language, store_writing, history_machine, by_history, HistoryDisk}

-- ---- the three turns

module _ {S : Type 0} (disk : OnDisk Decoded S) where
  abbrev pub unwritten_turn : Turn S → Turn (OnDisk Decoded S)
  unwritten_turn t = record { answer = t.answer; session = t.session; shared = record disk { state = t.shared } }

  abbrev pub done_turn : Turn S → Entry → Turn (OnDisk Decoded S)
  done_turn t asked = record {
    answer = t.answer;
    session = t.session;
    shared = record disk { state = t.shared; tried = disk.tried ++ (record { attempted = record_of asked; outcome = done }) ∷ [] };
  }

  abbrev pub faulted_turn : Session → Entry → Turn (OnDisk Decoded S)
  faulted_turn session asked = record {
    answer = Refused disk_fault;
    session = session;
    shared = record disk { tried = disk.tried ++ (record { attempted = record_of asked; outcome = faulted }) ∷ [] };
  }

module _ {S : Type 0} (machine : Machine language S) (next : ℕ → Outcome) (definitions : List Def) (names : List (List ℕ)) (disk : OnDisk Decoded S) (P : Turn (OnDisk Decoded S) → Type 0) where
  pub turn_from-cases : (b : Begun) (session : Waiting) →
      (((asked : Entry) → b ≡ Ask asked → writes asked (machine.step disk.state asked).0 ≡ false) → P (unwritten_turn disk (turn_from machine definitions names disk.state (b, session)))) →
      ((asked : Entry) → b ≡ Ask asked → writes asked (machine.step disk.state asked).0 ≡ true → P (done_turn disk (turn_from machine definitions names disk.state (b, session)) asked)) →
      ((asked : Entry) → b ≡ Ask asked → writes asked (machine.step disk.state asked).0 ≡ true → P (faulted_turn disk session.known asked)) →
      P (turn_from (on_disk store_writing next machine) definitions names disk (b, session))
  turn_from-cases (Said answer) session unwritten_case done_case faulted_case = unwritten_case (λ asked is. cc)
  turn_from-cases (Ask asked) session unwritten_case done_case faulted_case = by_test (writes asked r.0) refl
    where
      r : Reply × S
      r = machine.step disk.state asked

      by_outcome : writes asked r.0 ≡ true → (outcome : Outcome) → P (replied (on_disk store_writing next machine) definitions names session (ended_so store_writing outcome disk (record_of asked) r))
      by_outcome writing done = done_case asked refl writing
      by_outcome writing faulted = faulted_case asked refl writing

      by_test : (test : Bool) → writes asked r.0 ≡ test → P (replied (on_disk store_writing next machine) definitions names session (written store_writing (next (length disk.tried)) disk r (if test then Some (record_of asked) else None)))
      by_test true writing = by_outcome writing (next (length disk.tried))
      by_test false not_writing = unwritten_case (λ other is. ap (λ it. writes it (machine.step disk.state it).0) (same_asked other asked is) ∙ not_writing)
        where
          same_asked : (other asked : Entry) → Ask asked ≡ Ask other → other ≡ asked
          same_asked other asked is = cc

-- ---- a command's turn

-- what the session asks, and whether that writes a record
pub record Writes {S : Type 0} (machine : Machine language S) (definitions : List Def) (state : S) (session : Session) (command : Command) (asked : Entry) (writing : Bool) : Type 0 where
  pub asks : (begun definitions session command).0 ≡ Ask asked
  pub is : writes asked (machine.step state asked).0 ≡ writing

module _ {S : Type 0} (machine : Machine language S) (next : ℕ → Outcome) (definitions : List Def) (names : List (List ℕ)) (disk : OnDisk Decoded S) (session : Session) (command : Command) (P : Turn (OnDisk Decoded S) → Type 0) where
  abbrev plain : Turn S
  plain = turn machine definitions names disk.state session command

  abbrev WritesSo : Entry → Bool → Type 0
  WritesSo asked writing = Writes machine definitions disk.state session command asked writing

  pub turn-cases : (((asked : Entry) → (begun definitions session command).0 ≡ Ask asked → WritesSo asked false) → P (unwritten_turn disk plain)) →
      ((asked : Entry) → WritesSo asked true → P (done_turn disk plain asked)) →
      ((asked : Entry) → WritesSo asked true → P (faulted_turn disk session asked)) →
      P (turn (on_disk store_writing next machine) definitions names disk session command)
  turn-cases unwritten_case done_case faulted_case =
      let b = begun definitions session command in
      by_begun b.0 b.1 (λ none. unwritten_case (λ asked is. record { asks = is; is = none asked is })) (λ asked is writing. done_case asked (record { asks = is; is = writing })) (λ asked is writing. subst (λ it. P (faulted_turn disk it asked)) (sym (asked_by definitions session command asked is).0) (faulted_case asked (record { asks = is; is = writing })))
    where
      by_begun : (first : Begun) (after : Session) →
          (((asked : Entry) → first ≡ Ask asked → writes asked (machine.step disk.state asked).0 ≡ false) → P (unwritten_turn disk (turn_from machine definitions names disk.state (kept_waiting command (first, after))))) →
          ((asked : Entry) → first ≡ Ask asked → writes asked (machine.step disk.state asked).0 ≡ true → P (done_turn disk (turn_from machine definitions names disk.state (kept_waiting command (first, after))) asked)) →
          ((asked : Entry) → first ≡ Ask asked → writes asked (machine.step disk.state asked).0 ≡ true → P (faulted_turn disk after asked)) →
          P (turn_from (on_disk store_writing next machine) definitions names disk (kept_waiting command (first, after)))
      by_begun (Said answer) after unwritten_one done_one faulted_one = unwritten_one (λ asked is. cc)
      by_begun (Ask asked) after unwritten_one done_one faulted_one =
          turn_from-cases machine next definitions names disk P (Ask asked) (waiting after command) unwritten_one done_one faulted_one

-- ---- the machine over commits and owners

-- no entry but a COMMIT writes a record
module _ (coming : List Outcome) (definitions : List Def) (names : List (List ℕ)) (disk : HistoryDisk) (s : Waiting) where
  abbrev pub IsUnwritten : Begun × Waiting → Type 0
  IsUnwritten b = turn_from (by_history coming) definitions names disk b ≡ unwritten_turn disk (turn_from history_machine definitions names disk.state b)

  -- nor does a session that asks nothing
  pub said-unwritten : (answer : Answer) → IsUnwritten (Said answer, s)
  said-unwritten answer = refl

  pub attach-unwritten : (who : ℕ) → IsUnwritten (Ask (entry.Attach who), s)
  attach-unwritten who = refl

  pub acquire-unwritten : (who : ℕ) (keep : List Seen) (fresh : List ℕ) (same : List Seen) → IsUnwritten (Ask (entry.Acquire who keep fresh same), s)
  acquire-unwritten who keep fresh same = refl

  pub resync-unwritten : (who : ℕ) (objects : List ℕ) → IsUnwritten (Ask (entry.Resync who objects), s)
  resync-unwritten who objects = refl

  pub release-unwritten : (who : ℕ) (objects : List ℕ) → IsUnwritten (Ask (entry.Release who objects), s)
  release-unwritten who objects = refl

  pub detach-unwritten : (who : ℕ) → IsUnwritten (Ask (entry.Detach who), s)
  detach-unwritten who = refl
