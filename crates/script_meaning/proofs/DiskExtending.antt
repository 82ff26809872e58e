-- On a disk too a commit extends the latest generations, unless it is refused, and a grant is of the latest.
use Rattle.std.specs.Prelude.{◌≡◌, ℕ, true, false, List, Option, None, Some, slice_get, refl}
use Rattle.std.proofs.Common.{◌∙◌, ap, sym, subst, inl, inr, ⊎_elim}
use Rattle.std.proofs.lemmas.Bool.{true≢false}
use Rattle.aw_schema.specs.declared.definition.Def.{Def}
use Rattle.aw_codec.specs.declared.record.Decoded.{Decoded}
use Rattle.mv_core.specs.declared.entry.Entry.{Entry}
use Rattle.mv_core.specs.Workspace.{Workspace}
use Rattle.mv_view.specs.ViewState.{ViewState}
use Rattle.ses_step.specs.declared.answer.Answer.TheVariants.{Done, Refused}
use Rattle.ses_step.specs.declared.command.Command.TheVariants as command
use Rattle.ses_step.specs.declared.session.Begun.{Begun}
use Rattle.ses_step.specs.declared.session.Begun.TheVariants.{Said, Ask}
use Rattle.ses_step.specs.declared.session.Known.{Known as Session}
use Rattle.ses_step.specs.Answers.{is_refusal}
use Rattle.ses_step.specs.declared.session.Session.{Session as Waiting}
use Rattle.ses_step.specs.Sessions.{begun, sharing, waiting, kept_waiting, finished}
use Rattle.ses_report.specs.Refusals.{not_attached}
use Rattle.script_world.specs.Worlds.{Event}
use Rattle.script_meaning.specs.Turns.{Turn, turn_from, turn}
use Rattle.script_world.specs.Outcomes.{Outcome, among}
use Rattle.script_meaning.specs.Language.{kept_step, history_machine, by_history, HistoryDisk, HistoryWorld}
use Rattle.script_meaning.specs.Transcript.{world_at}
use Rattle.script_meaning.specs.Fit.{SharedFits}
use Rattle.aw_store.specs.StoredRecords.{CanBeOpened}
use Rattle.script_meaning.specs.Extending.{Commits, IsGranted, CommitsExtend, GrantsHaveLatest}
use Rattle.script_meaning.proofs.DiskTurns.{unwritten_turn, done_turn, faulted_turn, Writes, turn-cases}
use Rattle.script_meaning.proofs.Records.{writing-grants}
use Rattle.script_meaning.proofs.Extending.{PlainCommits, commits, acquires}
use Rattle.script_meaning.proofs.ReachableWorlds.{fits_at, found_at_number}

-- an ACQUIRE writes no record
pub acquire-plain : (coming : List Outcome) (definitions : List Def) (names : List (List ℕ)) (disk : HistoryDisk) (s : Session) (keep fresh same : List ℕ) → turn (by_history coming) definitions names disk s (command.Acquire keep fresh same) ≡ unwritten_turn disk (turn history_machine definitions names disk.state s (command.Acquire keep fresh same))
acquire-plain coming definitions names disk s keep fresh same = by_view s.view
  where
    begun_by : Option ViewState → Begun × Waiting
    begun_by view = kept_waiting (command.Acquire keep fresh same) (elim view [ None ↦ (Said (Refused not_attached), s) | Some one ↦ sharing s one (command.Acquire keep fresh same) ])

    by_view : (view : Option ViewState) → turn_from (by_history coming) definitions names disk (begun_by view) ≡ unwritten_turn disk (turn_from history_machine definitions names disk.state (begun_by view))
    by_view None = refl
    by_view (Some view) = refl

module _ (coming : List Outcome) (definitions : List Def) (names : List (List ℕ)) (sessions : List Session) (disk : HistoryDisk) (s : Session) (fits : SharedFits definitions sessions disk.state) (own_place : slice_get sessions s.who ≡ Some s) (view : ViewState) (attached : s.view ≡ Some view) where
  abbrev plain : Turn Workspace
  plain = turn history_machine definitions names disk.state s command.Commit

  plain_commits : PlainCommits definitions disk.state s view plain
  plain_commits = commits definitions names sessions disk.state s fits own_place view attached

  -- a commit that writes is done
  writing-done : (asked : Entry) → Writes history_machine definitions disk.state s command.Commit asked true → plain.answer ≡ Done
  writing-done asked writing =
      let reply = (kept_step disk.state asked).0 in
      let after = (begun definitions s command.Commit).1 in
      ap (λ b. (turn_from history_machine definitions names disk.state (kept_waiting command.Commit (b, after))).answer) writing.asks ∙ ap (λ it. (finished definitions names (waiting after command.Commit) it).0) (writing-grants asked reply writing.is).reply_is

  commits_on_disk : Commits definitions disk s view (turn (by_history coming) definitions names disk s command.Commit)
  commits_on_disk = turn-cases history_machine (among coming) definitions names disk s command.Commit (Commits definitions disk s view) unwritten_case done_case faulted_case
    where
      unwritten_case : ((asked : Entry) → (begun definitions s command.Commit).0 ≡ Ask asked → Writes history_machine definitions disk.state s command.Commit asked false) → Commits definitions disk s view (unwritten_turn disk plain)
      unwritten_case none = record {
        answers = ⊎_elim inl (λ it. inr (record { refusal = ⊎_elim inl (λ long. inr (inl long)) it.0; same_session = it.1.0; same_state = it.1.1 })) plain_commits.answers;
        extends = plain_commits.extends;
        leaves = plain_commits.leaves;
      }

      done_case : (asked : Entry) → Writes history_machine definitions disk.state s command.Commit asked true → Commits definitions disk s view (done_turn disk plain asked)
      done_case asked writing = record { answers = inl (writing-done asked writing); extends = plain_commits.extends; leaves = plain_commits.leaves }

      faulted_case : (asked : Entry) → Writes history_machine definitions disk.state s command.Commit asked true → Commits definitions disk s view (faulted_turn disk s asked)
      faulted_case asked writing = record {
        answers = inr (record { refusal = inr (inr refl); same_session = refl; same_state = refl });
        extends = λ done. absurd (true≢false (ap is_refusal done));
        leaves = λ done. absurd (true≢false (ap is_refusal done));
      }

  acquires_on_disk : (keep fresh same : List ℕ) → let t = turn (by_history coming) definitions names disk s (command.Acquire keep fresh same) in t.answer ≡ Done → IsGranted keep fresh same disk.state t.shared.state s view t.session
  acquires_on_disk keep fresh same =
      let P : Turn HistoryDisk → Type 0 = λ t. t.answer ≡ Done → IsGranted keep fresh same disk.state t.shared.state s view t.session in
      subst P (sym (acquire-plain coming definitions names disk s keep fresh same)) (acquires definitions names sessions disk.state s fits own_place view attached keep fresh same)

-- ---- after any lines

module _ (names : List (List ℕ)) (records : List Decoded) (coming : List Outcome) (events : List Event) (can : CanBeOpened records) where
  abbrev reached : HistoryWorld
  reached = world_at names records coming events

  pub commits_extend : CommitsExtend coming (world_at names records coming events)
  commits_extend disk who session view is found attached =
      commits_on_disk coming reached.definitions reached.names reached.sessions disk session (fits_at names records coming events can disk is) (found_at_number names records coming events can disk who session is found) view attached

  pub grants_have_latest : GrantsHaveLatest coming (world_at names records coming events)
  grants_have_latest disk who session view is found attached =
      acquires_on_disk coming reached.definitions reached.names reached.sessions disk session (fits_at names records coming events can disk is) (found_at_number names records coming events can disk who session is found) view attached
