-- Every world of a run fits what is committed and owned, and its records stand for the commits.
use Rattle.std.specs.Prelude.{◌≡◌, ◌<◌, ◌&&◌, ◌++◌, ℕ, true, List, [], ◌∷◌, length, Option, Some, None, IfSome, IsSome, unwrap_or, slice_get, if◌then◌else◌, refl}
use Rattle.std.specs.Option.{ForSome}
use Rattle.std.proofs.Common.{◌∙◌, ap, ap₂, sym, subst, ⊎_elim, arith, append-nil}
use Rattle.std.proofs.lemmas.Bool.{and_parts, true≢false}
use Rattle.std.proofs.lemmas.Option.{none-some, same_Some, slice_get_cases}
use Rattle.aw_schema.specs.declared.definition.Def.{Def}
use Rattle.aw_body.specs.declared.change.Change.{Change}
use Rattle.aw_body.specs.Owners.{owner_of}
use Rattle.aw_codec.specs.declared.record.Decoded.{Decoded}
use Rattle.aw_codec.specs.declared.record.Decoded.TheVariants.{Definitions, Commit}
use Rattle.aw_store.specs.StoredRecords.{AreRecords, are_replayed, are_accepted_after, are_commits_after, can_replay, definitions_of, commits_of, workspace_of, CanBeOpened}
use Rattle.mv_core.specs.Workspace.{Workspace}
use Rattle.mv_view.specs.Each.{object_in}
use Rattle.mv_view.specs.ViewState.{ViewState, kept_kinds}
use Rattle.ses_step.specs.declared.session.Known.{Known as Session}
use Rattle.ses_step.specs.Sessions.{new_session}
use Rattle.script_world.specs.Worlds.{Event, script_ends, with_session, closed, world_after}
use Rattle.script_world.specs.Outcomes as disk
use Rattle.script_world.specs.Outcomes.{Outcome, OnDisk, on_disk, among, attempts_of, settled_records}
use Rattle.script_world.proofs.callers.Appending.{world_after-append}
use Rattle.script_world.proofs.callers.Crash.{leaves_a_run}
use Rattle.script_world.proofs.callers.UnusedOutcomes.{used-opening}
use Rattle.script_world.proofs.callers.Fits as all
use Rattle.script_world.proofs.callers.DiskFits.{Both, recorded_lawful}
use Rattle.script_meaning.specs.CrashRuns.{LeavesARunOf, LeavesWhatOpens}
use Rattle.script_meaning.specs.Fit.{AreDefinable, IsKeptOf, SharedFits, IsAttached, WorldFits}
use Rattle.script_meaning.specs.Generations.{latest_body}
use Rattle.script_meaning.specs.Language.{language, is_any, store_writing, history_machine, HistoryDisk, HistoryWorld, by_history}
use Rattle.script_meaning.specs.RecordsOfRuns.{StandFor, RecordsMatch, EndMatches}
use Rattle.script_meaning.specs.Transcript.{SameRecords, opening, world_at, attempts}
use Rattle.script_meaning.proofs.callers.Defining.{definable-none}
use Rattle.script_meaning.proofs.FittingSessions.{Sound, Fits, Spoken, Defined, language_lawful, faults_keep, lines_spoken}
use Rattle.script_meaning.proofs.Records.{Match, Stands, commits_recorded}
use Rattle.script_meaning.proofs.StoredBodies.{first-kept, stored-kept}

module _ (records : List Decoded) (next : ℕ → Outcome) where
  -- the state is sound for so many sessions, and the records stand for it
  abbrev SoundOn : List Def → HistoryDisk → ℕ → Type 0
  SoundOn d disk count = Both store_writing history_machine next Spoken (Defined records) Sound Fits records Stands d disk count

  abbrev FitsOn : List Def → HistoryDisk → ℕ → Session → Type 0
  FitsOn d disk who s = Fits d disk.state who s

  -- every world on a disk that had these records
  abbrev pub WorldStands : HistoryWorld → Type 0
  WorldStands w = all.WorldFits (on_disk store_writing next history_machine) Spoken (Defined records) SoundOn FitsOn w

  lawful : all.Lawful (on_disk store_writing next history_machine) Spoken (Defined records) SoundOn FitsOn
  lawful =
      recorded_lawful store_writing history_machine next Spoken (Defined records) Sound Fits records Stands (language_lawful records) (faults_keep next records) (commits_recorded next records)

  pub stands_on : (w : HistoryWorld) (events : List Event) → WorldStands w → WorldStands (world_after (on_disk store_writing next history_machine) w events)
  stands_on w events it = all.worlds_fit (on_disk store_writing next history_machine) Spoken (Defined records) SoundOn FitsOn lawful lines_spoken w events it

  -- the world in which a session's line is taken up
  pub taken_up-stands : (w : HistoryWorld) (name : List ℕ) → WorldStands w → WorldStands (with_session (closed (on_disk store_writing next history_machine).opens w) name)
  taken_up-stands w name it = all.taken_up-fits (on_disk store_writing next history_machine) Spoken (Defined records) SoundOn FitsOn lawful w name it

-- ---- the opening

pub opening_stands : (names : List (List ℕ)) (records : List Decoded) (next : ℕ → Outcome) → CanBeOpened records → WorldStands records next (opening names records)
opening_stands names records next can = by_records records can.spellings can.replayable
  where
    by_records : (records : List Decoded) → AreRecords records → can_replay records ≡ true → WorldStands records next (opening names records)
    by_records [] are can =
        all.begins_so (on_disk store_writing next history_machine) Spoken (Defined []) (SoundOn [] next) (FitsOn [] next) (lawful [] next) (opening names []) refl (λ none. (definable-none, refl)) (λ disk is. absurd (none-some disk is))
    by_records (Commit changes ∷ records) are can = absurd (true≢false (sym can))
    by_records (Definitions defined ∷ records) are can =
        all.begins_so (on_disk store_writing next history_machine) Spoken (Defined those) (SoundOn those next) (FitsOn those next) (lawful those next) (opening names those) refl (λ none. absurd (none-some disk (sym none))) (λ other is. subst (λ (it : HistoryDisk). SoundOn those next defined it 0) (same_Some disk other is) sound)
      where
        those : List Decoded
        those = Definitions defined ∷ records

        disk : HistoryDisk
        disk = record { state = workspace_of those []; opened = None; tried = [] }

        kinds : (are_replayed defined ≡ true) × ((are_accepted_after [] defined && are_commits_after defined [] records) ≡ true)
        kinds = and_parts (are_replayed defined) (are_accepted_after [] defined && are_commits_after defined [] records) can

        parts : (are_accepted_after [] defined ≡ true) × (are_commits_after defined [] records ≡ true)
        parts = and_parts (are_accepted_after [] defined) (are_commits_after defined [] records) kinds.1

        sound : SoundOn those next defined disk 0
        sound = record {
          sound = record {
            definable = record { stored = are.0; replayed = kinds.0; accepted = parts.0 };
            definitions_are = refl;
            bodies = stored-kept defined records [] are.1 parts.1 (first-kept defined are.0);
            owners = λ object by is. absurd (none-some by is);
          };
          stands = subst (λ those. Match those defined (commits_of records)) (sym (append-nil those)) (record { definitions_are = refl; commits = refl; replayable = can; spellings = are });
        }

pub opening_sessions : (names : List (List ℕ)) (records : List Decoded) (who : ℕ) (session : Session) → slice_get (opening names records).sessions who ≡ Some session → session ≡ new_session who
opening_sessions names records who session = by_definitions (definitions_of records)
  where
    by_definitions : (defined : Option (List Def)) → (let w : HistoryWorld = disk.opening names defined (workspace_of records []) in slice_get w.sessions who ≡ Some session) → session ≡ new_session who
    by_definitions None found = all.first-session language 0 names who session found ∙ ap new_session (omega arith)
    by_definitions (Some those) found = all.first-session language 0 names who session found ∙ ap new_session (omega arith)

-- ---- any world of a run

-- an attached session is one that owns
owner_attached : (d : List Def) (sessions : List Session) (shared : Workspace) (by : ℕ) → by < length sessions → ((who : ℕ) → ForSome (slice_get sessions who) (Fits d shared who)) → (object : ℕ) → owner_of shared.owners object ≡ Some by → IsAttached sessions by
owner_attached d sessions shared by inside each object owned =
    ⊎_elim (λ found. (found.0, found.2, by_view found.0 (each by found.0 found.2) found.0.view refl)) (λ past. absurd (omega (arith, inside, past.0))) (slice_get_cases sessions by).1
  where
    by_view : (session : Session) → Fits d shared by session → (view : Option ViewState) → session.view ≡ view → IsSome session.view
    by_view session fits None none = absurd (fits.owns none object owned)
    by_view session fits (Some view) is = subst IsSome (sym is) refl

module _ (records : List Decoded) (next : ℕ → Outcome) (w : HistoryWorld) (it : WorldStands records next w) where
  stands_fit : (disk : HistoryDisk) → w.shared ≡ Some disk → SharedFits w.definitions w.sessions disk.state
  stands_fit disk is =
      let fit = it.shared disk is in
      record {
        definitions_are = fit.sound.sound.definitions_are;
        each = λ who session found. (fit.each who session found).session;
        bodies = λ object. subst (λ (those : List Def). IfSome (object_in (kept_kinds those) object) (λ kind. IsKeptOf kind (latest_body disk.state object))) fit.sound.sound.definitions_are (fit.sound.sound.bodies object);
        owners = λ object by owned.
            let owner = fit.sound.sound.owners object by owned in
            (subst (λ (those : List Def). IsSome (object_in (kept_kinds those) object)) fit.sound.sound.definitions_are owner.0, owner_attached w.definitions w.sessions disk.state by owner.1 fit.each object owned);
      }

  pub world_fits : WorldFits w
  world_fits = record {
    defined = by_shared w.shared refl;
    paired = it.paired;
    unopened = it.unopened;
    shared = stands_fit;
  }
    where
      by_shared : (shared : Option HistoryDisk) → w.shared ≡ shared → AreDefinable w.definitions
      by_shared None none = (it.defined none).0
      by_shared (Some disk) is = (it.shared disk is).sound.sound.definable

  -- ---- the records that are settled

  pub record MatchSo (shared : Option HistoryDisk) : Type 0 where
    pub opens : CanBeOpened (settled_records records (attempts_of shared))
    pub stand_for : ForSome shared (λ disk. StandFor (settled_records records (attempts_of shared)) w.definitions disk.state)
    pub unopened : shared ≡ None → settled_records records (attempts_of shared) ≡ []

  pub match_so : CanBeOpened records → MatchSo w.shared
  match_so can = by_shared w.shared refl
    where
      by_shared : (shared : Option HistoryDisk) → w.shared ≡ shared → MatchSo shared
      by_shared None none = record {
        opens = subst CanBeOpened (sym (append-nil records)) can;
        stand_for = λ disk is. absurd (none-some disk is);
        unopened = λ _. append-nil records ∙ (it.defined none).1;
      }
      by_shared (Some disk) is = record {
        opens = record { spellings = match.spellings; replayable = match.replayable };
        stand_for = λ other same. subst (λ (it : HistoryDisk). StandFor those w.definitions it.state) (same_Some disk other same) (record {
          definitions_are = match.definitions_are;
          commits = match.commits;
          workspace = ap₂ (λ (definitions : List Def) (history : List (List Change)). let it : Workspace = record { definitions = definitions; history = history; owners = disk.state.owners } in it) (ap (λ (found : Option (List Def)). unwrap_or found []) match.definitions_are ∙ sym fit.sound.sound.definitions_are) match.commits;
        });
        unopened = λ none. absurd (none-some disk (sym none));
      }
        where
          those : List Decoded
          those = settled_records records (attempts_of (Some disk))

          fit : all.AllFit (on_disk store_writing next history_machine) Spoken (Defined records) (SoundOn records next) (FitsOn records next) w.definitions w.sessions disk
          fit = it.shared disk is

          match : Match those w.definitions disk.state.history
          match = fit.sound.stands

module _ (names : List (List ℕ)) (records : List Decoded) (coming : List Outcome) (events : List Event) (can : CanBeOpened records) where
  abbrev reached : HistoryWorld
  reached = world_at names records coming events

  pub always_stands : WorldStands records (among coming) (world_at names records coming events)
  always_stands = stands_on records (among coming) (opening names records) events (opening_stands names records (among coming) can)

  pub always_fits : WorldFits (world_at names records coming events)
  always_fits = world_fits records (among coming) reached always_stands

  -- the sessions fit, and each stands at its number
  pub fits_at : (disk : HistoryDisk) → (world_at names records coming events).shared ≡ Some disk → SharedFits (world_at names records coming events).definitions (world_at names records coming events).sessions disk.state
  fits_at disk is = always_fits.shared disk is

  pub found_at_number : (disk : HistoryDisk) (who : ℕ) (session : Session) → (world_at names records coming events).shared ≡ Some disk → slice_get (world_at names records coming events).sessions who ≡ Some session → slice_get (world_at names records coming events).sessions session.who ≡ Some session
  found_at_number disk who session is found =
      ap (slice_get reached.sessions) ((fits_at disk is).each who session found).number ∙ found

  pub always_match : RecordsMatch names records coming events
  always_match =
      let so = match_so records (among coming) reached always_stands can in
      record { can_be_opened = so.opens; stand_for = so.stand_for; unopened = so.unopened }

-- at the end of a script the definitions are among the records, where there are any
pub always_end : (names : List (List ℕ)) (records : List Decoded) (coming : List Outcome) (events : List Event) → CanBeOpened records → EndMatches names records coming events
always_end names records coming events can = by_shared after.shared refl
  where
    all_events : List Event
    all_events = events ++ script_ends ∷ []

    after : HistoryWorld
    after = world_at names records coming all_events

    matches : RecordsMatch names records coming all_events
    matches = always_match names records coming all_events can

    none_defined : after.shared ≡ None → after.definitions ≡ []
    none_defined none =
        ap (λ (w : HistoryWorld). w.definitions) same ∙ by_any before.definitions refl (sym (ap (λ (w : HistoryWorld). w.shared) same) ∙ none)
      where
        before : HistoryWorld
        before = world_at names records coming events

        ended : List Def → HistoryWorld
        ended d = if is_any d then closed (by_history coming).opens before else before

        same : after ≡ ended before.definitions
        same = world_after-append (by_history coming) (opening names records) events (script_ends ∷ [])

        by_any : (d : List Def) → before.definitions ≡ d → (ended d).shared ≡ None → (ended d).definitions ≡ []
        by_any [] is none = is
        by_any (def ∷ d) is none = absurd (none-some _ (sym none))

    by_shared : (shared : Option HistoryDisk) → after.shared ≡ shared → unwrap_or (definitions_of (settled_records records (attempts names records coming all_events))) [] ≡ after.definitions
    by_shared None none = ap (λ (those : List Decoded). unwrap_or (definitions_of those) []) (matches.unopened none) ∙ sym (none_defined none)
    by_shared (Some disk) is = ap (λ (found : Option (List Def)). unwrap_or found []) (matches.stand_for disk is).definitions_are

-- ---- what a crash leaves

module _ (names : List (List ℕ)) (records : List Decoded) (coming : List Outcome) (events : List Event) where
  pub leaves_a_run_of : LeavesARunOf names records coming events
  leaves_a_run_of =
      leaves_a_run store_writing history_machine (opening names records) (among coming) events (used-opening language Decoded (Workspace) names (definitions_of records) (workspace_of records [])) SameRecords records

  pub leaves_what_opens : CanBeOpened records → LeavesWhatOpens names records coming events
  leaves_what_opens can ended left may =
      ⊎_elim (λ old. subst CanBeOpened (sym old) can) (λ it. subst CanBeOpened (sym it.settles) (match_so records it.outcomes (world_after (on_disk store_writing it.outcomes history_machine) (opening names records) events) (stands_on records it.outcomes (opening names records) events (opening_stands names records it.outcomes can)) can).opens) (leaves_a_run_of ended left may)
