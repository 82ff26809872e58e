-- A session that attached for reading alone changes nothing that is shared.
use Rattle.std.specs.Prelude.{◌≡◌, ◌≢◌, ◌==◌, ℕ, Bool, false, not, cond, List, Option, None, Some, refl}
use Rattle.std.proofs.Common.{◌∙◌, ap, sym, subst, ne_eqb}
use Rattle.std.proofs.lemmas.Bool.{true≢false}
use Rattle.aw_schema.specs.declared.definition.Def.{Def}
use Rattle.aw_codec.specs.declared.record.Decoded.{Decoded}
use Rattle.aw_body.specs.Owners.{Owners, owner_of, is_own, all_given_up}
use Rattle.aw_body.specs.OwnerLaws.{owner_of-all_given_up}
use Rattle.aw_store.specs.StoredRecords.{CanBeOpened}
use Rattle.dml_tree.specs.declared.statement.Mode.TheVariants.{ReadOnly}
use Rattle.mv_core.specs.declared.entry.Entry.{Entry}
use Rattle.ses_step.specs.declared.command.Asked.{Asked}
use Rattle.ses_step.specs.declared.command.Asked.TheVariants.{Runs, Refused}
use Rattle.ses_step.specs.declared.command.Command.{Command}
use Rattle.ses_step.specs.declared.command.Command.TheVariants as command
use Rattle.ses_step.specs.declared.session.Begun.TheVariants.{Ask}
use Rattle.ses_step.specs.declared.session.Known.{Known as Session}
use Rattle.ses_step.specs.SessionLines.{asked, begun_as}
use Rattle.ses_step.specs.Sessions.{waiting, kept_waiting}
use Rattle.script_world.specs.Worlds.{Event}
use Rattle.script_world.specs.Outcomes.{Outcome}
use Rattle.script_meaning.specs.Language.{HistoryDisk, HistoryWorld, by_history}
use Rattle.script_meaning.specs.SnapshotReads.{SharesNothing, ReadersShareNothing}
use Rattle.script_meaning.specs.Transcript.{world_at}
use Rattle.script_meaning.specs.Turns.{turn_from}
use Rattle.ses_step.proofs.callers.ReadyLines.{IsPermitted}
use Rattle.script_meaning.proofs.Begins.{AskedOf, begins}
use Rattle.script_meaning.proofs.ReadyLines.{IsReadyFor, asked-ready}
use Rattle.script_meaning.proofs.ReachableWorlds.{fits_at, found_at_number}

-- who owns nothing gives up nothing
none-own : (owners : Owners) (who object : ℕ) → owner_of owners object ≢ Some who → is_own owners who object ≡ false
none-own owners who object foreign = by_owner (owner_of owners object) refl
  where
    by_owner : (owner : Option ℕ) → owner_of owners object ≡ owner → elim owner as (λ _. Bool) [ None ↦ false | Some by ↦ by == who ] ≡ false
    by_owner None is = refl
    by_owner (Some by) is = ne_eqb by who (λ same. foreign (is ∙ ap Some same))

none-given : (owners : Owners) (who object : ℕ) → owner_of owners object ≢ Some who → owner_of (all_given_up owners who) object ≡ owner_of owners object
none-given owners who object foreign =
    owner_of-all_given_up owners who object ∙ ap (λ (own : Bool). cond (not own) (owner_of owners object) None) (none-own owners who object foreign)

module _ (coming : List Outcome) (definitions : List Def) (names : List (List ℕ)) (disk : HistoryDisk) (s : Session) (reader : s.mode ≡ ReadOnly) (nothing : (object : ℕ) → owner_of disk.state.owners object ≢ Some s.who) where
  -- after what it asks by a command
  abbrev Asks : Command → Entry → Type 0
  Asks own it = SharesNothing disk (turn_from (by_history coming) definitions names disk (Ask it, waiting s own))

  asks_nothing : (own : Command) (it : Entry) → IsPermitted definitions s own → AskedOf s own it → Asks own it
  asks_nothing (command.Attach mode) it permitted known =
      subst (Asks (command.Attach mode)) (sym known.is) (record { definitions = refl; history = refl; owners = λ object. refl; tried = refl })
  asks_nothing command.Detach it permitted known =
      subst (Asks command.Detach) (sym known.is) (record { definitions = refl; history = refl; owners = λ object. none-given disk.state.owners s.who object (nothing object); tried = refl })
  asks_nothing (command.Resync objects) it permitted known =
      subst (Asks (command.Resync objects)) (sym known.is) (record { definitions = refl; history = refl; owners = λ object. refl; tried = refl })
  asks_nothing (command.Acquire keep fresh same) it permitted known = absurd (true≢false (permitted reader))
  asks_nothing (command.Release objects) it permitted known = absurd (true≢false (permitted reader))
  asks_nothing command.Commit it permitted known = absurd (true≢false (permitted reader))
  asks_nothing (command.Revert objects) it permitted known = absurd known
  asks_nothing (command.Update objects) it permitted known = absurd known
  asks_nothing (command.Write object cells) it permitted known = absurd known
  asks_nothing (command.Maintain object values) it permitted known = absurd known
  asks_nothing (command.Show cell) it permitted known = absurd known

  line_shares_nothing : (a : Asked) → IsReadyFor definitions s a → SharesNothing disk (turn_from (by_history coming) definitions names disk (begun_as definitions s a))
  line_shares_nothing (Refused refusal) ready = record { definitions = refl; history = refl; owners = λ object. refl; tried = refl }
  line_shares_nothing (Runs own) ready =
      begins definitions s own (λ b. SharesNothing disk (turn_from (by_history coming) definitions names disk (kept_waiting own b))) (record {
        refused = λ refusal is. record { definitions = refl; history = refl; owners = λ object. refl; tried = refl };
        asks = λ it known. asks_nothing own it ready.1 known;
        nothing = λ view is attached none left. record { definitions = refl; history = refl; owners = λ object. refl; tried = refl };
        written = λ view object cells is attached. record { definitions = refl; history = refl; owners = λ object. refl; tried = refl };
        maintained = λ view object values is attached. record { definitions = refl; history = refl; owners = λ object. refl; tried = refl };
        shown = λ view cell is attached. record { definitions = refl; history = refl; owners = λ object. refl; tried = refl };
        released = λ view objects is attached left. record { definitions = refl; history = refl; owners = λ object. refl; tried = refl };
        reverted = λ view objects is attached. record { definitions = refl; history = refl; owners = λ object. refl; tried = refl };
        updated = λ view objects is attached. record { definitions = refl; history = refl; owners = λ object. refl; tried = refl };
      })

-- ---- after any lines

module _ (names : List (List ℕ)) (records : List Decoded) (coming : List Outcome) (events : List Event) (can : CanBeOpened records) where
  abbrev reached : HistoryWorld
  reached = world_at names records coming events

  pub readers_share_nothing : ReadersShareNothing coming (world_at names records coming events)
  readers_share_nothing disk who session view is found attached reader =
      let own_place = found_at_number names records coming events can disk who session is found in
      let owns_nothing = ((fits_at names records coming events can disk is).each session.who session own_place).reads reader in
      record {
        owns_nothing = owns_nothing;
        lines = λ written. line_shares_nothing coming reached.definitions reached.names disk session reader owns_nothing (asked reached.definitions session written.line written.from) (asked-ready reached.definitions session written.line written.from);
      }
