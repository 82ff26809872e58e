-- The records of a run stand for what is committed.
use Rattle.std.specs.Prelude.{◌≡◌, ◌≤◌, ◌&&◌, ◌++◌, ℕ, Bool, true, false, List, [], ◌∷◌, All, Option, Some, None, unwrap_or, nat_lt, if◌then◌else◌, refl}
use Rattle.std.proofs.Common.{◌∙◌, ap, sym, subst, ap₂, arith}
use Rattle.std.proofs.lemmas.Bool.{and_from, ltb-false, true≢false}
use Rattle.std.proofs.lemmas.Option.{none-some, same_Some}
use Rattle.aw_schema.specs.declared.definition.Def.{Def}
use Rattle.aw_body.specs.declared.change.Change.{Change}
use Rattle.aw_body.specs.declared.change.Seen.{Seen}
use Rattle.aw_body.specs.KeptBodies.{bodies_of}
use Rattle.aw_codec.specs.declared.record.Decoded.{Decoded}
use Rattle.aw_codec.specs.declared.record.Decoded.TheVariants as stored
use Rattle.aw_codec.specs.Records.{IsChange}
use Rattle.mv_core.specs.declared.entry.Entry.{Entry}
use Rattle.mv_core.specs.declared.entry.Entry.TheVariants as entry
use Rattle.mv_core.specs.declared.entry.Reply.{Reply}
use Rattle.mv_core.specs.declared.entry.Reply.TheVariants.{Acquired, Committed, Released, Detached}
use Rattle.mv_core.specs.SharedStep.{shared_step, writes, workspace_after}
use Rattle.mv_core.specs.Workspace.{Workspace, Table, table_of}
use Rattle.aw_store.specs.StoredRecords.{IsStored, AreRecords, are_replayed, are_accepted_after, can_replay, definitions_of, commits_of, stood_by}
use Rattle.aw_store.specs.Stores.{StandFor, record_of}
use Rattle.aw_store.proofs.callers.Commits.{can-write}
use Rattle.aw_store.proofs.callers.Following.{definitions_of-commit, commits_of-commit}
use Rattle.mv_view.specs.Rules.{changes}
use Rattle.mv_view.specs.ViewState.{ViewState}
use Rattle.ses_step.specs.declared.command.Command.{Command}
use Rattle.ses_step.specs.declared.command.Command.TheVariants as command
use Rattle.ses_step.specs.declared.session.Known.{Known as Session}
use Rattle.ses_step.specs.Sessions.{leaving}
use Rattle.script_world.specs.Outcomes.{Outcome}
use Rattle.script_world.proofs.callers.DiskFits.{Recorded}
use Rattle.script_meaning.specs.Fit.{AreDefinable}
use Rattle.script_meaning.specs.Language.{bytes_of, kept_step, store_writing, history_machine}
use Rattle.script_meaning.proofs.Begins.{AskedOf, generations_in}
use Rattle.script_meaning.proofs.CutOff.{cut_off-cases, large-unwritten}
use Rattle.script_meaning.proofs.FittingSessions.{Sound, Fits, Spoken, asked_so, Defined}
use Rattle.script_meaning.proofs.Recording.{are_changes}

pub record Match (records : List Decoded) (definitions : List Def) (history : List (List Change)) : Type 0 where
  pub definitions_are : definitions_of records ≡ Some definitions
  pub commits : commits_of records ≡ history
  pub replayable : can_replay records ≡ true
  pub spellings : AreRecords records

-- the definitions alone, as a record
pub definitions_match : (definitions : List Def) → AreDefinable definitions → Match (stored.Definitions definitions ∷ []) definitions []
definitions_match definitions definable = record {
  definitions_are = refl;
  commits = refl;
  replayable = and_from (are_replayed definitions) (are_accepted_after [] definitions && true) definable.replayed (and_from (are_accepted_after [] definitions) true definable.accepted refl);
  spellings = (definable.stored, tt);
}

-- an entry that writes is a commit with changes, and it is granted
pub record Grants (asked : Entry) (reply : Reply) : Type 0 where
  pub who : ℕ
  pub change : Change
  pub changes : List Change
  pub leave : List ℕ
  pub entry_is : asked ≡ entry.Commit who (change ∷ changes) leave
  pub reply_is : reply ≡ Committed

pub writing-grants : (asked : Entry) (reply : Reply) → writes asked reply ≡ true → Grants asked reply
writing-grants (entry.Commit who (c ∷ changes) leave) Committed writing =
    record { who = who; change = c; changes = changes; leave = leave; entry_is = refl; reply_is = refl }
writing-grants _ _ writing = absurd (true≢false (sym writing))

abbrev pub Stands : List Decoded → List Def → Workspace → Type 0
Stands records d shared = Match records d shared.history

-- a record is made where an entry writes
some-writes : (writing : Bool) (made r : Decoded) → (if writing then Some made else None) ≡ Some r → (writing ≡ true) × (made ≡ r)
some-writes true made r is = (refl, same_Some made r is)
some-writes false made r is = absurd (none-some r is)

none-writes : (writing : Bool) (made : Decoded) → (if writing then Some made else None) ≡ None → writing ≡ false
none-writes true made is = absurd (none-some made (sym is))
none-writes false made is = refl

history-unwritten : (w : Workspace) (asked : Entry) (reply : Reply) → writes asked reply ≡ false → (workspace_after w asked reply).history ≡ w.history
history-unwritten w (entry.Acquire who keep fresh same) (Acquired latest) not_writing = refl
history-unwritten w (entry.Commit who [] leave) Committed not_writing = refl
history-unwritten w (entry.Commit who (c ∷ changes) leave) Committed not_writing = absurd (true≢false not_writing)
history-unwritten w (entry.Release who listed) Released not_writing = refl
history-unwritten w (entry.Detach who) Detached not_writing = refl
history-unwritten w _ _ not_writing = refl

AreRecords-push : (records : List Decoded) (last : Decoded) → AreRecords records → IsStored last → AreRecords (records ++ last ∷ [])
AreRecords-push [] last are is = (is, tt)
AreRecords-push (first ∷ records) last are is = (are.0, AreRecords-push records last are.1 is)

-- the changes of a commit that a session asks are those of its view
asked-commit : (s : Session) (own : Command) (who : ℕ) (commit : List Change) (leave : List ℕ) → AskedOf s own (entry.Commit who commit leave) → (P : List Change → Type 0) → ((view : ViewState) → s.view ≡ Some view → P (changes view)) → P commit
asked-commit s command.Commit who commit leave known P holds = subst P (same s.who (changes known.view) (leaving known.view) known.is) (holds known.view known.attached)
  where
    same : (by : ℕ) (others : List Change) (those : List ℕ) → entry.Commit who commit leave ≡ entry.Commit by others those → others ≡ commit
    same by others those is = cc
asked-commit s (command.Attach mode) who commit leave known P holds = never s.who known.is
  where
    never : (by : ℕ) → entry.Commit who commit leave ≡ entry.Attach by → P commit
    never by is = cc
asked-commit s command.Detach who commit leave known P holds = never s.who known.is
  where
    never : (by : ℕ) → entry.Commit who commit leave ≡ entry.Detach by → P commit
    never by is = cc
asked-commit s (command.Acquire keep fresh same) who commit leave known P holds = never s.who (generations_in s keep) (generations_in s same) known.is
  where
    never : (by : ℕ) (one other : List Seen) → entry.Commit who commit leave ≡ entry.Acquire by one fresh other → P commit
    never by one other is = cc
asked-commit s (command.Resync objects) who commit leave known P holds = never s.who known.is
  where
    never : (by : ℕ) → entry.Commit who commit leave ≡ entry.Resync by objects → P commit
    never by is = cc
asked-commit s (command.Release objects) who commit leave known P holds = never s.who (known.object ∷ known.unstaged) known.is
  where
    never : (by : ℕ) (those : List ℕ) → entry.Commit who commit leave ≡ entry.Release by those → P commit
    never by those is = cc
asked-commit s (command.Revert objects) who commit leave known P holds = absurd known
asked-commit s (command.Update objects) who commit leave known P holds = absurd known
asked-commit s (command.Write object cells) who commit leave known P holds = absurd known
asked-commit s (command.Maintain object values) who commit leave known P holds = absurd known
asked-commit s (command.Show cell) who commit leave known P holds = absurd known

module _ (those : List Decoded) (d : List Def) (shared : Workspace) (count who : ℕ) (s : Session) (sound : Sound d shared count) (fits : Fits d shared who s) (match : Stands those d shared) where
  definable : AreDefinable shared.definitions
  definable = subst AreDefinable (sym sound.definitions_are) sound.definable

  -- the store's records stand for the objects as they stand
  abbrev table : Table
  table = table_of (bodies_of shared.definitions) shared

  same_table : table ≡ stood_by those shared.owners
  same_table =
      ap₂ (λ (definitions : List Def) (history : List (List Change)). let w : Workspace = record { definitions = definitions; history = history; owners = shared.owners } in table_of (bodies_of definitions) w) (sound.definitions_are ∙ sym (ap (λ (found : Option (List Def)). unwrap_or found []) match.definitions_are)) (sym match.commits)

  stand : StandFor those (Some d) table
  stand = record { replayable = match.replayable; definitions_are = sym match.definitions_are; owners = shared.owners; table_is = same_table }

  stored_commit : (own : Command) (commit : List Change) (by : ℕ) (leave : List ℕ) → AskedOf s own (entry.Commit by commit leave) → writes (entry.Commit by commit leave) (shared_step (bodies_of shared.definitions) shared (entry.Commit by commit leave)).0 ≡ true → bytes_of (stored.Commit commit) ≤ 67108864 → Match (those ++ stored.Commit commit ∷ []) d (shared.history ++ commit ∷ [])
  stored_commit own commit by leave known granted short =
      let can = can-write those (Some d) table stand by commit leave granted in
      let all : All IsChange commit = asked-commit s own by commit leave known (λ made. bytes_of (stored.Commit made) ≤ 67108864 → All IsChange made) (λ view attached few. are_changes shared who view (fits.session.view view attached) definable few) short in
      record {
        definitions_are = definitions_of-commit those commit ∙ match.definitions_are;
        commits = commits_of-commit those commit ∙ ap (λ (history : List (List Change)). history ++ commit ∷ []) match.commits;
        replayable = can.replayable;
        spellings = AreRecords-push those (stored.Commit commit) match.spellings (record {
          spelling = (can.some, omega (arith, can.committable.few), can.committable.rising, all);
          short = short;
        });
      }

  granted_match : (own : Command) (asked : Entry) → AskedOf s own asked → writes asked (shared_step (bodies_of shared.definitions) shared asked).0 ≡ true → bytes_of (record_of asked) ≤ 67108864 → Match (those ++ record_of asked ∷ []) d (shared_step (bodies_of shared.definitions) shared asked).1.history
  granted_match own asked known granted short =
      let step : Entry → Reply = λ asked. (shared_step (bodies_of shared.definitions) shared asked).0 in
      let grants = writing-grants asked (step asked) granted in
      let commit = grants.change ∷ grants.changes in
      let P : Entry → Type 0 = λ asked. AskedOf s own asked → writes asked (step asked) ≡ true → bytes_of (record_of asked) ≤ 67108864 → Match (those ++ record_of asked ∷ []) d (workspace_after shared asked Committed).history in
      subst (λ (reply : Reply). Match (those ++ record_of asked ∷ []) d (workspace_after shared asked reply).history) (sym grants.reply_is)
      (subst P (sym grants.entry_is) (λ known granted short. stored_commit own commit grants.who grants.leave known granted short) known granted short)

  abbrev Written : Entry → Reply × Workspace → Type 0
  Written asked r = writes asked r.0 ≡ true → Match (those ++ record_of asked ∷ []) d r.1.history

  abbrev Passed : Entry → Reply × Workspace → Type 0
  Passed asked r = writes asked r.0 ≡ false → Match those d r.1.history

  written : (own : Command) (asked : Entry) → AskedOf s own asked → Written asked (kept_step shared asked)
  written own asked known =
      let r = shared_step (bodies_of shared.definitions) shared asked in
      cut_off-cases shared asked r (Written asked)
      (λ bytes granted long writing. absurd (true≢false (sym writing ∙ large-unwritten asked bytes)))
      (λ uncut writing. granted_match own asked known writing (ltb-false 67108864 (bytes_of (record_of asked)) (sym (ap (λ (b : Bool). b && nat_lt 67108864 (bytes_of (record_of asked))) writing) ∙ uncut)))

  passed : (asked : Entry) → Passed asked (kept_step shared asked)
  passed asked =
      let r = shared_step (bodies_of shared.definitions) shared asked in
      cut_off-cases shared asked r (Passed asked) (λ bytes granted long unwritten. match)
      (λ uncut unwritten. subst (λ (history : List (List Change)). Match those d history) (sym (history-unwritten shared asked r.0 unwritten)) match)

pub commits_recorded : (next : ℕ → Outcome) (records : List Decoded) → Recorded store_writing history_machine next Spoken (Defined records) Sound Fits records Stands
commits_recorded next records = record {
  opens = λ d it. subst (λ (before : List Decoded). Match (before ++ store_writing.of_definitions d ∷ []) d []) (sym it.1) (definitions_match d it.0);
  writes = λ those d shared count who s statement it waiting r spoken few sound fits asks is match.
      let found = some-writes (writes it (kept_step shared it).0) (record_of it) r is in
      subst (λ (last : Decoded). Match (those ++ last ∷ []) d (kept_step shared it).1.history) found.1 (let asked = asked_so d s statement it waiting asks in written those d shared count who s sound fits match asked.own it asked.asked found.0);
  passes = λ those d shared count who s statement it waiting spoken few sound fits asks is match.
      passed those d shared count who s sound fits match it (none-writes (writes it (kept_step shared it).0) (record_of it) is);
}
