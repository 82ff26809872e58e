-- What the listeners of a feed were told while a store went on: over several calls, and by one act.
use Rattle.std.specs.Prelude.{◌≡◌, ◌≤◌, ◌+◌, ◌++◌, ℕ, suc, min, Bool, true, false, List, [], ◌∷◌, length, fold, refl}
use Rattle.std.proofs.Common.{◌∙◌, ap, sym, subst, arith, append_assoc, append-nil, length-append}
use Rattle.std.proofs.lemmas.Bool.{false≢true}
use Rattle.std.proofs.lemmas.List.{append_cancel_left}
use Rattle.aw_codec.specs.declared.record.Decoded.{Decoded}
use Rattle.aw_body.specs.declared.change.Change.{Change}
use Rattle.aw_codec.specs.declared.record.Decoded.TheVariants as recorded
use Rattle.aw_codec.specs.Records.{spelled, FitsPayload}
use Rattle.mv_core.specs.declared.entry.Entry.{Entry}
use Rattle.mv_core.specs.declared.entry.Entry.TheVariants.{Attach, Acquire, Resync, Commit, Release, Detach}
use Rattle.mv_core.specs.declared.entry.Reply.{Reply}
use Rattle.mv_core.specs.declared.entry.Reply.TheVariants.{Attached, Acquired, Resynced, Committed, Released, Detached, Owned, Newer, Stranger, Worn, TooLarge, Fault, NoMemory}
use Rattle.mv_core.specs.SharedStep.{writes}
use Rattle.aw_store.specs.StoredRecords.{last_spelling}
use Rattle.aw_store.specs.Stores.{StoreState, Answers, Acts, Writes}
use Rattle.aw_feed.specs.Feed.{Listening, HaveHeard}
use Rattle.aw_feed.proofs.CallerLemmas.{heard_nothing, heard_both}
use Rattle.script_world.specs.Outcomes.{Attempt, done_records, settled_records}
use Rattle.script_play.specs.Runs.{notes_behind}
use Rattle.script_play.specs.inside.Telling.{HasTold, TellsLast, TellsWhere}

notes_behind-append : (others : ℕ) (records more : List Decoded) → notes_behind others (records ++ more) ≡ notes_behind others records ++ notes_behind (others + length records) more
notes_behind-append others [] more = ap (λ (count : ℕ). notes_behind count more) (omega arith)
notes_behind-append others (r ∷ records) more =
    let count : suc others + length records ≡ others + length (r ∷ records) = omega arith in
    ap (λ notes. (min (suc others) 18446744073709551615, spelled r) ∷ notes)
    (notes_behind-append (suc others) records more ∙ ap (λ (count : ℕ). notes_behind (suc others) records ++ notes_behind count more) count)

-- the last of these records
last_is : (records : List Decoded) (r : Decoded) → last_spelling (records ++ r ∷ []) ≡ spelled r
last_is [] r = refl
last_is (first ∷ records) r = behind records (spelled first)
  where
    behind : (records : List Decoded) (before : List ℕ) → fold (λ (bytes : List ℕ) (r : Decoded). spelled r) before (records ++ r ∷ []) ≡ spelled r
    behind [] before = refl
    behind (next ∷ records) before = behind records (spelled next)

is_some : (r : Decoded) → 1 ≤ length (spelled r)
is_some (recorded.Definitions definitions) = omega arith
is_some (recorded.Commit changes) = omega arith

-- what a disk fault, want of memory and too long a record have written
commit_silent_fault : (who : ℕ) (changes : List Change) (leave : List ℕ) → writes (Commit who changes leave) Fault ≡ false
commit_silent_fault who [] leave = refl
commit_silent_fault who (change ∷ changes) leave = refl

commit_silent_memory : (who : ℕ) (changes : List Change) (leave : List ℕ) → writes (Commit who changes leave) NoMemory ≡ false
commit_silent_memory who [] leave = refl
commit_silent_memory who (change ∷ changes) leave = refl

commit_silent_large : (who : ℕ) (changes : List Change) (leave : List ℕ) (bytes : ℕ) → writes (Commit who changes leave) (TooLarge bytes) ≡ false
commit_silent_large who [] leave bytes = refl
commit_silent_large who (change ∷ changes) leave bytes = refl

-- what a COMMIT doesn't write for this reply, no entry does
silent : (entry : Entry) (reply : Reply) → ((who : ℕ) (changes : List Change) (leave : List ℕ) → writes (Commit who changes leave) reply ≡ false) → writes entry reply ≡ false
silent (Attach who) reply commit = refl
silent (Acquire who keep fresh same) reply commit = refl
silent (Resync who objects) reply commit = refl
silent (Commit who changes leave) reply commit = commit who changes leave
silent (Release who objects) reply commit = refl
silent (Detach who) reply commit = refl

module _ {D : Type 0} where
  -- a record that was just written is a payload
  pub payload_of : {r : Decoded} {old new : StoreState D} → Writes r old new → FitsPayload (last_spelling new.records)
  payload_of {r} {old} {new} wrote = subst FitsPayload (sym (ap last_spelling wrote.records ∙ last_is old.records r)) (is_some r, wrote.short)

  pub told_nothing : (listeners : List Listening) (old new : StoreState D) → new.records ≡ old.records → HasTold listeners listeners old new
  told_nothing listeners old new same = record { more = []; settled = same ∙ sym (append-nil old.records); heard = heard_nothing listeners }

  pub told_same : (listeners : List Listening) (old new : StoreState D) → new ≡ old → HasTold listeners listeners old new
  told_same listeners old new same = told_nothing listeners old new (ap (λ (store : StoreState D). store.records) same)

  pub told_none : {listeners : List Listening} {store : StoreState D} → HasTold listeners listeners store store
  told_none {listeners} {store} = told_nothing listeners store store refl

  pub told_as : {before now : List Listening} (first store last other : StoreState D) → first ≡ store → other ≡ last → HasTold before now first last → HasTold before now store other
  told_as {before} {now} first store last other is same told = subst (λ (old : StoreState D). HasTold before now old other) is (subst (HasTold before now first) (sym same) told)

  -- the listeners were told the record that was just written
  pub told_written : {r : Decoded} (before now : List Listening) (old new : StoreState D) → Writes r old new → TellsLast new before now → HasTold before now old new
  told_written {r} before now old new wrote heard =
      let count : length new.records ≡ suc (length old.records) = ap length wrote.records ∙ length-append old.records (r ∷ []) ∙ omega arith in
      record {
        more = r ∷ [];
        settled = wrote.records;
        heard = subst (λ (bytes : List ℕ). HaveHeard ((min (suc (length old.records)) 18446744073709551615, bytes) ∷ []) before now) (ap last_spelling wrote.records ∙ last_is old.records r)
            (subst (λ (number : ℕ). HaveHeard ((min number 18446744073709551615, last_spelling new.records) ∷ []) before now) count heard);
      }

  pub told_then : {before between now : List Listening} {old mid new : StoreState D} → HasTold before between old mid → HasTold between now mid new → HasTold before now old new
  told_then {before} {between} {now} {old} {mid} {new} one other =
      let count : length mid.records ≡ length old.records + length one.more = ap length one.settled ∙ length-append old.records one.more in
      record {
        more = one.more ++ other.more;
        settled = other.settled ∙ ap (λ (records : List Decoded). records ++ other.more) one.settled ∙ append_assoc old.records one.more other.more;
        heard = subst (λ notes. HaveHeard notes before now) (sym (notes_behind-append (length old.records) one.more other.more))
            (heard_both one.heard (subst (λ (others : ℕ). HaveHeard (notes_behind others other.more) between now) count other.heard));
      }

  -- ---- an act

  module _ (entry : Entry) (old new : StoreState D) where
    answered_payload : (reply : Reply) → Answers entry reply old new → writes entry reply ≡ true → FitsPayload (last_spelling new.records)
    answered_payload reply answers is = payload_of (answers.written is)

    -- a record that an act wrote is a payload
    pub act_payload : (reply : Reply) → Acts entry reply old new → writes entry reply ≡ true → FitsPayload (last_spelling new.records)
    act_payload (Attached fresh) acts = answered_payload (Attached fresh) acts
    act_payload (Acquired fresh) acts = answered_payload (Acquired fresh) acts
    act_payload (Resynced fresh) acts = answered_payload (Resynced fresh) acts
    act_payload Committed acts = answered_payload Committed acts
    act_payload Released acts = answered_payload Released acts
    act_payload Detached acts = answered_payload Detached acts
    act_payload (Owned object by) acts = answered_payload (Owned object by) acts
    act_payload (Newer object number) acts = answered_payload (Newer object number) acts
    act_payload (Stranger object) acts = answered_payload (Stranger object) acts
    act_payload (Worn object) acts = answered_payload (Worn object) acts
    act_payload (TooLarge bytes) acts = λ is. absurd (false≢true (sym (silent entry (TooLarge bytes) (λ who changes leave. commit_silent_large who changes leave bytes)) ∙ is))
    act_payload Fault acts = λ is. absurd (false≢true (sym (silent entry Fault commit_silent_fault) ∙ is))
    act_payload NoMemory acts = λ is. absurd (false≢true (sym (silent entry NoMemory commit_silent_memory) ∙ is))

    module _ (before now : List Listening) where
      unwritten_told : (reply : Reply) → writes entry reply ≡ false → new.records ≡ old.records → TellsWhere (writes entry reply) new before now → HasTold before now old new
      unwritten_told reply is same told = subst (λ (now : List Listening). HasTold before now old new) (sym (subst (λ (wrote : Bool). TellsWhere wrote new before now) is told)) (told_nothing before old new same)

      answered_told : (reply : Reply) → Answers entry reply old new → TellsWhere (writes entry reply) new before now → HasTold before now old new
      answered_told reply answers told = by (writes entry reply) refl
        where
          by : (wrote : Bool) → writes entry reply ≡ wrote → HasTold before now old new
          by true is = told_written before now old new (answers.written is) (subst (λ (wrote : Bool). TellsWhere wrote new before now) is told)
          by false is = unwritten_told reply is (ap (λ (store : StoreState D). store.records) (answers.unwritten is)) told

      -- the listeners were told the record of an act, where it wrote one
      pub act_told : (reply : Reply) → Acts entry reply old new → TellsWhere (writes entry reply) new before now → HasTold before now old new
      act_told (Attached fresh) acts = answered_told (Attached fresh) acts
      act_told (Acquired fresh) acts = answered_told (Acquired fresh) acts
      act_told (Resynced fresh) acts = answered_told (Resynced fresh) acts
      act_told Committed acts = answered_told Committed acts
      act_told Released acts = answered_told Released acts
      act_told Detached acts = answered_told Detached acts
      act_told (Owned object by) acts = answered_told (Owned object by) acts
      act_told (Newer object number) acts = answered_told (Newer object number) acts
      act_told (Stranger object) acts = answered_told (Stranger object) acts
      act_told (Worn object) acts = answered_told (Worn object) acts
      act_told (TooLarge bytes) acts =
          unwritten_told (TooLarge bytes) (silent entry (TooLarge bytes) (λ who changes leave. commit_silent_large who changes leave bytes)) (ap (λ (store : StoreState D). store.records) acts.same)
      act_told Fault acts = unwritten_told Fault (silent entry Fault commit_silent_fault) acts.doubts.records
      act_told NoMemory acts = unwritten_told NoMemory (silent entry NoMemory commit_silent_memory) (ap (λ (store : StoreState D). store.records) acts.1)

  -- ---- a run

  -- the records that were told are those of the attempts that were done
  pub told_done : (before now : List Listening) (old new : StoreState D) (made : List (Attempt Decoded)) → new.records ≡ settled_records old.records made → HasTold before now old new → HaveHeard (notes_behind (length old.records) (done_records made)) before now
  told_done before now old new made settled told =
      subst (λ (records : List Decoded). HaveHeard (notes_behind (length old.records) records) before now)
      (append_cancel_left old.records told.more (done_records made) (sym told.settled ∙ settled)) told.heard
