-- What an act answers, and that it is a legal step for all commits and owners for which the objects stand.
use Rattle.std.proofs.Common.{List, Option, Some, ℕ, ◌≡◌, ◌⊎◌, ◌<◌, Bool, true, false, inl, inr, refl, ap, sym, subst, ◌∙◌, length, min, arith, IsTrue}
use Rattle.aw_body.specs.declared.body.Body.{Body}
use Rattle.aw_body.specs.declared.change.Change.{Change}
use Rattle.aw_body.specs.Generations.{Bodies}
use Rattle.aw_body.specs.KeptBodies.{bodies_from}
use Rattle.aw_codec.specs.Records.{spelled}
use Rattle.mv_core.specs.declared.entry.Entry.{Entry}
use Rattle.mv_core.specs.declared.entry.Reply.{Reply}
use Rattle.mv_core.specs.declared.entry.Reply.TheVariants.{Attached, Acquired, Resynced, Committed, Released, Detached, Owned, Newer, Stranger, Worn, TooLarge, Fault, NoMemory}
use Rattle.mv_core.specs.declared.object.Object.{Object}
use Rattle.mv_core.specs.Effects.{objects_after}
use Rattle.mv_core.specs.Replies.{reply_of}
use Rattle.mv_core.specs.SharedStep.{writes, takes_memory, table_after, shared_step, IsLegal, IsAnswered}
use Rattle.mv_core.specs.Workspace.{Workspace, Table, table_of}
use Rattle.mv_core.proofs.CallerLemmas.{IsLegal-from_answered}
use Rattle.aw_store.specs.Stores.{StoreState, Answers, Faults, IsTooLong, IsGranted, Doubts, Writes, Acts, record_of, AsksFor, IsLegalOnDisk}
use Rattle.aw_store.proofs.callers.SharedReplies.{IsPlain, plain-reply}

abbrev pub with_objects : Table → List (Option (Object Body)) → Table
with_objects table objects = record table { objects = objects }

module _ {D : Type 0} (entry : Entry) (old new : StoreState D) where
  acts-plain : (reply : Reply) → IsPlain reply → Answers entry reply old new → Acts entry reply old new
  acts-plain NoMemory plain answers = absurd plain
  acts-plain Fault plain answers = absurd plain
  acts-plain (TooLarge bytes) plain answers = absurd plain
  acts-plain (Attached latest) plain answers = answers
  acts-plain (Acquired latest) plain answers = answers
  acts-plain (Resynced latest) plain answers = answers
  acts-plain Committed plain answers = answers
  acts-plain Released plain answers = answers
  acts-plain Detached plain answers = answers
  acts-plain (Owned object by) plain answers = answers
  acts-plain (Newer object number) plain answers = answers
  acts-plain (Stranger object) plain answers = answers
  acts-plain (Worn object) plain answers = answers

  pub acts : (reply : Reply) → Answers entry reply old new → Acts entry reply old new
  acts reply answers = acts-plain reply (subst IsPlain (sym answers.reply_is) (plain-reply old.table.definitions old.table.objects entry)) answers

  -- an entry that writes nothing, answered by the shared state alone
  pub acts-shared : (reply : Reply) → ((one : Reply) → writes entry one ≡ false) → IsAnswered old.table entry reply new.table → new ≡ record old { table = new.table } → Acts entry reply old new
  acts-shared reply silent (inl refused) same =
      let still : new ≡ old = same ∙ ap (λ (table : Table). let store : StoreState D = record old { table = table } in store) refused.2 in
      subst (λ (one : Reply). Acts entry one old new) (sym refused.0) (refused.1, still)
  acts-shared reply silent (inr step) same =
      acts reply (record {
        reply_is = step.0;
        table = step.1 ∙ ap (table_after old.table entry) (sym step.0);
        written = λ wrote. absurd (both (writes entry reply) wrote (silent reply));
        unwritten = λ unwritten. same;
      })
    where
      both : (b : Bool) → b ≡ true → b ≡ false → ⊥
      both b holds fails = cc

  -- want of memory, where a commit asked to write
  pub acts-no_memory : (changes : List Change) → AsksFor entry (Some changes) → new ≡ old → Acts entry NoMemory old new
  acts-no_memory changes asked same = (subst (λ (one : Entry). IsTrue (takes_memory one)) (sym asked.2) refl, same)

  -- an entry that writes nothing meets no fault
  pub never-fault : (reply : Reply) → ((one : Reply) → writes entry one ≡ false) → Acts entry reply old new → reply ≡ Fault → ⊥
  never-fault reply silent acted is =
      let faults : Faults entry old new = subst (λ (one : Reply). Acts entry one old new) is acted in
      both (writes entry (reply_of old.table.definitions old.table.objects entry)) faults.granted (silent (reply_of old.table.definitions old.table.objects entry))
    where
      both : (b : Bool) → b ≡ true → b ≡ false → ⊥
      both b holds fails = cc

  -- a prepared entry whose record was written
  pub acts-written : (reply : Reply) (objects : List (Option (Object Body))) → reply ≡ reply_of old.table.definitions old.table.objects entry → objects ≡ objects_after old.table.objects entry reply → writes entry reply ≡ true
      → new.table ≡ with_objects old.table objects → Writes (record_of entry) old new → Acts entry reply old new
  acts-written reply objects is leaves granted table wrote =
      acts reply (record {
        reply_is = is;
        table = table ∙ ap (with_objects old.table) leaves;
        written = λ again. wrote;
        unwritten = λ silent. absurd (both (writes entry reply) granted silent);
      })
    where
      both : (b : Bool) → b ≡ true → b ≡ false → ⊥
      both b holds fails = cc

  -- one whose record the disk refused, and one whose record is too long
  pub acts-fault : (reply : Reply) → reply ≡ reply_of old.table.definitions old.table.objects entry → writes entry reply ≡ true → Doubts (record_of entry) old new → Acts entry Fault old new
  acts-fault reply is granted doubts = record { granted = ap (writes entry) (sym is) ∙ granted; doubts = doubts }

  pub acts-too_large : (reply : Reply) (bytes : ℕ) → reply ≡ reply_of old.table.definitions old.table.objects entry → writes entry reply ≡ true → IsTooLong (record_of entry) bytes → new ≡ old → Acts entry (TooLarge bytes) old new
  acts-too_large reply bytes is granted long same = record { granted = ap (writes entry) (sym is) ∙ granted; long = long; same = same }

  written : (reply : Reply) → Answers entry reply old new → IsGranted entry old.table → 67108864 < length (spelled (record_of entry)) → (reply ≡ NoMemory) ⊎ (reply ≡ TooLarge (min (length (spelled (record_of entry))) 18446744073709551615))
  written reply answers granted long =
      let wrote = answers.written (ap (writes entry) answers.reply_is ∙ granted) in
      absurd (omega (arith, wrote.short, long))

  -- a record that is too long is never written
  pub cut_off : (reply : Reply) → Acts entry reply old new → IsGranted entry old.table → 67108864 < length (spelled (record_of entry)) → (reply ≡ NoMemory) ⊎ (reply ≡ TooLarge (min (length (spelled (record_of entry))) 18446744073709551615))
  cut_off NoMemory acted granted long = inl refl
  cut_off Fault acted granted long = absurd (omega (arith, acted.doubts.short, long))
  cut_off (TooLarge bytes) acted granted long = inr (ap TooLarge acted.long.bytes_are)
  cut_off (Attached latest) acted granted long = written (Attached latest) acted granted long
  cut_off (Acquired latest) acted granted long = written (Acquired latest) acted granted long
  cut_off (Resynced latest) acted granted long = written (Resynced latest) acted granted long
  cut_off Committed acted granted long = written Committed acted granted long
  cut_off Released acted granted long = written Released acted granted long
  cut_off Detached acted granted long = written Detached acted granted long
  cut_off (Owned object by) acted granted long = written (Owned object by) acted granted long
  cut_off (Newer object number) acted granted long = written (Newer object number) acted granted long
  cut_off (Stranger object) acted granted long = written (Stranger object) acted granted long
  cut_off (Worn object) acted granted long = written (Worn object) acted granted long

module _ {D : Type 0} (w : Workspace) (numbers : ℕ → ℕ) (firsts : ℕ → Body) (entry : Entry) (old new : StoreState D) (stands : old.table ≡ table_of (bodies_from w.definitions numbers firsts) w) where
  abbrev bodies : Bodies Body Change
  bodies = bodies_from w.definitions numbers firsts

  answered : (reply : Reply) → Answers entry reply old new → IsLegal bodies w entry reply new.table
  answered reply answers =
      let step : IsAnswered old.table entry reply new.table = inr (answers.reply_is, answers.table ∙ ap (table_after old.table entry) answers.reply_is) in
      IsLegal-from_answered w.definitions numbers firsts w entry reply old.table new.table stands step

  granted : IsGranted entry old.table → writes entry (shared_step bodies w entry).0 ≡ true
  granted is = subst (λ (table : Table). IsGranted entry table) stands is

  pub legal : (reply : Reply) → Acts entry reply old new → IsLegalOnDisk bodies w entry reply new.table
  legal NoMemory acted = inl (refl, acted.0, ap (λ (store : StoreState D). store.table) acted.1 ∙ stands)
  legal Fault acted = (granted acted.granted, acted.doubts.short, acted.doubts.table ∙ stands)
  legal (TooLarge bytes) acted = (granted acted.granted, acted.long, ap (λ (store : StoreState D). store.table) acted.same ∙ stands)
  legal (Attached latest) answers = answered (Attached latest) answers
  legal (Acquired latest) answers = answered (Acquired latest) answers
  legal (Resynced latest) answers = answered (Resynced latest) answers
  legal Committed answers = answered Committed answers
  legal Released answers = answered Released answers
  legal Detached answers = answered Detached answers
  legal (Owned object by) answers = answered (Owned object by) answers
  legal (Newer object number) answers = answered (Newer object number) answers
  legal (Stranger object) answers = answered (Stranger object) answers
  legal (Worn object) answers = answered (Worn object) answers
