use Rattle.std.proofs.Common.{◌≡◌, ◌∙◌, sym, ap, true, false, inl, refl, Err}
use Rattle.aw_codec.specs.declared.record.Decoded.TheVariants.{Commit}
use Rattle.aw_journal.specs.Passed.{Passed-none}
use Rattle.mv_core.specs.SharedStep.{writes}
use Rattle.aw_store.specs.inside.PayloadRecords.{record_from}
use Rattle.aw_store.specs.Stores.{record_of}
use Rattle.aw_store.proofs.callers.Commits.{StandFor-prepared}
use Rattle.aw_store.proofs.Steps.{acts-no_memory}
use Rattle.aw_store.proofs.Writing.{spelled-as, commit-can, commit-next, commit-stands, commit-written, commit-faulted, commit-too_large}
use Rattle.aw_store.proofs.store.Store.commit.Goals as goal

pub returns-in-Err-clause-acts : goal.returns-in-Err-clause-acts
returns-in-Err-clause-acts g c =
    acts-no_memory c.args.entry.now c.args.self.now c.args.self.now c.args.changes.now c.requires.asked refl

pub returns-in-Err-clause-moments : goal.returns-in-Err-clause-moments
returns-in-Err-clause-moments g c = Passed-none (λ image left. inl (c.requires.images image left))

pub invariant_of-self : goal.invariant_of-self
invariant_of-self g c =
    let store = c.self.inside in
    let ready = c.in-Ok.ready in
    let silent : writes c.args.entry.now ready.reply ≡ false = sym c.in-Ok.ensures.writes ∙ sym c.writes.ensures ∙ c.if-not-writes.true in
    rw c.settle.ensures.table (StandFor-prepared store.log.records store.catalogue store.shared c.self.invariant c.args.entry.now ready.reply _ c.in-Ok.ensures.leaves silent)

pub encode_commit-requires : goal.encode_commit-requires
encode_commit-requires g c =
    let store = c.self.inside in
    let ready = c.in-Ok.ready in
    let granted : writes c.args.entry.now ready.reply ≡ true = sym c.in-Ok.ensures.writes ∙ sym c.writes.ensures ∙ c.if-not-writes.false in
    (commit-can store.log store.log store.shared c.args.entry.now ready.reply c.args.changes.now c.requires.asked c.in-Ok.ensures.reply store.catalogue c.self.invariant granted).committable

pub returns-in-Err-TooLarge-clause-acts : goal.returns-in-Err-TooLarge-clause-acts
returns-in-Err-TooLarge-clause-acts g c =
    let store = c.self.inside in
    let ready = c.in-Ok.ready in
    let bytes = c.in-Err-TooLarge.bytes in
    let granted : writes c.args.entry.now ready.reply ≡ true = sym c.in-Ok.ensures.writes ∙ sym c.writes.ensures ∙ c.if-not-writes.false in
    let long = (c.encode_commit.ensures.too_large bytes).0 (c.in-Err-TooLarge.is ∙ ap Err c.in-Err-TooLarge.field-0-is) in
    rw (← c.self.view_is) (commit-too_large store.log store.log store.shared c.args.entry.now ready.reply c.args.changes.now c.requires.asked c.in-Ok.ensures.reply bytes granted long)

pub write-requires-clause-next : goal.write-requires-clause-next
write-requires-clause-next g c =
    let store = c.self.inside in
    let ready = c.in-Ok.ready in
    let encoded = c.in-Ok-encode_commit in
    let granted : writes c.args.entry.now ready.reply ≡ true = sym c.in-Ok.ensures.writes ∙ sym c.writes.ensures ∙ c.if-not-writes.false in
    let spelling = spelled-as (Commit c.args.changes.now) encoded.bytes encoded.ensures.record encoded.ensures.value encoded.ensures.payload in
    commit-next store.log store.log store.shared c.args.entry.now ready.reply c.args.changes.now c.requires.asked c.in-Ok.ensures.reply store.catalogue c.self.invariant granted encoded.bytes spelling

pub invariant_of-self-in-Ok-write : goal.invariant_of-self-in-Ok-write
invariant_of-self-in-Ok-write g c =
    let store = c.self.inside in
    let ready = c.in-Ok.ready in
    let encoded = c.in-Ok-encode_commit in
    let granted : writes c.args.entry.now ready.reply ≡ true = sym c.in-Ok.ensures.writes ∙ sym c.writes.ensures ∙ c.if-not-writes.false in
    let spelling = spelled-as (Commit c.args.changes.now) encoded.bytes encoded.ensures.record encoded.ensures.value encoded.ensures.payload in
    commit-stands store.log c.write.new.self store.shared c.args.entry.now ready.reply c.args.changes.now c.requires.asked c.in-Ok.ensures.reply store.catalogue c.self.invariant granted encoded.bytes _ c.settle-in-Ok-write.new.self spelling c.in-Ok.ensures.leaves c.settle-in-Ok-write.ensures.table c.in-Ok-write.ensures.ok

pub returns-in-Ok-write-clause-acts : goal.returns-in-Ok-write-clause-acts
returns-in-Ok-write-clause-acts g c =
    let store = c.self.inside in
    let ready = c.in-Ok.ready in
    let encoded = c.in-Ok-encode_commit in
    let settle = c.settle-in-Ok-write in
    let granted : writes c.args.entry.now ready.reply ≡ true = sym c.in-Ok.ensures.writes ∙ sym c.writes.ensures ∙ c.if-not-writes.false in
    let spelling = spelled-as (Commit c.args.changes.now) encoded.bytes encoded.ensures.record encoded.ensures.value encoded.ensures.payload in
    rw (← c.self.view_is) (commit-written store.log c.write.new.self store.shared c.args.entry.now ready.reply c.args.changes.now c.requires.asked c.in-Ok.ensures.reply encoded.bytes _ settle.new.self settle.result granted spelling c.in-Ok.ensures.leaves settle.ensures.reply settle.ensures.table c.in-Ok-write.ensures.ok)

pub returns-in-Ok-write-clause-moments : goal.returns-in-Ok-write-clause-moments
returns-in-Ok-write-clause-moments g c =
    let encoded = c.in-Ok-encode_commit in
    let spelling = spelled-as (Commit c.args.changes.now) encoded.bytes encoded.ensures.record encoded.ensures.value encoded.ensures.payload in
    let is : record_from encoded.bytes ≡ record_of c.args.entry.now = spelling.is ∙ sym (ap record_of c.requires.asked.2) in
    rw (← c.self.view_is, ← is) c.write.ensures.moments

pub returns-in-Err-DiskFault-clause-acts : goal.returns-in-Err-DiskFault-clause-acts
returns-in-Err-DiskFault-clause-acts g c =
    let store = c.self.inside in
    let ready = c.in-Ok.ready in
    let encoded = c.in-Ok-encode_commit in
    let granted : writes c.args.entry.now ready.reply ≡ true = sym c.in-Ok.ensures.writes ∙ sym c.writes.ensures ∙ c.if-not-writes.false in
    let spelling = spelled-as (Commit c.args.changes.now) encoded.bytes encoded.ensures.record encoded.ensures.value encoded.ensures.payload in
    let fault = c.write.ensures.fault (c.in-Err-DiskFault.is ∙ ap Err c.in-Err-DiskFault.field-0-is) in
    rw (← c.self.view_is) (commit-faulted store.log c.write.new.self store.shared c.args.entry.now ready.reply c.args.changes.now c.requires.asked c.in-Ok.ensures.reply encoded.bytes granted spelling fault)

pub returns-in-Err-DiskFault-clause-moments : goal.returns-in-Err-DiskFault-clause-moments
returns-in-Err-DiskFault-clause-moments g c =
    let encoded = c.in-Ok-encode_commit in
    let spelling = spelled-as (Commit c.args.changes.now) encoded.bytes encoded.ensures.record encoded.ensures.value encoded.ensures.payload in
    let is : record_from encoded.bytes ≡ record_of c.args.entry.now = spelling.is ∙ sym (ap record_of c.requires.asked.2) in
    rw (← c.self.view_is, ← is) c.write.ensures.moments
