use Rattle.std.proofs.Common.{◌≡◌, ◌∙◌, Err, ap, false, inl, sym}
use Rattle.std.specs.Option.{is_some}
use Rattle.aw_codec.specs.declared.record.Decoded.TheVariants.{Definitions}
use Rattle.aw_journal.specs.Passed.{Passed-none}
use Rattle.aw_store.proofs.callers.Commits.{can-define, none-defined-yet}
use Rattle.aw_store.proofs.Writing.{spelled-as, next-spelled, Writes-written, Doubts-faulted, definitions-stand}
use Rattle.aw_store.proofs.store.Store.put_definitions.Goals as goal

pub returns-then-is_some-clause-moments : goal.returns-then-is_some-clause-moments
returns-then-is_some-clause-moments g c = Passed-none (λ image left. inl (c.requires.images image left))

pub returns-in-Err-clause-moments : goal.returns-in-Err-clause-moments
returns-in-Err-clause-moments g c = Passed-none (λ image left. inl (c.requires.images image left))

pub write-requires-clause-next : goal.write-requires-clause-next
write-requires-clause-next g c =
    let store = c.self.inside in
    let definitions = c.args.catalogue in
    let none : is_some store.catalogue ≡ false = sym c.is_some.ensures ∙ c.if-is_some.false in
    let can = can-define store.log.records store.catalogue store.shared c.self.invariant definitions none c.requires.kinds c.in-Ok.ensures.accepted in
    let spelling = spelled-as (Definitions definitions) c.in-Ok.made.1 c.in-Ok.ensures.record c.in-Ok.ensures.bytes c.in-Ok.ensures.payload in
    next-spelled store.log.records (Definitions definitions) c.in-Ok.made.1 spelling can

pub invariant_of-self : goal.invariant_of-self
invariant_of-self g c =
    let store = c.self.inside in
    let definitions = c.args.catalogue in
    let none : is_some store.catalogue ≡ false = sym c.is_some.ensures ∙ c.if-is_some.false in
    let can = can-define store.log.records store.catalogue store.shared c.self.invariant definitions none c.requires.kinds c.in-Ok.ensures.accepted in
    let spelling = spelled-as (Definitions definitions) c.in-Ok.made.1 c.in-Ok.ensures.record c.in-Ok.ensures.bytes c.in-Ok.ensures.payload in
    definitions-stand store.log c.write.new.self store.shared store.catalogue c.self.invariant definitions c.in-Ok.made.1 c.in-Ok.made.0 none can spelling c.in-Ok.ensures.objects c.in-Ok-write.ensures.ok

pub returns-in-Ok-write-clause-ok : goal.returns-in-Ok-write-clause-ok
returns-in-Ok-write-clause-ok g c =
    let store = c.self.inside in
    let definitions = c.args.catalogue in
    let none : is_some store.catalogue ≡ false = sym c.is_some.ensures ∙ c.if-is_some.false in
    let spelling = spelled-as (Definitions definitions) c.in-Ok.made.1 c.in-Ok.ensures.record c.in-Ok.ensures.bytes c.in-Ok.ensures.payload in
    let wrote = Writes-written store.log c.write.new.self store.shared c.in-Ok.made.0 (Definitions definitions) c.in-Ok.made.1 spelling c.in-Ok-write.ensures.ok in
    rw (← c.self.view_is) (none-defined-yet store.log.records store.catalogue store.shared c.self.invariant none, wrote, c.in-Ok.ensures.objects)

pub returns-in-Ok-write-clause-moments : goal.returns-in-Ok-write-clause-moments
returns-in-Ok-write-clause-moments g c =
    let definitions = c.args.catalogue in
    let spelling = spelled-as (Definitions definitions) c.in-Ok.made.1 c.in-Ok.ensures.record c.in-Ok.ensures.bytes c.in-Ok.ensures.payload in
    rw (← c.self.view_is, ← spelling.is) c.write.ensures.moments

pub returns-in-Err-DiskFault-clause-fault : goal.returns-in-Err-DiskFault-clause-fault
returns-in-Err-DiskFault-clause-fault g c = λ is.
    let store = c.self.inside in
    let definitions = c.args.catalogue in
    let none : is_some store.catalogue ≡ false = sym c.is_some.ensures ∙ c.if-is_some.false in
    let spelling = spelled-as (Definitions definitions) c.in-Ok.made.1 c.in-Ok.ensures.record c.in-Ok.ensures.bytes c.in-Ok.ensures.payload in
    let fault = c.write.ensures.fault (c.in-Err-DiskFault.is ∙ ap Err c.in-Err-DiskFault.field-0-is) in
    rw (← c.self.view_is) (none-defined-yet store.log.records store.catalogue store.shared c.self.invariant none, Doubts-faulted store.log c.write.new.self store.shared (Definitions definitions) c.in-Ok.made.1 spelling fault)

pub returns-in-Err-DiskFault-clause-moments : goal.returns-in-Err-DiskFault-clause-moments
returns-in-Err-DiskFault-clause-moments g c =
    let definitions = c.args.catalogue in
    let spelling = spelled-as (Definitions definitions) c.in-Ok.made.1 c.in-Ok.ensures.record c.in-Ok.ensures.bytes c.in-Ok.ensures.payload in
    rw (← c.self.view_is, ← spelling.is) c.write.ensures.moments
