use Rattle.std.proofs.Common.{map, inl, Some}
use Rattle.aw_journal.specs.CrashPayloads.{Left}
use Rattle.aw_journal.specs.Passed.{Passed-wider, Passed-then}
use Rattle.aw_store.specs.inside.PayloadRecords.{record_from, IsNext}
use Rattle.aw_store.proofs.callers.Spellings.{LeftRecords-left, left_writing, settled_more, IsLast-next}
use Rattle.aw_store.proofs.record_log.RecordLog.write.Goals as goal

pub returns-in-Err-clause-moments : goal.returns-in-Err-clause-moments
returns-in-Err-clause-moments g c =
    let journal = c.self.inside.journal in
    rw (← c.self.view_is) (Passed-wider c.make_ready.ensures.moments (λ image left. inl (LeftRecords-left journal.settled journal.doubt c.self.invariant.0 image left)))

pub invariant_of-self-in-Ok-append : goal.invariant_of-self-in-Ok-append
invariant_of-self-in-Ok-append g c =
    let log = c.self.inside in
    let settled = log.journal.settled in
    let next : IsNext (map record_from settled) c.args.bytes = rw (← c.self.view_is) at c.requires.next in
    rw (c.in-Ok-append.ensures.ok, c.make_ready.ensures.settled, c.in-Ok.ensures.ok.0, c.as_slice.ensures)
    (settled_more settled log.journal.doubt c.self.invariant.0 c.args.bytes next, IsLast-next settled log.number c.saturating_add-self-inside.result log.last c.args.bytes c.self.invariant.1 next c.saturating_add-self-inside.ensures)

pub returns-in-Ok-append-clause-moments : goal.returns-in-Ok-append-clause-moments
returns-in-Ok-append-clause-moments g c =
    let journal = c.self.inside.journal in
    let next : IsNext (map record_from journal.settled) c.args.bytes = rw (← c.self.view_is) at c.requires.next in
    let appending = rw (c.make_ready.ensures.settled, c.as_slice.ensures) at c.append.ensures.moments in
    rw (← c.self.view_is) (Passed-then {during = Left journal.settled journal.doubt} {later = Left journal.settled (Some c.args.bytes)} c.make_ready.ensures.moments appending (λ image left. inl (LeftRecords-left journal.settled journal.doubt c.self.invariant.0 image left)) (λ image left. left_writing journal.settled journal.doubt c.self.invariant.0 c.args.bytes image next left))

pub returns-in-Err-append-clause-moments : goal.returns-in-Err-append-clause-moments
returns-in-Err-append-clause-moments g c =
    let journal = c.self.inside.journal in
    let next : IsNext (map record_from journal.settled) c.args.bytes = rw (← c.self.view_is) at c.requires.next in
    let appending = rw (c.make_ready.ensures.settled, c.as_slice.ensures) at c.append.ensures.moments in
    rw (← c.self.view_is) (Passed-then {during = Left journal.settled journal.doubt} {later = Left journal.settled (Some c.args.bytes)} c.make_ready.ensures.moments appending (λ image left. inl (LeftRecords-left journal.settled journal.doubt c.self.invariant.0 image left)) (λ image left. left_writing journal.settled journal.doubt c.self.invariant.0 c.args.bytes image next left))
