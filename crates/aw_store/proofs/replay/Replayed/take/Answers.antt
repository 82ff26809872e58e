use Rattle.std.proofs.Common.{false, arith, ◌++◌, ◌∷◌, []}
use Rattle.aw_store.proofs.callers.Following.{answered, Taken-next}
use Rattle.aw_store.proofs.Taking.{stored, too_long, no_record, cannot_follow}
use Rattle.aw_store.specs.StoredRecords.{can_replay}
use Rattle.aw_store.proofs.replay.Replayed.take.Goals as goal

pub returns-then-bytes-gt-MOST-clause-refused : goal.returns-then-bytes-gt-MOST-clause-refused
returns-then-bytes-gt-MOST-clause-refused c = λ records leave few done. too_long records c.args.bytes.now (omega (arith, c.if-bytes-gt-MOST.true))

pub returns-in-Ok-clause-taken : goal.returns-in-Ok-clause-taken
returns-in-Ok-clause-taken c = λ records leave few done.
    let old = c.args.self.now in
    let next = c.in-Ok.next in
    let fits = stored next c.args.bytes.now c.in-Ok.ensures.found.0 c.in-Ok.ensures.found.1 (omega (arith, c.if-bytes-gt-MOST.false)) in
    Taken-next records old.catalogue old.shared leave next c.args.bytes.now c.add.new.self.catalogue c.add.new.self.shared fits c.in-Ok.ensures.found.1 (c.add.ensures.leave records leave few done)

pub returns-in-Ok-clause-refused : goal.returns-in-Ok-clause-refused
returns-in-Ok-clause-refused c = λ records leave few done.
    let next = c.in-Ok.next in
    let cannot = answered c.add.result (can_replay (records ++ next ∷ [])) false (c.add.ensures.follows records leave few) done in
    cannot_follow records c.args.bytes.now next c.in-Ok.ensures.found.0 c.in-Ok.ensures.found.1 cannot

pub returns-in-Err-At-clause-refused : goal.returns-in-Err-At-clause-refused
returns-in-Err-At-clause-refused c = λ records leave few done.
    no_record records c.args.bytes.now c.in-Err-At.field-0-0 (λ r fits same. rw c.in-Err-At.field-0-is at c.in-Err-At.ensures.spelling r fits same)
