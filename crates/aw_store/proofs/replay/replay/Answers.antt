use Rattle.std.proofs.Common.{◌≡◌, ◌<◌, ◌^◌, length, map, take, Ok, arith, ap, subst, ◌∙◌, refl}
use Rattle.aw_store.specs.inside.PayloadRecords.{record_from}
use Rattle.aw_store.specs.inside.ReplaySteps.{bytes_of, Taken, IsNoNext}
use Rattle.aw_store.proofs.Payloads.{length-front, next_taken, stopped}
use Rattle.aw_store.proofs.replay.replay.Goals as goal

pub loop-payload-init : goal.loop-payload-init
loop-payload-init c = record {
  spellings = record { same = refl; spellings = tt; replayable = refl; next = tt };
  leave = c.in-Ok.ensures;
}

pub returns-in-Ok-false-clause-err : goal.returns-in-Ok-false-clause-err
returns-in-Ok-false-clause-err c =
    let loop = c.loop-payload in
    let payloads = c.args.payloads.now in
    let front = take loop.payload-index (map bytes_of payloads) in
    let few : length (map record_from front) < 2 ^ 62 = omega (arith, length-front loop.payload-index payloads, c.loop-payload-test.true, c.well_formed) in
    let bytes : c.as_slice.result.now ≡ c.payload-item.result.bytes = c.as_slice.ensures in
    let bad : IsNoNext (map record_from front) c.payload-item.result.bytes = subst (IsNoNext (map record_from front)) bytes (c.take.ensures.refused (map record_from front) loop.invariant.leave few (c.in-Ok-false.is ∙ ap Ok c.in-Ok-false.field-0-test)) in
    stopped payloads loop.payload-index c.payload-item.result c.requires c.loop-payload-test.true c.payload-item.is loop.invariant.spellings bad

pub loop-payload-preserved : goal.loop-payload-preserved
loop-payload-preserved c =
    let loop = c.loop-payload in
    let payloads = c.args.payloads.now in
    let front = take loop.payload-index (map bytes_of payloads) in
    let few : length (map record_from front) < 2 ^ 62 = omega (arith, length-front loop.payload-index payloads, c.loop-payload-test.true, c.well_formed) in
    let taken = c.take.ensures.taken (map record_from front) loop.invariant.leave few (c.in-Ok-true.is ∙ ap Ok c.in-Ok-true.field-0-test) in
    next_taken payloads loop.payload-index c.payload-item.result c.take.new.self.catalogue c.take.new.self.shared c.loop-payload-test.true c.payload-item.is loop.invariant.spellings
    (subst (λ bytes. Taken (map record_from front) bytes c.take.new.self.catalogue c.take.new.self.shared) c.as_slice.ensures taken)
