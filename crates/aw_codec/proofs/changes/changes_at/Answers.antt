use Rattle.std.specs.Prelude.{◌≡◌, [], Ok}
use Rattle.std.proofs.Common.{subst}
use Rattle.std.proofs.lemmas.Result.{err_from_is_err_and}
use Rattle.aw_codec.specs.Formats.{many}
use Rattle.aw_codec.specs.Parsing.{reading, Fails}
use Rattle.aw_codec.specs.RecordFormat.{change}
use Rattle.aw_codec.proofs.Readings.{next_part, no_part, all_parts}
use Rattle.aw_codec.proofs.changes.changes_at.Goals as goal

pub returns-in_err-change : goal.returns-in_err-change
returns-in_err-change c =
    let failed = err_from_is_err_and c.from_residual.result c.from_residual.ensures.1 in
    let total = reading (many change c.args.count []) c.args.bytes.now c.args.at in
    rw (failed.1, failed.2) (no_part change c.args.count c.loop.counter c.loop.changes.items c.args.bytes.now c.loop.behind total c.loop.invariant c.in_err-change.field-0.0 c.loop-test.true (subst (λ before. Fails c.in_err-change.field-0.0 (reading (change before) c.args.bytes.now c.loop.behind)) c.as_slice.ensures.value c.in_err-change.ensures))

pub loop-preserved : goal.loop-preserved
loop-preserved c =
    let total = reading (many change c.args.count []) c.args.bytes.now c.args.at in
    rw c.in_ok-push.ensures.items
    (next_part change c.args.count c.loop.counter c.loop.changes.items c.args.bytes.now c.loop.behind total c.loop.invariant c.in_ok-change.change c.in_ok-change.after c.loop-test.true (subst (λ before. reading (change before) c.args.bytes.now c.loop.behind ≡ Ok (c.in_ok-change.change, c.in_ok-change.after)) c.as_slice.ensures.value c.in_ok-change.ensures))

pub returns : goal.returns
returns c =
    let total = reading (many change c.args.count []) c.args.bytes.now c.args.at in
    rw c.from_vec.ensures (all_parts change c.args.count c.loop.counter c.loop.changes.items c.args.bytes.now c.loop.behind total c.loop.invariant c.loop-test.false)
