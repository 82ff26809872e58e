use Rattle.std.specs.Prelude.{◌≡◌, [], Ok}
use Rattle.std.proofs.Common.{subst}
use Rattle.std.proofs.lemmas.Result.{err_from_is_err_and}
use Rattle.aw_codec.specs.Formats.{many}
use Rattle.aw_codec.specs.Parsing.{reading, Fails}
use Rattle.aw_codec.specs.RecordFormat.{keyed_cell}
use Rattle.aw_codec.proofs.Readings.{next_part, no_part, all_parts}
use Rattle.aw_codec.proofs.patches.keyed_cells_at.Goals as goal

pub returns-in_err-key : goal.returns-in_err-key
returns-in_err-key c =
    let failed = err_from_is_err_and c.from_residual.result c.from_residual.ensures.1 in
    let total = reading (many (keyed_cell c.args.size) c.args.count []) c.args.bytes.now c.args.at in
    rw (failed.1, failed.2) (no_part (keyed_cell c.args.size) c.args.count c.loop.counter c.loop.changes.items c.args.bytes.now c.loop.behind total c.loop.invariant c.in_err-key.field-0.0 c.loop-test.true (subst (λ before. Fails c.in_err-key.field-0.0 (reading (keyed_cell c.args.size before) c.args.bytes.now c.loop.behind)) c.as_slice.ensures.value c.in_err-key.ensures))

pub loop-preserved : goal.loop-preserved
loop-preserved c =
    let total = reading (many (keyed_cell c.args.size) c.args.count []) c.args.bytes.now c.args.at in
    rw c.in_ok-push.ensures.items
    (next_part (keyed_cell c.args.size) c.args.count c.loop.counter c.loop.changes.items c.args.bytes.now c.loop.behind total c.loop.invariant (c.in_ok-key.key, c.in_ok-key.cell) c.in_ok-key.after c.loop-test.true (subst (λ before. reading (keyed_cell c.args.size before) c.args.bytes.now c.loop.behind ≡ Ok ((c.in_ok-key.key, c.in_ok-key.cell), c.in_ok-key.after)) c.as_slice.ensures.value c.in_ok-key.ensures))

pub returns : goal.returns
returns c =
    let total = reading (many (keyed_cell c.args.size) c.args.count []) c.args.bytes.now c.args.at in
    rw c.from_vec.ensures (all_parts (keyed_cell c.args.size) c.args.count c.loop.counter c.loop.changes.items c.args.bytes.now c.loop.behind total c.loop.invariant c.loop-test.false)
