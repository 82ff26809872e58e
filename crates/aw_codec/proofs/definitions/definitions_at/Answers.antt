use Rattle.std.specs.Prelude.{[]}
use Rattle.std.proofs.lemmas.Result.{err_from_is_err_and}
use Rattle.aw_codec.specs.Formats.{many}
use Rattle.aw_codec.specs.Parsing.{reading}
use Rattle.aw_codec.specs.RecordFormat.{definition}
use Rattle.aw_codec.proofs.Readings.{next_part, no_part, all_parts}
use Rattle.aw_codec.proofs.definitions.definitions_at.Goals as goal

pub returns-in_err-def : goal.returns-in_err-def
returns-in_err-def c =
    let failed = err_from_is_err_and c.from_residual.result c.from_residual.ensures.1 in
    let total = reading (many (λ _. definition) c.args.count []) c.args.bytes.now c.args.at in
    rw (failed.1, failed.2) (no_part (λ _. definition) c.args.count c.loop.counter c.loop.defs.items c.args.bytes.now c.loop.behind total c.loop.invariant c.in_err-def.field-0.0 c.loop-test.true c.in_err-def.ensures)

pub loop-preserved : goal.loop-preserved
loop-preserved c =
    let total = reading (many (λ _. definition) c.args.count []) c.args.bytes.now c.args.at in
    rw c.in_ok-push.ensures.items
    (next_part (λ _. definition) c.args.count c.loop.counter c.loop.defs.items c.args.bytes.now c.loop.behind total c.loop.invariant c.in_ok-def.def c.in_ok-def.after c.loop-test.true c.in_ok-def.ensures)

pub returns : goal.returns
returns c =
    let total = reading (many (λ _. definition) c.args.count []) c.args.bytes.now c.args.at in
    rw c.from_vec.ensures (all_parts (λ _. definition) c.args.count c.loop.counter c.loop.defs.items c.args.bytes.now c.loop.behind total c.loop.invariant c.loop-test.false)
