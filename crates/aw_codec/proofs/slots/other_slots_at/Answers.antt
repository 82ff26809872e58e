use Rattle.std.specs.Prelude.{[]}
use Rattle.std.proofs.lemmas.Result.{err_from_is_err_and}
use Rattle.aw_codec.specs.Formats.{many}
use Rattle.aw_codec.specs.Parsing.{reading}
use Rattle.aw_codec.specs.RecordFormat.{other_slot}
use Rattle.aw_codec.proofs.Readings.{next_part, no_part, all_parts}
use Rattle.aw_codec.proofs.slots.other_slots_at.Goals as goal

pub returns-in_err-slot : goal.returns-in_err-slot
returns-in_err-slot c =
    let failed = err_from_is_err_and c.from_residual-in_err-slot.result c.from_residual-in_err-slot.ensures.1 in
    let total = reading (many other_slot c.args.count []) c.args.bytes.now c.args.at in
    rw (failed.1, failed.2) (no_part other_slot c.args.count c.loop.counter c.loop.read.slots.items c.args.bytes.now c.loop.behind total c.loop.invariant.read c.in_err-slot.field-0.0 c.loop-test.true c.in_err-slot.ensures)

pub returns : goal.returns
returns c =
    let total = reading (many other_slot c.args.count []) c.args.bytes.now c.args.at in
    rw c.from_vec.ensures (all_parts other_slot c.args.count c.loop.counter c.loop.read.slots.items c.args.bytes.now c.loop.behind total c.loop.invariant.read c.loop-test.false)

pub loop-preserved : goal.loop-preserved
loop-preserved c =
    let total = reading (many other_slot c.args.count []) c.args.bytes.now c.args.at in
    record {
      read = rw c.in_ok-add.ensures.slots
          (next_part other_slot c.args.count c.loop.counter c.loop.read.slots.items c.args.bytes.now c.loop.behind total c.loop.invariant.read c.in_ok-slot.slot c.in_ok-slot.after c.loop-test.true c.in_ok-slot.ensures);
      all = c.in_ok-add.ensures.all;
      marked = rw c.in_ok-add.ensures.slots c.in_ok-add.ensures.marked;
    }
