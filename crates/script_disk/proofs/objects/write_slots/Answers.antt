use Rattle.std.proofs.Common.{◌∙◌, arith}
use Rattle.std.specs.List.{flat_map}
use Rattle.script_meaning.specs.Dump.{slot_line}
use Rattle.script_disk.proofs.Written.{item_put, item_front, on_err}
use Rattle.script_disk.proofs.objects.write_slots.Goals as goal

pub returns-in_err-put_all-clause-err : goal.returns-in_err-put_all-clause-err
returns-in_err-put_all-clause-err g c =
    let slots = c.args.slots.now in
    let is = c.as_slice.ensures.value ∙ c.slot_line-line.ensures in
    on_err c.from_residual.result _
    (item_front slot_line slots c.loop-at.at 0 c.as_slice.result.now (flat_map slot_line slots) c.loop-at.invariant.has c.loop-at-test.true is c.in_err-put_all.ensures.err)

pub loop-at-preserved : goal.loop-at-preserved
loop-at-preserved g c =
    let slots = c.args.slots.now in
    let is = c.as_slice.ensures.value ∙ c.slot_line-line.ensures in
    record {
      within = omega (arith, c.loop-at-test.true);
      has = item_put slot_line slots c.loop-at.at 0 c.as_slice.result.now (flat_map slot_line slots) c.loop-at.invariant.has c.loop-at-test.true is c.in_ok-put_all.ensures.ok;
      later = omega (arith, c.loop-at.invariant.later, c.put_all.ensures.later);
    }
