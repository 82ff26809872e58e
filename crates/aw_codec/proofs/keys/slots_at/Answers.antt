use Rattle.std.specs.Prelude.{◌≡◌, [], take}
use Rattle.std.specs.Option.{option_copied}
use Rattle.std.proofs.Common.{arith, ap, ◌∙◌, Ok}
use Rattle.std.proofs.lemmas.List.{length-set}
use Rattle.std.proofs.lemmas.Result.{err_from_is_err_and}
use Rattle.aw_codec.specs.Formats.{many}
use Rattle.aw_codec.specs.Parsing.{reading}
use Rattle.aw_codec.proofs.KeyReading.{next_slot, slot_read, no_slot, all_slots}
use Rattle.aw_codec.proofs.keys.slots_at.Goals as goal

pub returns-in_err-slot : goal.returns-in_err-slot
returns-in_err-slot c =
    let failed = err_from_is_err_and c.from_residual.result c.from_residual.ensures.1 in
    let previous = option_copied c.args.previous in
    let total = reading (many (next_slot c.args.size previous) c.args.size []) c.args.bytes.now c.args.at in
    rw (failed.1, failed.2) (no_slot c.args.size c.loop-place.place previous c.loop-place.slots c.args.bytes.now c.loop-place.behind total c.loop-place.invariant.read c.least_slot-least.result c.least_slot-least.ensures.value c.in_err-slot.field-0.0 c.loop-place-test.true c.in_err-slot.ensures)

pub loop-place-preserved : goal.loop-place-preserved
loop-place-preserved c =
    let previous = option_copied c.args.previous in
    let total = reading (many (next_slot c.args.size previous) c.args.size []) c.args.bytes.now c.args.at in
    record {
      read = slot_read c.args.size c.loop-place.place previous c.loop-place.slots c.args.bytes.now c.loop-place.behind total c.loop-place.invariant.read c.least_slot-least.result c.least_slot-least.ensures.value c.in_ok-slot.slot c.in_ok-slot.after c.loop-place-test.true (omega (arith, c.loop-place.invariant.room, c.requires)) c.in_ok-slot.ensures;
      room = length-set c.loop-place.slots c.loop-place.place c.in_ok-slot.slot ∙ c.loop-place.invariant.room;
    }

pub returns : goal.returns
returns c =
    let previous = option_copied c.args.previous in
    let total = reading (many (next_slot c.args.size previous) c.args.size []) c.args.bytes.now c.args.at in
    let here : c.loop-place.place ≡ c.args.size = omega (arith, c.loop-place-test.false, c.loop-place.auto) in
    all_slots c.args.size c.loop-place.place previous c.loop-place.slots c.args.bytes.now c.loop-place.behind total c.loop-place.invariant.read c.loop-place-test.false
    ∙ ap (λ k. Ok (take k c.loop-place.slots, c.loop-place.behind)) here
