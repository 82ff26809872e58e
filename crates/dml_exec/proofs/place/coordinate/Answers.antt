use Rattle.std.proofs.Common.{◌≡◌, ◌∙◌, ◌<◌, ◌≤◌, [], length, take, Some, refl, sym, ap, arith, length-take-le}
use Rattle.std.proofs.Math.ListN.{length-set}
use Rattle.dml_exec.specs.declared.op.Axis.TheVariants.{Free}
use Rattle.dml_exec.proofs.AxisSlots.{behind-first, behind-more, placed, axis-placed, all-placed}
use Rattle.dml_exec.proofs.place.coordinate.Goals as goal

pub loop-at-init : goal.loop-at-init
loop-at-init c = record { len = refl; same = behind-first c.args.place.now c.args.fixed.now [] c.args.axes.now }

pub slot_of_axis-requires : goal.slot_of_axis-requires
slot_of_axis-requires c =
    let p = placed c.args.place.now c.args.fixed.now c.args.axes.now c.requires in
    let within : c.loop-at.at < length c.args.axes.now = omega arith in
    axis-placed c.args.place.now c.args.fixed.now c.loop-at.slots c.args.axes.now c.loop-at.at (Free 0) p within c.loop-at.invariant.same

pub bounds-slots-at : goal.bounds-slots-at
bounds-slots-at c =
    let p = placed c.args.place.now c.args.fixed.now c.args.axes.now c.requires in
    let few : length c.args.axes.now ≤ 6 = p.few in omega arith

pub loop-at-preserved : goal.loop-at-preserved
loop-at-preserved c =
    let p = placed c.args.place.now c.args.fixed.now c.args.axes.now c.requires in
    let few : length c.args.axes.now ≤ 6 = p.few in
    let within : c.loop-at.at < length c.args.axes.now = omega arith in
    let room : c.loop-at.at < length c.loop-at.slots = omega (arith, c.loop-at.invariant.len) in
    record {
      len = length-set c.loop-at.slots c.loop-at.at c.slot_of_axis.result ∙ c.loop-at.invariant.len;
      same = behind-more c.args.place.now c.args.fixed.now c.loop-at.slots c.args.axes.now c.loop-at.at c.slot_of_axis.result (Free 0) within room c.slot_of_axis.ensures c.loop-at.invariant.same;
    }

pub slice_bounds-slots-end : goal.slice_bounds-slots-end
slice_bounds-slots-end c =
    let p = placed c.args.place.now c.args.fixed.now c.args.axes.now c.requires in
    let few : length c.args.axes.now ≤ 6 = p.few in omega (arith, c.loop-at.invariant.len)

pub slice_bounds-coord_of-end : goal.slice_bounds-coord_of-end
slice_bounds-coord_of-end c =
    let p = placed c.args.place.now c.args.fixed.now c.args.axes.now c.requires in
    let few : length c.args.axes.now ≤ 6 = p.few in
    let fits : length c.args.axes.now ≤ length c.loop-at.slots = omega (arith, c.loop-at.invariant.len) in
    sym (length-take-le (length c.args.axes.now) c.loop-at.slots fits)

pub coord_of-requires : goal.coord_of-requires
coord_of-requires c =
    let p = placed c.args.place.now c.args.fixed.now c.args.axes.now c.requires in
    let few : length c.args.axes.now ≤ 6 = p.few in
    let fits : length c.args.axes.now ≤ length c.loop-at.slots = omega (arith, c.loop-at.invariant.len) in
    let len : length (take (length c.args.axes.now) c.loop-at.slots) ≡ length c.args.axes.now = length-take-le (length c.args.axes.now) c.loop-at.slots fits in omega arith

pub returns : goal.returns
returns c =
    let p = placed c.args.place.now c.args.fixed.now c.args.axes.now c.requires in
    let end : c.loop-at.at ≡ length c.args.axes.now = omega arith in
    all-placed c.args.place.now c.args.fixed.now c.loop-at.slots c.args.axes.now c.loop-at.at p end c.loop-at.invariant.same ∙ ap Some (sym c.coord_of.ensures)
