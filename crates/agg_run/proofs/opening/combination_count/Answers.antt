use Rattle.std.proofs.Common.{rules, ◌≡◌, ◌≤◌, ◌+◌, ◌*◌, length, ap, ◌∙◌, arith}
use Rattle.aw_dim.specs.DimensionState.{DimensionState}
use Rattle.agg_run.proofs.Gathering.{count_more, count_power, count_room}
use Rattle.agg_run.proofs.opening.combination_count.Goals as goal

pub overflow_mul-count : goal.overflow_mul-count
overflow_mul-count c =
    let few : c.from-count.result ≤ 65536 = search rules in
    let room = count_room c.loop-place.count c.from-count.result c.loop-place.place (length c.as_slice-dimensions.result.now) c.loop-place.invariant.1 few (omega arith) (omega (arith, ap length c.as_slice-dimensions.ensures)) in
    record { fits = omega (arith, room) }

pub loop-place-preserved : goal.loop-place-preserved
loop-place-preserved c =
    let few : c.from-count.result ≤ 65536 = search rules in
    let size : c.from-count.result ≡ c.len.result = search rules in
    let made : c.loop-place.count * c.from-count.result ≡ c.loop-place.count * length c.index-dimensions-place.result.entries = ap (λ n. c.loop-place.count * n) (size ∙ c.len.ensures.value) in (
      count_more c.as_slice-dimensions.result.now c.loop-place.place (c.loop-place.place + 1) c.loop-place.count (c.loop-place.count * c.from-count.result) _ c.index-dimensions-place.result (omega arith) (omega arith)
          (made ∙ ap (λ (d : DimensionState). c.loop-place.count * length d.entries) c.index-dimensions-place.is) c.loop-place.invariant.0,
      count_power c.loop-place.count c.from-count.result c.loop-place.place c.loop-place.invariant.1 few,
    )
