use Rattle.std.proofs.Common.{ℕ, List, ◌≡◌, ◌<◌, ◌∙◌, Some, slice_get, slice_set, length, refl, sym, ap, arith, rules, length-set}
use Rattle.std.proofs.lemmas.Option.{slice_get_read}
use Rattle.aw_dim.specs.DimensionState.{Entry}
use Rattle.aw_dim.proofs.PlacesOfSlots.{mark_step}
use Rattle.aw_dim.proofs.index.mark_places.Goals as goal

pub index_mut-requires : goal.index_mut-requires
index_mut-requires c =
    let here : slice_get c.args.entries.now c.loop-place.place ≡ Some c.index-entries-place.result = slice_get_read c.args.entries.now (length c.args.entries.now) c.loop-place.place c.index-entries-place.result refl c.loop-place-test.true c.index-entries-place.is in
    let from : c.from.result ≡ c.index-entries-place.result.0 = c.from.ensures ∙ sym (ap (λ (entry : Entry). entry.0) c.index-entries-place.is) in
    let within = c.requires.below.below c.loop-place.place c.index-entries-place.result.0 c.index-entries-place.result.1 here in
    let count : length c.loop-place.places.items ≡ length c.args.places.now.items = c.loop-place.invariant.1 in
    let low : c.from.result < length c.loop-place.places.items = omega (arith, from, within, count) in
    search rules

pub loop-place-preserved : goal.loop-place-preserved
loop-place-preserved c =
    let here : slice_get c.args.entries.now c.loop-place.place ≡ Some c.index-entries-place.result = slice_get_read c.args.entries.now (length c.args.entries.now) c.loop-place.place c.index-entries-place.result refl c.loop-place-test.true c.index-entries-place.is in
    let from : c.from.result ≡ c.index-entries-place.result.0 = c.from.ensures ∙ sym (ap (λ (entry : Entry). entry.0) c.index-entries-place.is) in
    let within = c.requires.below.below c.loop-place.place c.index-entries-place.result.0 c.index-entries-place.result.1 here in
    let count : length c.loop-place.places.items ≡ length c.args.places.now.items = c.loop-place.invariant.1 in (
      λ fit before. rw from (mark_step c.args.entries.now c.loop-place.places.items (length c.args.places.now.items) c.loop-place.place c.index-entries-place.result.0 c.index-entries-place.result.1 fit (c.loop-place.invariant.0 fit before) here (omega (arith, within, count))),
      length-set c.loop-place.places.items c.from.result c.loop-place.place ∙ count,
    )
