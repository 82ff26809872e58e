use Rattle.std.proofs.Common.{ℕ, List, ◌≡◌, ◌<◌, ◌∙◌, Some, slice_get, get_or, length, refl, sym, ap, arith, rules}
use Rattle.std.proofs.lemmas.Option.{slice_get_read, slice_get-get_or}
use Rattle.aw_dim.specs.DimensionState.{Entry}
use Rattle.aw_dim.proofs.PlacesOfSlots.{found_step}
use Rattle.aw_dim.proofs.making.are_placed.Goals as goal

pub bounds-places-from : goal.bounds-places-from
bounds-places-from c =
    let here : slice_get c.args.entries.now c.loop-place.place ≡ Some c.index-entries-place.result = slice_get_read c.args.entries.now (length c.args.entries.now) c.loop-place.place c.index-entries-place.result refl c.loop-place-test.true c.index-entries-place.is in
    let from : c.from.result ≡ c.index-entries-place.result.0 = c.from.ensures ∙ sym (ap (λ (entry : Entry). entry.0) c.index-entries-place.is) in
    let within = c.requires.below c.loop-place.place c.index-entries-place.result.0 c.index-entries-place.result.1 here in
    omega (arith, from, within)

pub loop-place-preserved : goal.loop-place-preserved
loop-place-preserved c =
    let here : slice_get c.args.entries.now c.loop-place.place ≡ Some c.index-entries-place.result = slice_get_read c.args.entries.now (length c.args.entries.now) c.loop-place.place c.index-entries-place.result refl c.loop-place-test.true c.index-entries-place.is in
    let from : c.from.result ≡ c.index-entries-place.result.0 = c.from.ensures ∙ sym (ap (λ (entry : Entry). entry.0) c.index-entries-place.is) in
    let within = c.requires.below c.loop-place.place c.index-entries-place.result.0 c.index-entries-place.result.1 here in
    let found : slice_get c.args.places.now c.index-entries-place.result.0 ≡ Some c.loop-place.place =
    slice_get-get_or c.args.places.now c.index-entries-place.result.0 0 within
    ∙ ap Some (ap (λ (slot : ℕ). get_or c.args.places.now slot 0) (sym from) ∙ sym c.from-in-loop-place.ensures ∙ c.if-from-place.false) in
    found_step c.args.entries.now c.args.places.now c.loop-place.place c.index-entries-place.result.0 c.index-entries-place.result.1 c.loop-place.invariant here found
