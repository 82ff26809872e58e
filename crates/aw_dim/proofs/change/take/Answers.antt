use Rattle.std.proofs.Common.{ℕ, List, ◌≡◌, ◌<◌, ◌≤◌, ◌∙◌, Some, remove, slice_get, slice_index_or, refl, length, ap, arith, rules}
use Rattle.std.proofs.lemmas.List.Edits.{length-remove}
use Rattle.std.proofs.lemmas.Option.{slice_get_read}
use Rattle.aw_dim.specs.DimensionState.{Entry}
use Rattle.aw_dim.proofs.Changes.{fit, below_from_fit, take-fit, take-before, take-listed, take-texts}
use Rattle.aw_dim.proofs.Valid.{few}
use Rattle.aw_dim.proofs.change.take.Goals as goal

pub mark_places-requires-clause-below : goal.mark_places-requires-clause-below
mark_places-requires-clause-below c =
    let e : c.as_slice-3.result.now ≡ remove c.args.entries.now.items c.args.place = search rules in
    let here : slice_get c.args.entries.now.items c.args.place ≡ Some c.index.result.now = slice_get_read c.args.entries.now.items (length c.args.entries.now.items) c.args.place c.index.result.now refl (search rules) c.index.ensures in
    rw e (below_from_fit (remove c.args.entries.now.items c.args.place) (length c.args.places.now.items) (take-fit c.args.entries.now.items c.args.places.now.items c.args.by_name.now.items c.requires.indexed c.args.place c.index.result.now.0 c.index.result.now.1 here))

pub mark_places-requires-clause-few : goal.mark_places-requires-clause-few
mark_places-requires-clause-few c =
    let e : c.as_slice-3.result.now ≡ remove c.args.entries.now.items c.args.place = search rules in
    let within : c.args.place < length c.args.entries.now.items = search rules in
    let n = length-remove c.args.entries.now.items c.args.place within in
    let fewer = few c.args.entries.now.items (length c.args.places.now.items) (fit c.args.entries.now.items c.args.places.now.items c.args.by_name.now.items c.requires.indexed) in
    rw e (omega (arith, n, fewer, c.requires.indexed.most))

pub returns-clause-indexed : goal.returns-clause-indexed
returns-clause-indexed c =
    let e : c.remove.new.self.items ≡ remove c.args.entries.now.items c.args.place = search rules in
    let same : c.as_slice-3.result.now ≡ c.remove.new.self.items = search rules in
    let here : slice_get c.args.entries.now.items c.args.place ≡ Some c.index.result.now = slice_get_read c.args.entries.now.items (length c.args.entries.now.items) c.args.place c.index.result.now refl (search rules) c.index.ensures in
    record {
      placed = rw (← same) (c.mark_places.ensures.placed (rw (same, e) (take-fit c.args.entries.now.items c.args.places.now.items c.args.by_name.now.items c.requires.indexed c.args.place c.index.result.now.0 c.index.result.now.1 here)) (rw (same, e) (take-before c.args.entries.now.items c.args.places.now.items c.args.by_name.now.items c.requires.indexed c.args.place c.index.result.now.0 c.index.result.now.1 here)));
      indexed = rw e (take-listed c.args.entries.now.items c.args.places.now.items c.args.by_name.now.items c.requires.indexed c.args.place c.index.result.now.0 c.index.result.now.1 here c.unlist.new.by_name.items (rw (← c.as_slice.ensures.value) c.unlist.ensures.listed));
      texts = rw e (take-texts c.args.entries.now.items c.args.places.now.items c.args.by_name.now.items c.requires.indexed c.args.place c.index.result.now.0 c.index.result.now.1 here);
      most = omega (arith, c.mark_places.ensures.next, c.requires.indexed.most);
    }
