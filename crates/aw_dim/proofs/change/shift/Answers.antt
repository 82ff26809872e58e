use Rattle.std.proofs.Common.{ℕ, List, ◌≡◌, ◌<◌, ◌≤◌, ◌+◌, ◌∙◌, Some, insert, remove, slice_get, length, refl, ap, arith, rules}
use Rattle.std.proofs.lemmas.List.Edits.{length-remove}
use Rattle.std.proofs.lemmas.Option.{slice_get_read}
use Rattle.aw_dim.specs.DimensionState.{Entry}
use Rattle.aw_dim.proofs.Changes.{below_from_fit, shift-fit, shift-before}
use Rattle.aw_dim.proofs.Editing.{one_element}
use Rattle.aw_dim.proofs.change.shift.Goals as goal

pub mark_places-requires-clause-below : goal.mark_places-requires-clause-below
mark_places-requires-clause-below c =
    let e : c.as_slice.result.now ≡ insert (remove c.args.entries.now.items c.args.from) c.args.to c.remove-value.result = search rules in
    let here : slice_get c.args.entries.now.items c.args.from ≡ Some c.remove-value.result = slice_get_read c.args.entries.now.items (length c.args.entries.now.items) c.args.from c.remove-value.result refl (search rules) c.remove-value.ensures.value in
    let low : c.args.from < length c.args.entries.now.items = search rules in
    let high : c.args.to < length c.args.entries.now.items = search rules in
    let n = length-remove c.args.entries.now.items c.args.from low in
    rw e (below_from_fit (insert (remove c.args.entries.now.items c.args.from) c.args.to c.remove-value.result) (length c.args.places.now.items) (shift-fit c.args.entries.now.items c.args.places.now.items c.requires.placed c.args.from c.args.to c.remove-value.result.0 c.remove-value.result.1 here (omega (arith, n, high))))

pub returns-clause-placed : goal.returns-clause-placed
returns-clause-placed c =
    let e : c.as_slice.result.now ≡ insert (remove c.args.entries.now.items c.args.from) c.args.to c.remove-value.result = search rules in
    let here : slice_get c.args.entries.now.items c.args.from ≡ Some c.remove-value.result = slice_get_read c.args.entries.now.items (length c.args.entries.now.items) c.args.from c.remove-value.result refl (search rules) c.remove-value.ensures.value in
    let low : c.args.from < length c.args.entries.now.items = search rules in
    let high : c.args.to < length c.args.entries.now.items = search rules in
    let n = length-remove c.args.entries.now.items c.args.from low in
    let same : c.as_slice.result.now ≡ c.insert.new.self.items = search rules in
    let fit = shift-fit c.args.entries.now.items c.args.places.now.items c.requires.placed c.args.from c.args.to c.remove-value.result.0 c.remove-value.result.1 here (omega (arith, n, high)) in
    let before = shift-before c.args.entries.now.items c.args.places.now.items c.requires.placed c.args.from c.args.to c.remove-value.result.0 c.remove-value.result.1 here (omega (arith, n, high)) c.min.result (omega (arith, c.min.ensures)) (omega (arith, c.min.ensures)) in
    rw (← same) (c.mark_places.ensures.placed (rw e fit) (rw e before))

pub returns-clause-entries : goal.returns-clause-entries
returns-clause-entries c = λ value h.
    let e : c.insert.new.self.items ≡ insert (remove c.args.entries.now.items c.args.from) c.args.to c.remove-value.result = search rules in
    let here : slice_get c.args.entries.now.items c.args.from ≡ Some c.remove-value.result = slice_get_read c.args.entries.now.items (length c.args.entries.now.items) c.args.from c.remove-value.result refl (search rules) c.remove-value.ensures.value in
    e ∙ ap (insert (remove c.args.entries.now.items c.args.from) c.args.to) (one_element c.args.entries.now.items c.args.from c.remove-value.result value here h)
