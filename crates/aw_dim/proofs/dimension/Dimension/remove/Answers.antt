use Rattle.std.proofs.Common.{◌≡◌, ◌<◌, length, remove, rules, ap, ◌∙◌}
use Rattle.std.proofs.lemmas.Option.{slice_get_within}
use Rattle.aw_dim.proofs.Changes.{fit}
use Rattle.aw_dim.proofs.Views.{at_view, removed_view}
use Rattle.aw_dim.proofs.dimension.Dimension.remove.Goals as goal

pub take-requires-clause-within : goal.take-requires-clause-within
take-requires-clause-within c =
    let here = at_view (record { entries = c.self.inside.entries.items; next = length c.self.inside.places.items }) c.args.self.now c.in-Some.place c.args.slot c.self.view_is (c.place.ensures.here c.in-Some.place c.in-Some.is) in
    let within : c.in-Some.place < length c.self.inside.entries.items = slice_get_within c.self.inside.entries.items c.in-Some.place (c.args.slot, here.name) here.value in
    search rules

pub returns-clause-ok : goal.returns-clause-ok
returns-clause-ok c =
    let here = at_view (record { entries = c.self.inside.entries.items; next = length c.self.inside.places.items }) c.args.self.now c.in-Some.place c.args.slot c.self.view_is (c.place.ensures.here c.in-Some.place c.in-Some.is) in
    let taken : c.take.new.entries.items ≡ remove c.self.inside.entries.items c.in-Some.place = c.take.ensures.entries ∙ ap (remove c.self.inside.entries.items) c.from-place.ensures in
    rw (← c.self.view_is) (removed_view (record { entries = c.self.inside.entries.items; next = length c.self.inside.places.items }) (length c.self.inside.places.items) c.args.slot c.in-Some.place (fit c.self.inside.entries.items c.self.inside.places.items c.self.inside.by_name.items c.self.invariant) here c.take.new.entries.items (length c.take.new.places.items) taken c.take.ensures.next)
