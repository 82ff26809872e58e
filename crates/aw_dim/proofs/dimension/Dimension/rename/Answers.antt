use Rattle.std.proofs.Common.{◌≡◌, None, length, slice_set, rules}
use Rattle.aw_dim.specs.DimensionState.{slot_of}
use Rattle.aw_dim.specs.inside.Index.{IsAt}
use Rattle.aw_dim.proofs.Changes.{fit}
use Rattle.aw_dim.proofs.LookUps.{name-unused}
use Rattle.aw_dim.proofs.Views.{at_view, renamed_view}
use Rattle.aw_dim.proofs.dimension.Dimension.rename.Goals as goal

pub name_anew-requires-clause-here : goal.name_anew-requires-clause-here
name_anew-requires-clause-here c =
    let here = at_view (record { entries = c.self.inside.entries.items; next = length c.self.inside.places.items }) c.args.self.now c.in-Some.place c.args.slot c.self.view_is (c.place.ensures.here c.in-Some.place c.in-Some.is) in
    rw c.from.ensures here

pub name_anew-requires-clause-unused : goal.name_anew-requires-clause-unused
name_anew-requires-clause-unused c =
    let none : slot_of c.args.self.now c.args.name ≡ None = search rules in
    name-unused (record { entries = c.self.inside.entries.items; next = 0 }) c.self.inside.places.items c.self.inside.by_name.items c.self.invariant c.args.name (rw (← c.self.view_is) at none)

pub returns-clause-ok : goal.returns-clause-ok
returns-clause-ok c =
    let here = at_view (record { entries = c.self.inside.entries.items; next = length c.self.inside.places.items }) c.args.self.now c.in-Some.place c.args.slot c.self.view_is (c.place.ensures.here c.in-Some.place c.in-Some.is) in
    let put : c.name_anew.new.entries.items ≡ slice_set c.self.inside.entries.items c.in-Some.place (c.args.slot, c.args.name) = search rules in
    rw (← c.self.view_is) (renamed_view (record { entries = c.self.inside.entries.items; next = length c.self.inside.places.items }) (length c.self.inside.places.items) c.args.slot c.in-Some.place (fit c.self.inside.entries.items c.self.inside.places.items c.self.inside.by_name.items c.self.invariant) here c.args.name c.name_anew.new.entries.items put)
