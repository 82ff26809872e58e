use Rattle.std.proofs.Common.{◌≡◌, ◌∙◌, Some, sym, ap, is_some, rules}
use Rattle.aw_dim.specs.DimensionState.{Entry, position_of}
use Rattle.aw_dim.proofs.LookUps.{position-indexed, is_some-position, stands-at}
use Rattle.aw_dim.proofs.dimension.Dimension.place.Goals as goal

pub returns-clause-value : goal.returns-clause-value
returns-clause-value c =
    rw (← c.self.view_is)
    ((rw (c.as_slice.ensures.value, c.as_slice-2.ensures.value) at c.place_of.ensures)
    ∙ position-indexed (record { entries = c.self.inside.entries.items; next = 0 }) c.self.inside.places.items c.self.invariant.placed c.args.slot)

pub returns-clause-here : goal.returns-clause-here
returns-clause-here c = λ place h.
    let found : position_of c.args.self.now c.args.slot ≡ Some place = sym (returns-clause-value c) ∙ h in
    let stands = stands-at c.args.self.now c.args.slot place found in
    record { name = stands.name; value = stands.value }

pub returns-clause-known : goal.returns-clause-known
returns-clause-known c = ap is_some (returns-clause-value c) ∙ is_some-position c.args.self.now c.args.slot
