use Rattle.std.proofs.Common.{◌≡◌, None, rules}
use Rattle.aw_dim.specs.DimensionState.{slot_of}
use Rattle.aw_dim.proofs.LookUps.{name-unused}
use Rattle.aw_dim.proofs.dimension.Dimension.add.Goals as goal

pub put-requires-clause-unused : goal.put-requires-clause-unused
put-requires-clause-unused c =
    let none : slot_of c.args.self.now c.args.name ≡ None = search rules in
    name-unused (record { entries = c.self.inside.entries.items; next = 0 }) c.self.inside.places.items c.self.inside.by_name.items c.self.invariant c.args.name (rw (← c.self.view_is) at none)
