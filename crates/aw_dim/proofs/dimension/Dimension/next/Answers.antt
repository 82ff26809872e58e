use Rattle.aw_dim.proofs.Valid.{valid}
use Rattle.aw_dim.proofs.dimension.Dimension.next.Goals as goal

pub returns-clause-valid : goal.returns-clause-valid
returns-clause-valid c = rw (← c.self.view_is) (valid c.self.inside.entries.items c.self.inside.places.items c.self.inside.by_name.items c.self.invariant)
