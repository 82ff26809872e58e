use Rattle.std.proofs.Common.{◌≡◌, ◌≤◌, arith, length, rules}
use Rattle.aw_dim.proofs.Valid.{most}
use Rattle.aw_dim.proofs.dimension.Dimension.len.Goals as goal

pub overflow_cast-result : goal.overflow_cast-result
overflow_cast-result c =
    let few = most c.self.inside.entries.items c.self.inside.places.items c.self.inside.by_name.items c.self.invariant in
    search rules

pub returns-clause-most : goal.returns-clause-most
returns-clause-most c =
    let few = most c.self.inside.entries.items c.self.inside.places.items c.self.inside.by_name.items c.self.invariant in
    search rules
