use Rattle.aw_var.proofs.Unpacking.{difference-after}
use Rattle.aw_var.proofs.variable.Variable.patch_since.Goals as goal

pub returns : goal.returns
returns c = difference-after c.self.inside.slots c.older.inside.slots c.self.inside.cells c.older.inside.cells c.args.self.now c.args.older.now c.patch_since.result c.self.view_is c.older.view_is c.requires.slots c.self.invariant c.older.invariant c.patch_since.ensures
