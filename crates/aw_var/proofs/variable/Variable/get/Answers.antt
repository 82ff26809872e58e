use Rattle.std.proofs.Common.{◌∙◌, ap}
use Rattle.aw_var.specs.inside.NumberedMap.{cell_of}
use Rattle.aw_var.proofs.Unpacking.{cell-key}
use Rattle.aw_var.proofs.variable.Variable.get.Goals as goal

pub returns : goal.returns
returns c =
    c.get.ensures ∙ ap (λ n. cell_of c.self.inside.cells.cells n) c.number_of.ensures.value
    ∙ cell-key c.self.inside.slots c.args.at.now c.self.inside.cells.cells c.args.self.now c.number_of.ensures.slots c.requires c.self.invariant c.self.inside.cells.kind c.self.view_is
