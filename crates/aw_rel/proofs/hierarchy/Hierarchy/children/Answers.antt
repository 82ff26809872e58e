use Rattle.std.proofs.Common.{◌∙◌, slice_get, sym, ap}
use Rattle.aw_rel.specs.Hierarchy.{Tree, children_in}
use Rattle.aw_rel.proofs.Filling.{children_at-none}
use Rattle.aw_rel.proofs.hierarchy.Hierarchy.children.Goals as goal

pub returns-in-None : goal.returns-in-None
returns-in-None c =
    sym (children_at-none c.self.inside.children c.args.slot (c.in-None.ensures ∙ ap (slice_get c.self.inside.children) c.from.ensures))
    ∙ c.self.invariant.kin c.args.slot ∙ ap (λ (t : Tree). children_in t c.args.slot) c.self.view_is
