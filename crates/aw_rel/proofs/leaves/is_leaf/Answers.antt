use Rattle.std.proofs.Common.{◌∙◌, ◌&&◌, [], false, ap, get_or}
use Rattle.aw_rel.specs.inside.Tables.{has_none}
use Rattle.aw_rel.proofs.Filling.{none-test, read_at}
use Rattle.aw_rel.proofs.leaves.is_leaf.Goals as goal

pub returns : goal.returns
returns c =
    let none = none-test c.index-children-at.result c.is_empty.result c.is_empty.ensures ∙ ap has_none (read_at c.args.children.now c.args.slot c.from-at.result c.index-children-at.result [] c.index-children-at.is c.from-at.ensures c.requires.children) in
    let mark = ap (λ n. get_or c.args.marks.now n false) c.from-at.ensures in
    λ i. none i && mark i
