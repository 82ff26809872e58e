use Rattle.std.proofs.Common.{◌∙◌, ap, sym, take}
use Rattle.dim_maintain.proofs.Behind.{behind_all, behind_none_yet, behind_more}
use Rattle.dim_maintain.proofs.Checked.{next_name, old_name}
use Rattle.dim_maintain.proofs.changing.move_all_behind.Goals as goal

pub loop-name-init : goal.loop-name-init
loop-name-init c = behind_none_yet c.args.made.now

pub loop-name-preserved : goal.loop-name-preserved
loop-name-preserved c =
    let next = next_name c.args.names.now c.loop-name.name-index c.name-item.result c.loop-name-test.true c.name-item.is in
    let old = old_name c.args.made.now c.args.names.now c.requires c.loop-name.name-index c.name-item.result next.0 in
    c.move_behind.ensures
    ∙ behind_more c.name-item.result c.args.made.now (take c.loop-name.name-index c.args.names.now) old.once c.loop-name.made c.loop-name.invariant
    ∙ ap (behind_all c.args.made.now) (sym next.1)
