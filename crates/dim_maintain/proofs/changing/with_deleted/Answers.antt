use Rattle.std.proofs.Common.{[], ◌∷◌, ◌∙◌, ap, sym, take}
use Rattle.aw_dim.specs.DimensionState.{DimensionState}
use Rattle.dim_maintain.specs.Maintained.{deleted}
use Rattle.dim_maintain.proofs.Behind.{deleted_none, deleted_more}
use Rattle.dim_maintain.proofs.Checked.{next_name}
use Rattle.dim_maintain.proofs.changing.with_deleted.Goals as goal

pub loop-name-init : goal.loop-name-init
loop-name-init c = c.in_ok-made.ensures ∙ deleted_none c.args.dimension.now

pub loop-name-preserved : goal.loop-name-preserved
loop-name-preserved c =
    let next = next_name c.args.names.now c.loop-name.name-index c.name-item.result c.loop-name-test.true c.name-item.is in
    c.remove_one.ensures
    ∙ ap (λ (values : DimensionState). deleted values (c.name-item.result ∷ [])) c.loop-name.invariant
    ∙ deleted_more c.args.dimension.now (take c.loop-name.name-index c.args.names.now) c.name-item.result
    ∙ ap (deleted c.args.dimension.now) (sym next.1)
