use Rattle.std.proofs.Common.{◌∙◌, ap}
use Rattle.aw_dim.specs.DimensionState.{DimensionState}
use Rattle.aw_dim.specs.inside.Index.{name_by}
use Rattle.aw_dim.proofs.LookUps.{name-position}
use Rattle.aw_dim.proofs.dimension.Dimension.name_of.Goals as goal

pub returns : goal.returns
returns c =
    c.name_by.ensures
    ∙ ap (λ entries. name_by entries c.place.result) (c.as_slice.ensures.value ∙ ap (λ (values : DimensionState). values.entries) c.self.view_is)
    ∙ ap (name_by c.args.self.now.entries) c.place.ensures.value
    ∙ name-position c.args.self.now c.args.slot
