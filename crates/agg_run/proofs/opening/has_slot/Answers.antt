use Rattle.std.proofs.Common.{is_some, ap, ◌∙◌}
use Rattle.agg_run.proofs.Gathering.{position_among}
use Rattle.agg_run.proofs.opening.has_slot.Goals as goal

pub returns : goal.returns
returns c = c.is_some.ensures ∙ ap is_some c.position_of.ensures ∙ position_among c.args.dimension.now c.args.slot
