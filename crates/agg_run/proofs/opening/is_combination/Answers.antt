use Rattle.std.proofs.Common.{ℕ, List, length, sym, ap, ◌∙◌}
use Rattle.aw_dim.specs.DimensionState.{DimensionState}
use Rattle.agg_run.proofs.Gathering.{no_combination}
use Rattle.agg_run.proofs.opening.is_combination.Goals as goal

pub returns-then-slots-dimensions-clause-value : goal.returns-then-slots-dimensions-clause-value
returns-then-slots-dimensions-clause-value c = sym (no_combination c.args.dimensions.now c.args.at.now (λ same.
    c.if-slots-dimensions.true (ap (λ (l : List ℕ). length l) c.slots-slots.ensures.value ∙ same ∙ sym (ap (λ (l : List DimensionState). length l) c.as_slice-dimensions.ensures))))
