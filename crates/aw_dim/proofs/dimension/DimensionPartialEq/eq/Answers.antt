use Rattle.std.proofs.Common.{◌≡◌, ◌∙◌, sym, rules}
use Rattle.aw_dim.specs.SameValues.{same_values, same_values-Decides}
use Rattle.aw_dim.proofs.dimension.DimensionPartialEq.eq.Goals as goal

pub returns-then-next-clause-equal : goal.returns-then-next-clause-equal
returns-then-next-clause-equal c =
    let same : c.eq.result ≡ same_values c.args.self.now c.args.other.now = search rules in
    let decides = same_values-Decides c.args.self.now c.args.other.now in
    (λ e. decides.0 (sym same ∙ e), λ e. same ∙ decides.1 e)
