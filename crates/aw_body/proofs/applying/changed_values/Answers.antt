use Rattle.std.proofs.Common.{◌≡◌, ◌∙◌, true, false, true≢false, sym, refl}
use Rattle.aw_dim.specs.SameValues.{same_values, same_values-Decides}
use Rattle.aw_body.proofs.applying.changed_values.Goals as goal

pub returns-then-eq-clause-none : goal.returns-then-eq-clause-none
returns-then-eq-clause-none c =
    let same : same_values c.args.older.now c.args.newer.now ≡ true = sym c.eq.ensures ∙ c.if-eq.true in
    (λ _. (same_values-Decides c.args.older.now c.args.newer.now).0 same, λ _. refl)

pub returns-clause-none : goal.returns-clause-none
returns-clause-none c =
    let differ : same_values c.args.older.now c.args.newer.now ≡ false = sym c.eq.ensures ∙ c.if-eq.false in
    (λ some. absurd (true≢false some), λ equal. sym ((same_values-Decides c.args.older.now c.args.newer.now).1 equal) ∙ differ)
