use Rattle.std.proofs.Common.{◌≡◌, ℕ, length, int_lt, arith, subst}
use Rattle.std.specs.List.{IsFirstBest}
use Rattle.alloc_share.proofs.FirstBest.{is_first_greatest}
use Rattle.alloc_share.proofs.places.first_greatest.Goals as goal

pub returns-clause-value : goal.returns-clause-value
returns-clause-value c =
    let all : c.loop-other.other ≡ length c.args.weights.now = omega (arith, c.loop-other.auto.other-end (omega (arith, c.requires)), c.loop-other-test.false) in
    let P : ℕ → Type 0 = λ i. IsFirstBest (λ x y. int_lt y x) c.args.weights.now i c.loop-other.place in
    is_first_greatest c.args.weights.now c.loop-other.place (subst P all c.loop-other.invariant)
